-- The pieces of which lines are made.
use Rattle.std.specs.Prelude.{◌≡◌, refl, Bool, true, false, List, [], ◌∷◌, ◌++◌, map, ℕ, zero, suc, ◌+◌, ◌*◌, ◌<◌, ◌≤◌, ℤ, length, get_or, take}
use Rattle.std.proofs.Common.{sym, ap, ap₂, ◌∙◌, append_assoc, append-nil, add-one, arith, take-suc, take_all, length-take-le, get_or-take, pos}
use Rattle.std.proofs.lemmas.List.{map-append}
use Rattle.whole.specs.Tab.{tab, tab_cong, tab_get_d}
use Rattle.model.specs.Set.{at}
use Rattle.model.specs.Text.{ascii, decimal, signed_decimal, following, verdict_word, ends}
use Rattle.text.specs.Appended.{Appended, both, named}

-- a word after a space
abbrev pub after_space : List ℕ → List ℕ
after_space w = ascii " " ++ w

-- a number after a space
abbrev pub item : ℕ → List ℕ
item n = after_space (decimal n)

abbrev pub signed_item : ℤ → List ℕ
signed_item z = after_space (signed_decimal z)

-- the first n numbers of a vector
abbrev pub firsts : ℕ → List ℤ → List ℤ
firsts n v = tab n (at v)

-- all of them, where there are n
pub firsts-all : (v : List ℤ) (n : ℕ) → length v ≡ n → firsts n v ≡ v
firsts-all v n h = tab_get_d n v (pos 0) h

-- as code takes them
pub firsts_taken : (n : ℕ) (v : List ℤ) → n ≤ length v → take n v ≡ firsts n v
firsts_taken n v h =
    sym (tab_get_d n (take n v) (pos 0) (length-take-le n v h)) ∙ tab_cong n _ (at v) (λ i l. get_or-take n v i (pos 0) l)

-- words, each after a space
unfoldable pub spaced : List (List ℕ) → List ℕ
spaced [] = []
spaced (w ∷ ws) = ascii " " ++ (w ++ spaced ws)

-- the first n of some numbers, each after a space
abbrev pub items : ℕ → List ℕ → List ℕ
items n ns = spaced (map decimal (take n ns))

-- ---- a verdict
pub safe_put : {a b : List ℕ} {i k : ℕ} (safe : Bool) → safe ≡ true
    → Appended 6 a b i k (ascii " safe\n") → Appended 9 a b i k (following (verdict_word safe ∷ []))
unfolding following ascii
safe_put safe e x = named (omega arith) (rw e) x

pub unknown_put : {a b : List ℕ} {i k : ℕ} (safe : Bool) → safe ≡ false
    → Appended 9 a b i k (ascii " unknown\n") → Appended 9 a b i k (following (verdict_word safe ∷ []))
unfolding following ascii
unknown_put safe e x = named (omega arith) (rw e) x

-- ---- the ends of a box, two a turn
pub no-ends : (low high : ℕ → ℤ) → [] ≡ spaced (ends (tab 0 low) (tab 0 high))
unfolding spaced ends tab
no-ends low high = refl

ends_more : (low high : ℕ → ℤ) (n : ℕ)
    → spaced (ends (tab n low) (tab n high)) ++ (signed_item (low n) ++ signed_item (high n))
    ≡ spaced (ends (tab (suc n) low) (tab (suc n) high))
unfolding spaced ends ascii tab
ends_more low high zero = ap (λ e. 32 ∷ (signed_decimal (low 0) ++ (32 ∷ e))) (sym (append-nil (signed_decimal (high 0))))
ends_more low high (suc n) =
    let first = signed_decimal (low 0) in
    let second = signed_decimal (high 0) in
    ap (32 ∷◌) (append_assoc first _ _ ∙ ap (λ e. first ++ (32 ∷ e)) (append_assoc second _ _
    ∙ ap (second ++◌) (ends_more (λ i. low (suc i)) (λ i. high (suc i)) n)))

pub ends_put : {most : ℕ} {a b c d : List ℕ} {i j k l : ℕ} (low high : ℕ → ℤ) (n : ℕ) (y z : ℤ)
    → Appended most a b i j (spaced (ends (tab n low) (tab n high)))
    → Appended 21 b c j k (signed_item y) → Appended 21 c d k l (signed_item z) → y ≡ low n → z ≡ high n
    → Appended (most + 42) a d i l (spaced (ends (tab (n + 1) low) (tab (n + 1) high)))
ends_put low high n y z p q r e f =
    named (omega arith) (ap₂ (λ u v. spaced (ends (tab n low) (tab n high)) ++ (signed_item u ++ signed_item v)) e f
    ∙ ends_more low high n ∙ ap (λ m. spaced (ends (tab m low) (tab m high))) (sym (add-one n))) (both p (both q r))

-- ---- numbers, one a turn
spaced_append : (xs ys : List (List ℕ)) → spaced (xs ++ ys) ≡ spaced xs ++ spaced ys
unfolding spaced ascii
spaced_append [] ys = refl
spaced_append (x ∷ xs) ys = ap (32 ∷◌) (ap (x ++◌) (spaced_append xs ys) ∙ sym (append_assoc x (spaced xs) (spaced ys)))

pub no_items : (ns : List ℕ) → [] ≡ items 0 ns
unfolding spaced
no_items ns = refl

one-item : (n : ℕ) → spaced (decimal n ∷ []) ≡ item n
unfolding spaced
one-item n = ap (ascii " " ++◌) (append-nil (decimal n))

items_more : (ns : List ℕ) (i : ℕ) → i < length ns → items i ns ++ item (get_or ns i 0) ≡ items (i + 1) ns
items_more ns i h =
    ap (items i ns ++◌) (sym (one-item (get_or ns i 0)))
    ∙ sym (ap spaced (ap (λ k. map decimal (take k ns)) (add-one i) ∙ ap (map decimal) (take-suc ns i 0 h)
    ∙ map-append decimal (take i ns) (get_or ns i 0 ∷ [])) ∙ spaced_append (map decimal (take i ns)) (decimal (get_or ns i 0) ∷ []))

pub items_put : {a b c : List ℕ} {p q r : ℕ} (ns : List ℕ) (i : ℕ) → i < length ns → Appended (21 * i) a b p q (items i ns)
    → Appended 21 b c q r (item (get_or ns i 0)) → Appended (21 * (i + 1)) a c p r (items (i + 1) ns)
items_put ns i h x y = named (omega arith) (items_more ns i h) (both x y)

pub items-all : (ns : List ℕ) (n : ℕ) → length ns ≤ n → items n ns ≡ spaced (map decimal ns)
items-all ns n h = ap (λ l. spaced (map decimal l)) (take_all n ns h)
