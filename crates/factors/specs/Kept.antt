-- What is kept of a list by a test on places: it stands at the chosen places.
use Rattle.std.specs.Prelude.{List, [], ◌∷◌, map, Bool, true, false, cond, ◌≡◌, refl, ℕ, zero, suc, ◌+◌, ◌<◌, ◌≤◌, length, get_or}
use Rattle.std.proofs.Common.{sym, ap, ap₂, ◌∙◌, arith, add-one}
use Rattle.std.proofs.lemmas.List.{length-map}
use Rattle.whole.specs.Tab.{tab, length-tab, get_d_tab}
use Rattle.model.specs.Finish.{those, keep_at}
use Rattle.model.specs.Motion.{places}
use Rattle.model.proofs.WholeForms.{All-places}
use Rattle.model.proofs.Select.{by_less}
use Rattle.fold.specs.Chosen.{chosen, chosen_out, chosen_cong, those_cong, those-all, those-map, map_cong, tab-places}

map-map : {A B C : Type 0} (g : B → C) (f : A → B) (l : List A) → map g (map f l) ≡ map (λ a. g (f a)) l
map-map g f [] = refl
map-map g f (a ∷ l) = ap (g (f a) ∷◌) (map-map g f l)

cond_map : {A B : Type 0} (g : A → B) (b : Bool) (a : A) (m : List A) → cond b (g a ∷ map g m) (map g m) ≡ map g (cond b (a ∷ m) m)
cond_map g true a m = refl
cond_map g false a m = refl

-- what is kept of a list stands at the chosen places
kept_from : (p : ℕ → Bool) (j : ℕ) (xs : List ℕ) → keep_at p j xs ≡ map (λ i. get_or xs i 0) (those (λ i. p (j + i)) (places (length xs)))
unfolding keep_at tab those
kept_from p j [] = refl
kept_from p j (x ∷ xs) =
    let g : ℕ → ℕ = λ i. get_or (x ∷ xs) i 0 in
    let q : ℕ → Bool = λ i. p (j + i) in
    let n = length xs in
    let later = those q (tab n (λ i. suc i)) in
    let rest : keep_at p (j + 1) xs ≡ map g later =
    kept_from p (j + 1) xs
    ∙ ap (map (λ i. get_or xs i 0))
    (those_cong (λ i. p (j + 1 + i)) (λ i. q (suc i)) (All-places n (λ i h. let e : j + 1 + i ≡ j + suc i = omega arith in ap p e)))
    ∙ sym
    (ap (map g) (ap (those q) (tab-places n (λ i. suc i)) ∙ those-map (λ i. suc i) q (places n))
    ∙ map-map g (λ i. suc i) (those (λ i. q (suc i)) (places n))) in
    let z : j ≡ j + 0 = omega arith in
    ap₂ (λ (b : Bool) (l : List ℕ). cond b (x ∷ l) l) (ap p z) rest ∙ cond_map g (p (j + 0)) 0 later

-- of a table
pub kept-tab : (p : ℕ → Bool) (n : ℕ) (f : ℕ → ℕ) → keep_at p 0 (tab n f) ≡ map f (chosen p n)
kept-tab p n f =
    let g : ℕ → ℕ = λ i. get_or (tab n f) i 0 in
    kept_from p 0 (tab n f)
    ∙ ap (λ (m : ℕ). map g (those (λ i. p (0 + i)) (places m))) (length-tab n f)
    ∙ ap (map g) (those_cong (λ i. p (0 + i)) p (All-places n (λ i h. let e : 0 + i ≡ i = omega arith in ap p e)))
    ∙ map_cong g f (those-all p (All-places n (λ i h. get_d_tab n f 0 i h)))

-- tests that agree keep the same
pub kept_cong : (p q : ℕ → Bool) (n : ℕ) (f : ℕ → ℕ) → ((i : ℕ) → i < n → p i ≡ q i) → keep_at p 0 (tab n f) ≡ keep_at q 0 (tab n f)
kept_cong p q n f h = kept-tab p n f ∙ ap (map f) (chosen_cong p q n h) ∙ sym (kept-tab q n f)

-- places at the end that don't pass change nothing
pub kept_front : (p : ℕ → Bool) (f : ℕ → ℕ) (m n : ℕ) → m ≤ n → ((i : ℕ) → m ≤ i → p i ≡ false) →
    keep_at p 0 (tab n f) ≡ keep_at p 0 (tab m f)
kept_front p f m n l h = kept-tab p n f ∙ ap (map f) (same n l) ∙ sym (kept-tab p m f)
  where
    same : (n : ℕ) → m ≤ n → chosen p n ≡ chosen p m
    same zero g = let e : zero ≡ m = omega arith in ap (chosen p) e
    same (suc n) g = by_less m (suc n)
        (λ (d : m < suc n). ap (chosen p) (sym (add-one n)) ∙ chosen_out p n (h n (omega arith)) ∙ same n (omega arith))
        (λ (d : suc n ≤ m). let e : suc n ≡ m = omega arith in ap (chosen p) e)

pub map_at : {A B : Type 0} (f : A → B) (l : List A) (i : ℕ) (d : A) (b : B) → i < length l → get_or (map f l) i b ≡ f (get_or l i d)
map_at f [] i d b h = absurd (omega arith)
map_at f (a ∷ l) zero d b h = refl
map_at f (a ∷ l) (suc i) d b h = map_at f l i d b (omega arith)

-- how many are kept
pub kept-length : (p : ℕ → Bool) (n : ℕ) (f : ℕ → ℕ) → length (keep_at p 0 (tab n f)) ≡ length (chosen p n)
kept-length p n f = ap length (kept-tab p n f) ∙ length-map (chosen p n) f
