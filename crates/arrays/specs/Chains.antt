-- What the library's chains over a list or a range decide, by this repository's tests of tables, and parts of a list as tables.
use Rattle.std.specs.Prelude.{◌≡◌, refl, List, [], ◌∷◌, ◌++◌, Bool, true, false, ◌&&◌, ◌||◌, ℕ, zero, suc, ◌+◌, ◌-◌, ◌<◌, ◌≤◌, length, get_or, take, drop}
use Rattle.std.specs.List.{list_any, list_all, range_with_len, IsAllAdjacentAnswer}
use Rattle.std.specs.Ordering.{is_lt, is_some_and, nat_cmp}
use Rattle.std.specs.Prelude.{Some}
use Rattle.std.specs.Cmp.Lexicographic.{slice_partial_cmp}
use Rattle.std.proofs.Common.{sym, ◌∙◌, ap, ap₂, arith, ext_get_or, length-drop}
use Rattle.std.proofs.lemmas.List.{length-take-le, get_or-take, get_or-drop, take_rest}
use Rattle.std.proofs.lemmas.Cmp.{same_from_slice_cmp_tested}
use Rattle.std.proofs.lemmas.Bool.Decides.{nat_tests}
use Rattle.std.proofs.Math.Bool.{or_assoc}
use Rattle.whole.specs.Tab.{tab, any, all, length-tab, get_d_tab, tab_cong, tab_get_d}
use Rattle.whole.specs.Tests.{some_below, each_below}
use Rattle.whole.specs.Chains.{any_listed, all_listed}
use Rattle.model.specs.Valid.{order, is_less, rises}
use Rattle.arrays.specs.Ascent.{rises_failed, rises-passed}

-- ---- tests over a list that grows at its end
pub any-end : {A : Type 0} (p : A → Bool) (xs : List A) (x : A) → any p (xs ++ (x ∷ [])) ≡ any p xs || p x
unfolding any
any-end p [] x = last (p x)
  where
    last : (b : Bool) → b || false ≡ b
    last true = refl
    last false = refl
any-end p (y ∷ xs) x = ap (λ b. p y || b) (any-end p xs x) ∙ sym (or_assoc (p y) (any p xs) (p x))

-- ---- tests over the range 0 .. n - 1
range-tab : (n i : ℕ) → range_with_len i n ≡ tab n (λ k. i + k)
unfolding tab
range-tab zero i = refl
range-tab (suc n) i = ap₂ ◌∷◌ (omega arith) (range-tab n (i + 1) ∙ tab_cong n _ _ (λ k l. omega arith))

pub some_listed : (p : ℕ → Bool) (n : ℕ) → list_any p (range_with_len 0 n) ≡ some_below n p
some_listed p n = any_listed p _ ∙ ap (any p) (range-tab n 0 ∙ tab_cong n _ _ (λ k l. omega arith))

pub each_listed : (p : ℕ → Bool) (n : ℕ) → list_all p (range_with_len 0 n) ≡ each_below n p
each_listed p n = all_listed p _ ∙ ap (all p) (range-tab n 0 ∙ tab_cong n _ _ (λ k l. omega arith))

-- each place from 1 on beside the one before it
pub rises_listed : {A : Type 0} (before : A → A → Bool) (f : ℕ → A) (n : ℕ)
    → list_all (λ t. before (f (t - 1)) (f t)) (range_with_len 1 (n - 1)) ≡ rises before (tab n f)
unfolding tab rises
rises_listed before f zero = refl
rises_listed before f (suc n) =
    let e : suc n - 1 ≡ n = omega arith in
    let z : (k : ℕ) → 0 + k ≡ k = λ k. omega arith in
    rw e (from n 0 ∙ ap (rises before) (tab_cong (suc n) (λ k. f (0 + k)) f (λ k l. ap f (z k))))
  where
    from : (n i : ℕ) → list_all (λ t. before (f (t - 1)) (f t)) (range_with_len (i + 1) n) ≡ rises before (tab (suc n) (λ k. f (i + k)))
    from zero i = refl
    from (suc n) i =
        let a : i + 1 - 1 ≡ i + 0 = omega arith in
        let z : (k : ℕ) → i + 1 + k ≡ i + suc k = λ k. omega arith in
        ap₂ ◌&&◌ (ap (λ m. before (f m) (f (i + 1))) a)
        (from n (i + 1) ∙ ap (rises before) (tab_cong (suc n) (λ k. f (i + 1 + k)) (λ k. f (i + suc k)) (λ k l. ap f (z k))))

-- neighbours of a list, as its own test of them says
pub rises_sorted : {A : Type 0} (before : A → A → Bool) (d : A) (xs : List A) (r : Bool)
    → IsAllAdjacentAnswer (λ x y b. b ≡ before x y) xs r → r ≡ rises before xs
rises_sorted before d xs true h =
    sym (ap (rises before) (sym (tab_get_d (length xs) xs d refl)) ∙ rises-passed before (length xs) (λ i. get_or xs i d) (λ k l. sym (h k d l)))
rises_sorted before d xs false h =
    sym (ap (rises before) (sym (tab_get_d (length xs) xs d refl))
    ∙ rises_failed before (length xs) (λ i. get_or xs i d) h.0 h.1 (sym (h.2 d)))

-- ---- parts of a list
-- the n entries from a place on
pub part-tab : {A : Type 0} (d : A) (xs : List A) (a n : ℕ) → a + n ≤ length xs → take n (drop a xs) ≡ tab n (λ i. get_or xs (a + i) d)
part-tab d xs a n h =
    let l : length (take n (drop a xs)) ≡ n = length-take-le n (drop a xs) (omega (arith, length-drop a xs)) in
    ext_get_or d (take n (drop a xs)) (tab n (λ i. get_or xs (a + i) d)) (l ∙ sym (length-tab n (λ i. get_or xs (a + i) d))) (λ j m.
    get_or-take n (drop a xs) j d (omega arith) ∙ get_or-drop a xs j d
    ∙ sym (get_d_tab n (λ i. get_or xs (a + i) d) d j (omega arith)))

pub part-at : {A : Type 0} (d : A) (xs : List A) (a n i : ℕ) → i < n → get_or (take n (drop a xs)) i d ≡ get_or xs (a + i) d
part-at d xs a n i h = get_or-take n (drop a xs) i d h ∙ get_or-drop a xs i d

pub first-tab : {A : Type 0} (d : A) (xs : List A) (n : ℕ) → n ≤ length xs → take n xs ≡ tab n (λ i. get_or xs i d)
first-tab d xs n h =
    let z : (k : ℕ) → 0 + k ≡ k = λ k. omega arith in
    part-tab d xs 0 n (omega arith) ∙ tab_cong n (λ i. get_or xs (0 + i) d) (λ i. get_or xs i d) (λ i l. ap (λ k. get_or xs k d) (z i))

pub rest-tab : {A : Type 0} (d : A) (xs : List A) (a : ℕ) → a ≤ length xs → drop a xs ≡ tab (length xs - a) (λ i. get_or xs (a + i) d)
rest-tab d xs a h = sym (take_rest xs a) ∙ part-tab d xs a (length xs - a) (omega arith)

-- ---- the order of two rows is that of the library
pub row_less : (xs ys : List ℕ) (r : Bool) → r ≡ is_some_and is_lt (slice_partial_cmp (λ x y. Some (nat_cmp x y)) xs ys) → r ≡ is_less (order xs ys)
unfolding order
row_less xs ys r e =
    same_from_slice_cmp_tested nat_cmp is_lt (λ u v. is_less (order u v)) refl (λ _ _. refl) (λ _ _. refl)
    (λ x y xs ys o h. grind (arith, nat_tests)) xs ys r e
