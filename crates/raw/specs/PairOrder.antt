-- The used pairs of the table are the definition's pairs, in its order.
use Rattle.std.specs.Prelude.{Bool, true, false, cond, ◌≡◌, ltb}
use mathlib.Core.List.{List, [], ◌∷◌, ◌++◌, map, map-append}
use Rattle.std.proofs.Math.Path.{refl, sym, ap, ap₂}
use Rattle.std.proofs.Common.{◌∙◌, le_of_suc-le-suc, add-zero, lt-ltb, le-ltb}
use Prim.Native.Nat.{ℕ, zero, suc, ◌+◌, ◌*◌, ◌-◌, ◌%◌, ◌<◌, ◌≤◌}
use Rattle.std.proofs.Math.Decide.{dec_lt}
use native.Mathlib.Omega.{arith}
use Rattle.whole.specs.Tab.{tab, tab_cong, map-tab}
use Rattle.model.specs.Pairs.{rows_from, pair_codes}
use Rattle.model.specs.Set.{Term, Zonotope}
use Rattle.model.specs.Step.{Step, pairs, squared, paired}
use Rattle.raw.specs.Pairs.{used}

-- ---- what is used of two lists, and of a row
used_append : (h : ℕ) (xs ys : List ℕ) → used h (xs ++ ys) ≡ used h xs ++ used h ys
unfolding used
used_append h [] ys = refl
used_append h (x ∷ xs) ys = go (ltb (x % 40) h) (used_append h xs ys)
  where
    go : (b : Bool) → used h (xs ++ ys) ≡ used h xs ++ used h ys
        → cond b (x ∷ used h (xs ++ ys)) (used h (xs ++ ys)) ≡ cond b (x ∷ used h xs) (used h xs) ++ used h ys
    go true e = ap (x ∷◌) e
    go false e = e

used-row : (h N M : ℕ) (f : ℕ → ℕ) → M ≤ N → ((k : ℕ) → k < M → f k % 40 < h) → ((k : ℕ) → M ≤ k → k < N → h ≤ f k % 40) →
    used h (tab N f) ≡ tab M f
unfolding used tab
used-row h zero zero f l a b = refl
used-row h zero (suc M) f l a b = absurd (omega arith)
used-row h (suc N) zero f l a b =
    rw (le-ltb (f 0 % 40) h (b 0 (omega arith) (omega arith)))
    (used-row h N 0 (λ k. f (suc k)) (omega arith) (λ k m. absurd (omega arith)) (λ k m n. b (suc k) (omega arith) (omega arith)))
used-row h (suc N) (suc M) f l a b =
    rw (lt-ltb (f 0 % 40) h (a 0 (omega arith)))
    (ap (f 0 ∷◌) (used-row h N M (λ k. f (suc k)) (le_of_suc-le-suc l) (λ k m. a (suc k) (omega arith))
    (λ k m n. b (suc k) (omega arith) (omega arith))))

-- `form` brings a term to another form, and `row` gives that of a pair by its code
module _ (p : Step) (z : Zonotope) (h : ℕ) (most : h ≤ 40) (term : ℕ → Term) (form : Term → Term) (row : ℕ → Term)
    (square : (t : ℕ) → t < h → row (40 * t + t) ≡ form (squared p z (term t)))
    (pair : (s t : ℕ) → s < t → t < h → row (40 * s + t) ≡ form (paired p z (term s) (term t))) where
  -- the pairs of terms first, first + 1 .. h - 1
  abbrev later : ℕ → List Term
  later first = tab (h - first) (λ k. term (first + k))

  -- row `first` of the table, as far as it is used
  abbrev line : ℕ → ℕ → ℕ
  line first k = 40 * first + (first + k)

  line-used : (first left : ℕ) → first + left ≡ 40 → used h (tab left (line first)) ≡ tab (h - first) (line first)
  line-used first left e = used-row h left (h - first) (line first) (omega arith) (λ k l. omega arith) (λ k m l. omega arith)

  row-pairs : (first d : ℕ) → first + suc d ≡ h → map row (tab (suc d) (line first))
      ≡ form (squared p z (term first)) ∷ map form (map (paired p z (term first)) (tab d (λ k. term (first + 1 + k))))
  unfolding tab
  row-pairs first d e =
      ap₂ ◌∷◌
      (let f : 40 * first + (first + 0) ≡ 40 * first + first = omega arith in ap row f ∙ square first (omega arith))
      (map-tab row d (λ k. line first (suc k))
      ∙ tab_cong d (λ k. row (line first (suc k))) (λ k. form (paired p z (term first) (term (first + 1 + k))))
      (λ k l.
      let f : 40 * first + (first + suc k) ≡ 40 * first + (first + 1 + k) = omega arith in
      ap row f ∙ pair first (first + 1 + k) (omega arith) (omega arith))
      ∙ sym (ap (map form) (map-tab (paired p z (term first)) d (λ k. term (first + 1 + k)))
      ∙ map-tab form d (λ k. paired p z (term first) (term (first + 1 + k)))))

  pairs-later : (first d : ℕ) → h - first ≡ suc d → pairs p z (later first)
      ≡ squared p z (term first) ∷ (map (paired p z (term first)) (tab d (λ k. term (first + 1 + k))) ++ pairs p z
      (tab d (λ k. term (first + 1 + k))))
  unfolding pairs tab
  pairs-later first d e =
      ap (λ (n : ℕ). pairs p z (tab n (λ k. term (first + k)))) e
      ∙ ap₂ (λ (t : Term) (ts : List Term). squared p z t ∷ (map (paired p z t) ts ++ pairs p z ts))
      (ap term (add-zero first))
      (tab_cong d (λ k. term (first + suc k)) (λ k. term (first + 1 + k))
      (λ k l. let f : first + suc k ≡ first + 1 + k = omega arith in ap term f))

  rows-used : (left first : ℕ) → first + left ≡ 40 → map row (used h (rows_from 40 first left)) ≡ map form (pairs p z (later first))
  unfolding rows_from used pairs tab
  rows-used zero first e =
      let n : h - first ≡ 0 = omega arith in
      sym (ap (λ (m : ℕ). map form (pairs p z (tab m (λ k. term (first + k))))) n ∙ nothing)
    where
      nothing : map form (pairs p z (tab 0 (λ k. term (first + k)))) ≡ []
      nothing = refl
  rows-used (suc left) first e =
      ap (map row) (used_append h (tab (suc left) (line first)) (rows_from 40 (first + 1) left))
      ∙ map-append row (used h (tab (suc left) (line first))) (used h (rows_from 40 (first + 1) left))
      ∙ ap₂ (λ (a b : List Term). a ++ b) (ap (map row) (line-used first (suc left) e)) (rows-used left (first + 1) (omega arith))
      ∙ go (dec_lt first h)
    where
      go : Dec (first < h) → map row (tab (h - first) (line first)) ++ map form (pairs p z (later (first + 1))) ≡
          map form (pairs p z (later first))
      go (yes l) =
          let d = h - (first + 1) in
          let n : h - first ≡ suc (h - (first + 1)) = omega arith in
          ap (λ (m : ℕ). map row (tab m (line first)) ++ map form (pairs p z (later (first + 1)))) n
          ∙ ap (λ (a : List Term). a ++ map form (pairs p z (later (first + 1)))) (row-pairs first (h - (first + 1)) (omega arith))
          ∙ ap (form (squared p z (term first)) ∷◌) (sym (map-append form (map (paired p z (term first)) (later (first + 1)))
          (pairs p z (later (first + 1)))))
          ∙ sym (ap (map form) (pairs-later first (h - (first + 1)) n))
      go (no l) =
          let n : h - first ≡ 0 = omega arith in
          let m : h - (first + 1) ≡ 0 = omega arith in
          ap₂ (λ (a b : ℕ). map row (tab a (line first)) ++ map form (pairs p z (tab b (λ k. term (first + 1 + k))))) n m
          ∙ both_empty
          ∙ sym (ap (λ (a : ℕ). map form (pairs p z (tab a (λ k. term (first + k))))) n)
        where
          both_empty : map row (tab 0 (line first)) ++ map form (pairs p z (tab 0 (λ k. term (first + 1 + k)))) ≡
              map form (pairs p z (tab 0 (λ k. term (first + k))))
          both_empty = refl

  pub pairs-used : map row (used h (pair_codes 40)) ≡ map form (pairs p z (tab h term))
  unfolding pair_codes
  pairs-used =
      let n : h - 0 ≡ h = omega arith in
      rows-used 40 0 refl
      ∙ ap (λ (m : ℕ). map form (pairs p z (tab m (λ k. term (0 + k))))) n
      ∙ ap (λ (ts : List Term). map form (pairs p z ts))
      (tab_cong h (λ k. term (0 + k)) term (λ k l. let e : 0 + k ≡ k = omega arith in ap term e))
