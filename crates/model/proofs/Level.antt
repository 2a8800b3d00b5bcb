-- The bar for a limit: a size that at least `limit` elements have and at most `limit` exceed. There is one, and folding down to the limit
-- folds what lies below it.
use mathlib.Core.List.{List, [], ◌∷◌}
use mathlib.Core.Path.{◌≡◌, refl, ap, ◌∙◌}
use Prim.Native.Nat.{ℕ, zero, suc, ◌+◌, ◌-◌, ◌≤◌, ◌<◌}
use native.Mathlib.Omega.{arith}
use lib.Dec.{leb}
use lib.ListN.{length}
use borrow.Author.Tests.{le-leb, lt-leb, eq-eqb, ne_eqb}
use Rattle.whole.specs.Sum.{sum_ℕ, sum_by}
use Rattle.model.specs.Finish.{Core, those, fold_times, fold_until}
use Rattle.model.proofs.Select.{bar, left, folded_below, at_once, by_less, bar-low, bar-high, low-folds}
use Rattle.model.proofs.Select.{high-folds, folds_none, times_at_once}

-- how many elements have at least size T
unfoldable pub level : {A : Type 0} → (A → ℕ) → ℕ → List A → ℕ
level f T l = length (those (λ a. leb T (f a)) l)

-- at most `limit` elements are larger than T, and at least `limit` are no smaller
pub record Bar {A : Type 0} (f : A → ℕ) (limit : ℕ) (l : List A) (T : ℕ) : Type 0 where
  pub most : level f (suc T) l ≤ limit
  pub enough : limit ≤ level f T l

-- how many of size T are kept
abbrev pub share : {A : Type 0} → (A → ℕ) → ℕ → List A → ℕ → ℕ
share f limit l T = limit - level f (suc T) l

-- a fact by how two numbers stand to each other
by_place : (x y : ℕ) {P : Type 0} → (x < y → P) → (x ≡ y → P) → (y < x → P) → P
by_place x y below at above = by_less x y below (λ (h : y ≤ x). by_less y x above (λ (g : x ≤ y). at (omega arith)))

module _ {A : Type 0} (f : A → ℕ) where
  module _ (T : ℕ) where
    pub level_none : level f T [] ≡ 0
    unfolding level those
    level_none = refl

    pub level_in : (a : A) (l : List A) → T ≤ f a → level f T (a ∷ l) ≡ suc (level f T l)
    unfolding level those
    level_in a l h = rw (le-leb T (f a) h)

    pub level_out : (a : A) (l : List A) → f a < T → level f T (a ∷ l) ≡ level f T l
    unfolding level those
    level_out a l h = rw (lt-leb T (f a) h)

    -- one more element counts for one at most
    pub level-more : (a : A) (l : List A) → (level f T l ≤ level f T (a ∷ l)) × (level f T (a ∷ l) ≤ suc (level f T l))
    level-more a l =
        by_less (f a) T
        (λ (h : f a < T). rw (level_out a l h) (omega arith, omega arith)) (λ (h : T ≤ f a). rw (level_in a l h) (omega arith, omega arith))

  -- no size is below 0, and none above all sizes together
  pub level-zero : (l : List A) → level f 0 l ≡ length l
  level-zero [] = level_none 0
  level-zero (a ∷ l) = level_in 0 a l (omega arith) ∙ ap suc (level-zero l)

  level-above : (n : ℕ) (l : List A) → sum_ℕ f l < n → level f n l ≡ 0
  unfolding sum_by
  level-above n [] h = level_none n
  level-above n (a ∷ l) h = level_out n a l (omega arith) ∙ level-above n l (omega arith)

  pub level-falls : (T : ℕ) (l : List A) → level f (suc T) l ≤ level f T l
  level-falls T [] = omega (arith, level_none T, level_none (suc T))
  level-falls T (a ∷ l) =
      let h = level-falls T l in
      by_place (f a) T
      (λ (c : f a < T). omega (arith, level_out T a l c, level_out (suc T) a l (omega arith)))
      (λ (c : f a ≡ T). omega (arith, level_in T a l (omega arith), level_out (suc T) a l (omega arith)))
      (λ (c : T < f a). omega (arith, level_in T a l (omega arith), level_in (suc T) a l c))

  -- the level falls from all to none, so it passes every limit
  bar_under : (n limit : ℕ) (l : List A) → level f n l ≤ limit → limit ≤ level f 0 l → (T : ℕ) × Bar f limit l T
  bar_under zero limit l p q = (0, record { most = omega (arith, level-falls 0 l); enough = q })
  bar_under (suc n) limit l p q =
      by_less limit (level f n l)
      (λ (h : limit < level f n l). (n, record { most = p; enough = omega arith }))
      (λ (h : level f n l ≤ limit). bar_under n limit l h q)

  -- every limit up to the number of elements has a bar
  pub bar_exists : (limit : ℕ) (l : List A) → limit ≤ length l → (T : ℕ) × Bar f limit l T
  bar_exists limit l h =
      bar_under (suc (sum_ℕ f l)) limit l (omega (arith, level-above (suc (sum_ℕ f l)) l (omega arith))) (omega (arith, level-zero l))

  -- ---- how many are folded
  module _ (T : ℕ) where
    left-same : (r x : ℕ) → x ≡ T → left T r x ≡ r - 1
    left-same r x h = rw (eq-eqb x T h)

    left_other : (r x : ℕ) → T < x → left T r x ≡ r
    left_other r x h = rw (ne_eqb x T (λ (e : x ≡ T). omega arith))

    bar-zero : (r : ℕ) → r ≡ 0 → bar T r ≡ suc T
    bar-zero r h = rw h

    bar_some : (r : ℕ) → 0 < r → bar T r ≡ T
    bar_some zero h = absurd (omega arith)
    bar_some (suc r) h = refl

    -- where there are r of size T, all are folded but these and those that are larger
    folded_count : (l : List A) (r : ℕ) → r + level f (suc T) l ≤ level f T l →
        length (folded_below f T r l) + (r + level f (suc T) l) ≡ length l
    folded_count [] r h = omega (arith, level_none T, level_none (suc T), ap length (folds_none f T r))
    folded_count (a ∷ l) r h =
        by_place (f a) T
        (λ (c : f a < T).
        let p = level_out T a l c in
        let q = level_out (suc T) a l (omega arith) in
        omega (arith, ap length (low-folds f T r a l (omega (arith, bar-low T r))), folded_count l r (omega arith)))
        (λ (c : f a ≡ T).
        let p = level_in T a l (omega arith) in
        let q = level_out (suc T) a l (omega arith) in
        by_less 0 r
        (λ (d : 0 < r).
        let e = ap length (high-folds f T r a l (omega (arith, bar_some r d)))
        ∙ ap (λ (n : ℕ). length (folded_below f T n l)) (left-same r (f a) c) in
        omega (arith, e, folded_count l (r - 1) (omega arith)))
        (λ (d : r ≤ 0).
        let z : r ≡ 0 = omega arith in
        omega (arith, ap length (low-folds f T r a l (omega (arith, bar-zero r z))), folded_count l r (omega (arith, level-falls T l)))))
        (λ (c : T < f a).
        let p = level_in T a l (omega arith) in
        let q = level_in (suc T) a l c in
        let e = ap length (high-folds f T r a l (omega (arith, bar-high T r)))
        ∙ ap (λ (n : ℕ). length (folded_below f T n l)) (left_other r (f a) c) in
        omega (arith, e, folded_count l r (omega arith)))

  -- at a bar, all but `limit` are folded
  pub bar_count : (limit : ℕ) (l : List A) {T : ℕ} → Bar f limit l T → length (folded_below f T (share f limit l T) l) + limit ≡ length l
  bar_count limit l {T} b =
      let p = b.most in
      let q = b.enough in
      omega (arith, folded_count T l (share f limit l T) (omega arith))

-- ---- folding down to a limit
module _ {A : Type 0} (f : A → ℕ) (fold : A → Core → Core) (limit : ℕ) (k : Core) (l : List A) where
  times_none : (n : ℕ) → n ≡ 0 → fold_times f fold n k l ≡ record { core = k; kept = l }
  unfolding fold_times
  times_none n e = rw e

  -- at a bar, the smallest one at a time are all that lie below it at once
  pub until_at_once : ((a b : A) (k : Core) → fold a (fold b k) ≡ fold b (fold a k)) → {T : ℕ} → Bar f limit l T →
      fold_until f fold limit k l ≡ at_once f fold T (share f limit l T) k l
  until_at_once swap {T} b = times_at_once f fold swap T _ (share f limit l T) l k (omega (arith, bar_count f limit l b))

  -- where there are no more than the limit nothing is folded
  pub until_few : length l ≤ limit → fold_until f fold limit k l ≡ record { core = k; kept = l }
  until_few h = times_none _ (omega arith)
