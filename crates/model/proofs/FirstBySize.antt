-- What finishing keeps of the terms and of the generators: the first by size, the largest first, and of equals the earlier; the others are
-- folded, in whatever order.
use mathlib.Core.List.{List, [], ◌∷◌}
use mathlib.Core.Path.{◌≡◌, refl, ap}
use Prim.Native.Nat.{ℕ, suc, ◌+◌, ◌≤◌, ◌<◌}
use native.Mathlib.Omega.{arith}
use lib.ListN.{length}
use lib.IntN.{ℤ}
use Rattle.rational.specs.Sum.{All, none, more}
use Rattle.model.specs.Set.{Term, Zonotope}
use Rattle.model.specs.Finish.{Core, Folded, size, fold_term, fold_generator, fold_all, fold_until, core, with_terms, with_generators}
use Rattle.model.specs.Finish.{fold_terms, fold_generators}
use Rattle.model.proofs.Select.{bar, left, keep_above, folded_below, at_once, by_less, bar-low, bar-high, bar-left, low_keeps}
use Rattle.model.proofs.Select.{low-folds, high_keeps, high-folds, folds_none, keeps_none}
use Rattle.model.proofs.FoldOrder.{term-swap, generator_swap}
use Rattle.model.proofs.Level.{level, Bar, share, level_none, level_in, level_out, level-more, bar_exists, bar_count}
use Rattle.model.proofs.Level.{until_at_once, until_few}

-- a list as those of it that are kept and those that are folded, in their order: a kept one is at least as large as those folded after it,
-- and a folded one is smaller than those kept after it
pub data Parted {A : Type 0} (f : A → ℕ) : List A → List A → List A → Type 0 where
  empty : Parted f [] [] []
  keeps : {a : A} {l kept folded : List A} → All (λ b. f b ≤ f a) folded → Parted f l kept folded → Parted f (a ∷ l) (a ∷ kept) folded
  folds : {a : A} {l kept folded : List A} → All (λ b. f a < f b) kept → Parted f l kept folded → Parted f (a ∷ l) kept (a ∷ folded)

-- of l, at most `limit` are kept, the first by size and then by place, and the core k makes up for the others
pub record FirstBySize {A : Type 0} (f : A → ℕ) (fold : A → Core → Core) (limit : ℕ) (k : Core) (l : List A) (result : Folded A) : Type 0
  where
    pub folded : List A
    pub parted : Parted f l result.kept folded
    pub as_many : limit ≤ length l → length result.kept ≡ limit
    pub few : length l ≤ limit → result ≡ record { core = k; kept = l }
    pub core_is : result.core ≡ fold_all fold folded k

module _ {A : Type 0} (f : A → ℕ) where
  all-kept : (l : List A) → Parted f l l []
  all-kept [] = empty
  all-kept (a ∷ l) = keeps none (all-kept l)

  pub parted-length : {l kept folded : List A} → Parted f l kept folded → length kept + length folded ≡ length l
  parted-length empty = refl
  parted-length (keeps h p) = omega (arith, parted-length p)
  parted-length (folds h p) = omega (arith, parted-length p)

  -- how many are larger than n, where all that are folded are not, and where all that are kept are
  few_larger : {l kept folded : List A} (n : ℕ) → Parted f l kept folded → All (λ b. f b ≤ n) folded → level f (suc n) l ≤ length kept
  few_larger n empty h = omega (arith, level_none f (suc n))
  few_larger n (keeps {a = a} {l = l} g p) h = omega (arith, few_larger n p h, level-more f (suc n) a l)
  few_larger n (folds {a = a} {l = l} g p) (more d h) = omega (arith, few_larger n p h, level_out f (suc n) a l (omega arith))

  many-larger : {l kept folded : List A} (n : ℕ) → Parted f l kept folded → All (λ b. n < f b) kept → length kept ≤ level f (suc n) l
  many-larger n empty h = omega arith
  many-larger n (keeps {a = a} {l = l} g p) (more d h) = omega (arith, many-larger n p h, level_in f (suc n) a l d)
  many-larger n (folds {a = a} {l = l} g p) h = omega (arith, many-larger n p h, level-more f (suc n) a l)

  -- there is just one way to keep so many
  pub parted_once : {l k g m h : List A} → Parted f l k g → Parted f l m h → length k ≡ length m → (k ≡ m) × (g ≡ h)
  parted_once empty empty e = (refl, refl)
  parted_once (keeps {a = a} u p) (keeps v q) e = let o = parted_once p q (omega arith) in (ap (a ∷◌) o.0, o.1)
  parted_once (keeps {a = a} u p) (folds v q) e = absurd (omega (arith, few_larger (f a) p u, many-larger (f a) q v))
  parted_once (folds {a = a} u p) (keeps v q) e = absurd (omega (arith, many-larger (f a) p u, few_larger (f a) q v))
  parted_once (folds {a = a} u p) (folds v q) e = let o = parted_once p q e in (o.0, ap (a ∷◌) o.1)

  module _ (T : ℕ) where
    kept-large : (l : List A) (r n : ℕ) → n ≤ bar T r → All (λ a. n ≤ f a) (keep_above f T r l)
    kept-large [] r n h = rw (keeps_none f T r) none
    kept-large (a ∷ l) r n h =
        by_less (f a) (bar T r)
        (λ (c : f a < bar T r). rw (low_keeps f T r a l c) (kept-large l r n h))
        (λ (c : bar T r ≤ f a).
        rw (high_keeps f T r a l c) (more {a = a} (omega arith) (kept-large l (left T r (f a)) n (omega (arith, bar-left T r (f a))))))

    folded_small : (l : List A) (r n : ℕ) → T ≤ n → All (λ a. f a ≤ n) (folded_below f T r l)
    folded_small [] r n h = rw (folds_none f T r) none
    folded_small (a ∷ l) r n h =
        by_less (f a) (bar T r)
        (λ (c : f a < bar T r). rw (low-folds f T r a l c) (more {a = a} (omega (arith, bar-high T r)) (folded_small l r n h)))
        (λ (c : bar T r ≤ f a). rw (high-folds f T r a l c) (folded_small l (left T r (f a)) n h))

    -- a bar parts a list
    pub bar-parts : (l : List A) (r : ℕ) → Parted f l (keep_above f T r l) (folded_below f T r l)
    bar-parts [] r = rw (keeps_none f T r, folds_none f T r) empty
    bar-parts (a ∷ l) r =
        by_less (f a) (bar T r)
        (λ (c : f a < bar T r).
        rw (low_keeps f T r a l c, low-folds f T r a l c) (folds (kept-large l r (suc (f a)) (omega arith)) (bar-parts l r)))
        (λ (c : bar T r ≤ f a).
        rw (high_keeps f T r a l c, high-folds f T r a l c)
        (keeps (folded_small l (left T r (f a)) (f a) (omega (arith, bar-low T r))) (bar-parts l (left T r (f a)))))

module _ {A : Type 0} (f : A → ℕ) (fold : A → Core → Core) (swap : (a b : A) (k : Core) → fold a (fold b k) ≡ fold b (fold a k))
    (limit : ℕ) (k : Core) (l : List A) where
  at-bar : limit < length l → {T : ℕ} → Bar f limit l T → FirstBySize f fold limit k l (at_once f fold T (share f limit l T) k l)
  at-bar h {T} b = record {
    folded = folded_below f T (share f limit l T) l;
    parted = bar-parts f T l (share f limit l T);
    as_many = λ _. omega (arith, parted-length f (bar-parts f T l (share f limit l T)), bar_count f limit l b);
    few = λ g. absurd (omega arith);
    core_is = refl;
  }

  none_folded : length l ≤ limit → FirstBySize f fold limit k l (record { core = k; kept = l })
  unfolding fold_all
  none_folded h = record { folded = []; parted = all-kept f l; as_many = λ g. omega arith; few = λ g. refl; core_is = refl }

  -- folding the smallest one at a time until `limit` are left keeps the first by size
  pub first_by_size : FirstBySize f fold limit k l (fold_until f fold limit k l)
  first_by_size =
      by_less limit (length l)
      (λ (h : limit < length l).
      let b = bar_exists f limit l (omega arith) in
      rw (until_at_once f fold limit k l swap b.1) (at-bar h b.1))
      (λ (h : length l ≤ limit). rw (until_few f fold limit k l h) (none_folded h))

-- what is kept is within the limit
pub within_limit : {A : Type 0} {f : A → ℕ} {fold : A → Core → Core} {limit : ℕ} {k : Core} {l : List A} {result : Folded A} →
    FirstBySize f fold limit k l result → length result.kept ≤ limit
within_limit {A} {f} {fold} {limit} {k} {l} w =
    by_less limit (length l)
    (λ (h : limit < length l). omega (arith, w.as_many (omega arith)))
    (λ (h : length l ≤ limit). omega (arith, parted-length f w.parted))

-- ---- the two stages of finishing
abbrev pub term_size : List ℕ → Term → ℕ
term_size weights t = size weights t.coefficients

module _ (weights : List ℕ) (limit : ℕ) (s : Zonotope) where
  -- terms: the first by size stay, the others go to the centre and the radii, and the rest of the set stands
  pub terms-first_by_size :
      (r : Folded Term)
      × FirstBySize (term_size weights) fold_term limit (core s) s.terms r
      × (fold_terms weights limit s ≡ with_terms s r)
  unfolding fold_terms
  terms-first_by_size = (
    fold_until (term_size weights) fold_term limit (core s) s.terms,
    first_by_size (term_size weights) fold_term term-swap limit (core s) s.terms,
    refl,
  )

  -- generators alike
  pub generators_first_by_size :
      (r : Folded (List ℤ))
      × FirstBySize (size weights) fold_generator limit (core s) s.generators r
      × (fold_generators weights limit s ≡ with_generators s r)
  unfolding fold_generators
  generators_first_by_size = (
    fold_until (size weights) fold_generator limit (core s) s.generators,
    first_by_size (size weights) fold_generator generator_swap limit (core s) s.generators,
    refl,
  )

  pub terms-within : length (fold_terms weights limit s).terms ≤ limit
  terms-within = rw terms-first_by_size.2 (within_limit terms-first_by_size.1)

  pub generators_within : length (fold_generators weights limit s).generators ≤ limit
  generators_within = rw generators_first_by_size.2 (within_limit generators_first_by_size.1)

  -- by a bar, as a program finds it, in one pass
  pub terms-at_once : {T : ℕ} → Bar (term_size weights) limit s.terms T →
      fold_terms weights limit s
      ≡ with_terms s (at_once (term_size weights) fold_term T (share (term_size weights) limit s.terms T) (core s) s.terms)
  unfolding fold_terms
  terms-at_once b = ap (with_terms s) (until_at_once (term_size weights) fold_term limit (core s) s.terms term-swap b)

  pub generators_at_once : {T : ℕ} → Bar (size weights) limit s.generators T →
      fold_generators weights limit s
      ≡ with_generators s (at_once (size weights) fold_generator T (share (size weights) limit s.generators T) (core s) s.generators)
  unfolding fold_generators
  generators_at_once b = ap (with_generators s) (until_at_once (size weights) fold_generator limit (core s) s.generators generator_swap b)

  -- where there are no more than the limit the set stands
  pub terms_few : length s.terms ≤ limit → fold_terms weights limit s ≡ s
  unfolding fold_terms
  terms_few h = ap (with_terms s) (until_few (term_size weights) fold_term limit (core s) s.terms h)

  pub generators_few : length s.generators ≤ limit → fold_generators weights limit s ≡ s
  unfolding fold_generators
  generators_few h = ap (with_generators s) (until_few (size weights) fold_generator limit (core s) s.generators h)
