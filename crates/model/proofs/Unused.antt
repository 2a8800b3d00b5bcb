-- Leaving out the places where no row has an exponent keeps lengths alike, the order of rows, which rows are constant, and the places
-- that are used.
use mathlib.Core.Path.{◌≡◌, refl, sym, ◌∙◌, ap, subst}
use mathlib.Core.List.{List, [], ◌∷◌}
use mathlib.Core.Bool.{Bool, true, false, not, cond, ◌&&◌}
use Prim.Native.Nat.{ℕ, zero, suc, ◌+◌, ◌<◌}
use native.Mathlib.Nat.{suc_inj}
use native.Mathlib.Omega.{arith}
use lib.Dec.{T, ltb, eqb}
use lib.ListN.{length, get_or}
use Rattle.whole.specs.Tab.{all}
use Rattle.rational.specs.Sum.{All}
use Rattle.rational.proofs.Sum.{All-imp}
use Rattle.model.specs.Set.{Term}
use Rattle.model.specs.Valid.{less, greater, order, factorless, occurs}
use Rattle.model.specs.Finish.{keep_at}
use Rattle.model.proofs.Lists.{Sublist, empty, keep, skip}
use Rattle.model.proofs.Tests.{either}
use Rattle.model.proofs.UnusedCovers.{unused_zero}

module _ (p : ℕ → Bool) where
  pub keep_sublist : (j : ℕ) (xs : List ℕ) → Sublist (keep_at p j xs) xs
  unfolding keep_at
  keep_sublist j [] = empty
  keep_sublist j (x ∷ xs) = let s = keep_sublist (j + 1) xs in either (λ k. Sublist k (x ∷ xs)) (p j) (keep s) (skip s)

  pub keep_length : (j : ℕ) (xs ys : List ℕ) → length xs ≡ length ys → length (keep_at p j xs) ≡ length (keep_at p j ys)
  unfolding keep_at
  keep_length j [] [] e = refl
  keep_length j [] (y ∷ ys) e = absurd (omega arith)
  keep_length j (x ∷ xs) [] e = absurd (omega arith)
  keep_length j (x ∷ xs) (y ∷ ys) e = go (p j) (keep_length (j + 1) xs ys (suc_inj e)) where
    go : (b : Bool) → length (keep_at p (j + 1) xs) ≡ length (keep_at p (j + 1) ys)
        → length (cond b (x ∷ keep_at p (j + 1) xs) (keep_at p (j + 1) xs)) ≡ length (cond b (y ∷ keep_at p (j + 1) ys) (keep_at p (j + 1) ys))
    go true h = ap suc h
    go false h = h

  -- ---- rows that have nothing at the places left out, from place j on
  pub record Clear (j : ℕ) (xs : List ℕ) : Type 0 where
    pub clear : (i : ℕ) → p (j + i) ≡ false → get_or xs i 0 ≡ 0

  clear-here : {j x : ℕ} {xs : List ℕ} → Clear j (x ∷ xs) → p j ≡ false → x ≡ 0
  clear-here {j} c e = c.clear 0 (ap p (omega arith) ∙ e)

  clear_later : {j x : ℕ} {xs : List ℕ} → Clear j (x ∷ xs) → Clear (j + 1) xs
  clear_later {j} c = record { clear = λ i e. c.clear (suc i) (ap p (omega arith) ∙ e) }

  pub keep_constant : (j : ℕ) (xs : List ℕ) → Clear j xs → factorless (keep_at p j xs) ≡ factorless xs
  unfolding keep_at all
  keep_constant j [] c = refl
  keep_constant j (x ∷ xs) c = go (p j) refl (keep_constant (j + 1) xs (clear_later c)) where
    go : (b : Bool) → p j ≡ b → factorless (keep_at p (j + 1) xs) ≡ factorless xs
        → factorless (cond b (x ∷ keep_at p (j + 1) xs) (keep_at p (j + 1) xs)) ≡ (eqb x 0 && factorless xs)
    go true e h = ap (λ c. eqb x 0 && c) h
    go false e h = h ∙ rw (clear-here c e)

  pub keep_order : (j : ℕ) (xs ys : List ℕ) → length xs ≡ length ys → Clear j xs → Clear j ys
      → order (keep_at p j xs) (keep_at p j ys) ≡ order xs ys
  unfolding keep_at order
  keep_order j [] [] e c d = refl
  keep_order j [] (y ∷ ys) e c d = absurd (omega arith)
  keep_order j (x ∷ xs) [] e c d = absurd (omega arith)
  keep_order j (x ∷ xs) (y ∷ ys) e c d =
      go (p j) refl (keep_order (j + 1) xs ys (suc_inj e) (clear_later c) (clear_later d)) where
        go : (b : Bool) → p j ≡ b → order (keep_at p (j + 1) xs) (keep_at p (j + 1) ys) ≡ order xs ys
            → order (cond b (x ∷ keep_at p (j + 1) xs) (keep_at p (j + 1) xs)) (cond b (y ∷ keep_at p (j + 1) ys) (keep_at p (j + 1) ys))
            ≡ cond (ltb x y) less (cond (ltb y x) greater (order xs ys))
        go true q h = ap (λ o. cond (ltb x y) less (cond (ltb y x) greater o)) h
        go false q h = h ∙ rw (clear-here c q, clear-here d q)

  -- ---- the place from which a place of what is kept comes, in every row of n
  pub record Origin (j n k : ℕ) : Type 0 where
    pub place : ℕ
    pub used : p (j + place) ≡ true
    pub same : (ys : List ℕ) → length ys ≡ n → get_or (keep_at p j ys) k 0 ≡ get_or ys place 0

  origin-later : {j n k : ℕ} (k' : ℕ) → ((y : ℕ) (ys : List ℕ) → get_or (keep_at p j (y ∷ ys)) k' 0 ≡ get_or (keep_at p (j + 1) ys) k 0)
      → Origin (j + 1) n k → Origin j (suc n) k'
  origin-later {j} {n} k' step o = record {
    place = suc o.place;
    used = ap p (omega arith) ∙ o.used;
    same = same;
  }
    where
      same : (ys : List ℕ) → length ys ≡ suc n → get_or (keep_at p j ys) k' 0 ≡ get_or ys (suc o.place) 0
      same [] e = absurd (omega arith)
      same (y ∷ ys) e = step y ys ∙ o.same ys (suc_inj e)

  pub origin : (j : ℕ) (xs : List ℕ) (k : ℕ) → k < length (keep_at p j xs) → Origin j (length xs) k
  unfolding keep_at
  origin j [] k h = absurd (omega arith)
  origin j (x ∷ xs) k h = go (p j) refl k h (origin (j + 1) xs) where
    go : (b : Bool) → p j ≡ b → (k : ℕ) → k < length (cond b (x ∷ keep_at p (j + 1) xs) (keep_at p (j + 1) xs))
        → ((k : ℕ) → k < length (keep_at p (j + 1) xs) → Origin (j + 1) (length xs) k) → Origin j (suc (length xs)) k
    go true e zero h ih = record { place = 0; used = ap p (omega arith) ∙ e; same = same } where
      same : (ys : List ℕ) → length ys ≡ suc (length xs) → get_or (keep_at p j ys) 0 0 ≡ get_or ys 0 0
      same [] q = absurd (omega arith)
      same (y ∷ ys) q = rw e
    go true e (suc k) h ih = origin-later (suc k) (λ y ys. rw e) (ih k (omega arith))
    go false e k h ih = origin-later k (λ y ys. rw e) (ih k h)

-- ---- the factors that occur in some term
-- no term has an exponent where no factor occurs
pub terms-clear : (ts : List Term) → All (λ t. Clear (occurs ts) 0 t.exponents) ts
terms-clear ts = All-imp (λ t z. record { clear = λ i e. z i (subst (λ b. T (not b)) (sym e ∙ ap (occurs ts) (omega arith)) tt) })
    (unused_zero (occurs ts) ts (λ j n. n))
