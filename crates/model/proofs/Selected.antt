-- What finishing selects is a part of what it is given, in its order; a property that each fold keeps holds of the core that is left.
use mathlib.Core.Path.{◌≡◌, refl, ap}
use mathlib.Core.List.{List, [], ◌∷◌}
use mathlib.Core.Bool.{Bool, true, false, cond}
use Prim.Native.Nat.{ℕ, zero, suc, ◌-◌, ◌≤◌}
use native.Mathlib.Omega.{arith}
use lib.Dec.{leb}
use lib.ListN.{length}
use Rattle.rational.specs.Sum.{All, none, more}
use Rattle.model.specs.Finish.{Core, Taken, those, fold_all, smallest, fold_smallest, fold_times, fold_until}
use Rattle.model.proofs.Tests.{either}
use Rattle.model.proofs.Lists.{Sublist, empty, keep, skip, sublist_refl, sublist_trans, sublist_all}

-- ---- those that pass a test
module _ {A : Type 0} (p : A → Bool) where
  pub those_sublist : (l : List A) → Sublist (those p l) l
  unfolding those
  those_sublist [] = empty
  those_sublist (a ∷ l) = let s = those_sublist l in either (λ k. Sublist k (a ∷ l)) (p a) (keep s) (skip s)

  pub those-pass : (l : List A) → All (λ a. p a ≡ true) (those p l)
  unfolding those
  those-pass [] = none
  those-pass (a ∷ l) = go (p a) refl (those-pass l) where
    go : (b : Bool) → p a ≡ b → All (λ a. p a ≡ true) (those p l) → All (λ a. p a ≡ true) (cond b (a ∷ those p l) (those p l))
    go true e h = more e h
    go false e h = h

-- ---- the smallest, and the others
module _ {A : Type 0} (f : A → ℕ) where
  -- the smallest of two or more is the smallest of the later ones, or the first
  by_smallest : (P : Taken A → Type 0) (a b : A) (l : List A) → P (record { out = (smallest f b l).out; rest = a ∷ (smallest f b l).rest })
      → P (record { out = a; rest = b ∷ l }) → P (smallest f a (b ∷ l))
  unfolding smallest
  by_smallest P a b l later front = either P (leb (f (smallest f b l).out) (f a)) later front

  pub rest_sublist : (a : A) (l : List A) → Sublist (smallest f a l).rest (a ∷ l)
  unfolding smallest
  rest_sublist a [] = skip empty
  rest_sublist a (b ∷ l) =
      by_smallest (λ k. Sublist k.rest (a ∷ (b ∷ l))) a b l (keep (rest_sublist b l)) (skip (sublist_refl (b ∷ l)))

  rest-length : (a : A) (l : List A) → length (smallest f a l).rest ≡ length l
  unfolding smallest
  rest-length a [] = refl
  rest-length a (b ∷ l) = by_smallest (λ k. length k.rest ≡ suc (length l)) a b l (ap suc (rest-length b l)) refl

  out_of : {P : A → Type 0} {a : A} {l : List A} → All P (a ∷ l) → P (smallest f a l).out
  unfolding smallest
  out_of (more h none) = h
  out_of {P} {a} (more h (more {a = b} {l = l} k t)) = by_smallest (λ m. P m.out) a b l (out_of (more k t)) h

-- ---- folding
module _ {A : Type 0} {P : A → Type 0} {Q : Core → Type 0} (fold : A → Core → Core) (keeps : (a : A) (k : Core) → P a → Q k → Q (fold a k))
  where
    pub all-core : {l : List A} {k : Core} → All P l → Q k → Q (fold_all fold l k)
    unfolding fold_all
    all-core none q = q
    all-core {k = k} (more {a = a} h t) q = all-core t (keeps a k h q)

    pub times_core : (f : A → ℕ) (n : ℕ) {l : List A} {k : Core} → All P l → Q k → Q (fold_times f fold n k l).core
    unfolding fold_times fold_smallest
    times_core f zero h q = q
    times_core f (suc n) none q = times_core f n none q
    times_core f (suc n) {k = k} (more {a = a} {l = l} h t) q =
        times_core f n (sublist_all (rest_sublist f a l) (more h t)) (keeps (smallest f a l).out k (out_of f (more h t)) q)

module _ {A : Type 0} (f : A → ℕ) (fold : A → Core → Core) where
  pub times_sublist : (n : ℕ) (k : Core) (l : List A) → Sublist (fold_times f fold n k l).kept l
  unfolding fold_times fold_smallest
  times_sublist zero k l = sublist_refl l
  times_sublist (suc n) k [] = times_sublist n k []
  times_sublist (suc n) k (a ∷ l) = sublist_trans (times_sublist n (fold (smallest f a l).out k) (smallest f a l).rest)
      (rest_sublist f a l)

  times_length : (n : ℕ) (k : Core) (l : List A) → length (fold_times f fold n k l).kept ≡ length l - n
  unfolding fold_times fold_smallest
  times_length zero k l = omega arith
  times_length (suc n) k [] = let e = times_length n k [] in omega arith
  times_length (suc n) k (a ∷ l) =
      let e = times_length n (fold (smallest f a l).out k) (smallest f a l).rest in
      let r = rest-length f a l in omega arith

  times_left : (n : ℕ) {limit : ℕ} (k : Core) (l : List A) → length l - n ≤ limit → length (fold_times f fold n k l).kept ≤ limit
  times_left n k l h = let e = times_length n k l in omega arith

  -- folding until a limit leaves no more than the limit
  pub until_length : (limit : ℕ) (k : Core) (l : List A) → length (fold_until f fold limit k l).kept ≤ limit
  until_length limit k l = times_left _ k l (omega arith)
