-- Lists that rise by a relation, each element before every later one, and lists that leave out some elements of another.
use mathlib.Core.List.{List, [], ◌∷◌, map}
use Prim.Native.Nat.{◌≤◌}
use native.Mathlib.Omega.{arith}
use lib.ListN.{length}
use Rattle.rational.specs.Sum.{All, none, more}
use Rattle.rational.proofs.Sum.{All-imp, All-map}

pub data Rising {A : Type 0} (Before : A → A → Type 0) : List A → Type 0 where
  nothing : Rising Before []
  first : {a : A} {l : List A} → All (Before a) l → Rising Before l → Rising Before (a ∷ l)

-- k is l without some of its elements
pub data Sublist {A : Type 0} : List A → List A → Type 0 where
  empty : Sublist [] []
  keep : {a : A} {k l : List A} → Sublist k l → Sublist (a ∷ k) (a ∷ l)
  skip : {a : A} {k l : List A} → Sublist k l → Sublist k (a ∷ l)

module _ {A : Type 0} where
  pub sublist_refl : (l : List A) → Sublist l l
  sublist_refl [] = empty
  sublist_refl (a ∷ l) = keep (sublist_refl l)

  pub sublist_trans : {j k l : List A} → Sublist j k → Sublist k l → Sublist j l
  sublist_trans r empty = r
  sublist_trans (keep {k = j} r) (keep s) = keep (sublist_trans {j = j} r s)
  sublist_trans (skip r) (keep s) = skip (sublist_trans r s)
  sublist_trans r (skip s) = skip (sublist_trans r s)

  pub sublist_all : {P : A → Type 0} {k l : List A} → Sublist k l → All P l → All P k
  sublist_all empty h = h
  sublist_all (keep s) (more h t) = more h (sublist_all s t)
  sublist_all (skip s) (more h t) = sublist_all s t

  pub sublist_rising : {Before : A → A → Type 0} {k l : List A} → Sublist k l → Rising Before l → Rising Before k
  sublist_rising empty r = r
  sublist_rising (keep s) (first h r) = first (sublist_all s h) (sublist_rising s r)
  sublist_rising (skip s) (first h r) = sublist_rising s r

  pub sublist_length : {k l : List A} → Sublist k l → length k ≤ length l
  sublist_length empty = omega arith
  sublist_length (keep s) = let h = sublist_length s in omega arith
  sublist_length (skip s) = let h = sublist_length s in omega arith

  pub all_head : {P : A → Type 0} {a : A} {l : List A} → All P (a ∷ l) → P a
  all_head (more h t) = h

  pub all_tail : {P : A → Type 0} {a : A} {l : List A} → All P (a ∷ l) → All P l
  all_tail (more h t) = t

  pub all_both : {P Q : A → Type 0} {l : List A} → All P l → All Q l → All (λ a. P a × Q a) l
  all_both none none = none
  all_both (more h t) (more k r) = more (h, k) (all_both t r)

-- a function that turns one relation into another, at elements with a property, keeps rising
pub rising_map : {A B : Type 0} {P : A → Type 0} {R : A → A → Type 0} {Q : B → B → Type 0} (f : A → B)
    → ((a b : A) → P a → P b → R a b → Q (f a) (f b)) → {l : List A} → All P l → Rising R l → Rising Q (map f l)
rising_map f g none nothing = nothing
rising_map f g (more {a = a} h t) (first e r) = first (All-map f (All-imp (λ b p. g a b h p.0 p.1) (all_both t e)))
    (rising_map f g t r)
