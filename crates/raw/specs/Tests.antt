-- What tests that fail say of their parts.
use Rattle.std.specs.Prelude.{Bool, true, false, not, ◌&&◌, ◌||◌, List, [], ◌∷◌, ◌≡◌, refl, ℕ, zero, suc, ◌≤◌, ℤ, nat_abs}
use Rattle.std.proofs.Common.{ap, arith, ltb-false}
use Rattle.std.proofs.lemmas.Bool.{not-false}
use Rattle.whole.specs.Tab.{any}
use Rattle.model.proofs.Tests.{or_false}
use Rattle.rows.specs.Rows.{Small}
use Rattle.model.specs.Set.{at}
use Rattle.model.specs.Field.{beyond}

-- a place that is used or empty, and isn't used, is empty
pub free : (used empty : Bool) → not (used || empty) ≡ false → used ≡ false → empty ≡ true
free true empty h u = cc
free false empty h u = not-false empty h

pub no_row : (a b : Bool) → a ≡ false → (a && b) ≡ false
no_row a b h = ap (λ (x : Bool). x && b) h

pub no_column : (a b : Bool) → b ≡ false → (a && b) ≡ false
no_column true b h = h
no_column false b h = refl

-- where no entry is beyond K, all are small
pub none_beyond : (K : ℕ) (xs : List ℤ) → any (beyond K) xs ≡ false → Small K xs
unfolding any
none_beyond K xs h = record { small = go xs h }
  where
    go : (xs : List ℤ) → any (beyond K) xs ≡ false → (i : ℕ) → nat_abs (at xs i) ≤ K
    go [] h i = omega arith
    go (x ∷ xs) h zero = ltb-false K (nat_abs x) (or_false (beyond K x) (any (beyond K) xs) h).0
    go (x ∷ xs) h (suc i) = go xs (or_false (beyond K x) (any (beyond K) xs) h).1 i
