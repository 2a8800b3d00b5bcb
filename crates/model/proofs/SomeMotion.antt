-- Every input allows a motion: all picks 0, and at a ranged step the entries themselves.
use mathlib.Core.List.{List, []}
use Prim.Native.Nat.{ℕ}
use lib.ListN.{get_or}
use lib.IntN.{pos}
use Rattle.rational.specs.Rational.{ℚ, ι, 0ℚ}
use Rattle.rational.proofs.Sign.{NonNeg-ι}
use Rattle.rational.proofs.Order.{NonNeg-≤}
use Rattle.rational.specs.Bounds.{Within}
use Rattle.rational.proofs.Bounds.{within-NonNeg}
use Rattle.rational.specs.Near.{Near}
use Rattle.rational.proofs.Near.{near_refl, near_mono}
use Rattle.model.specs.Step.{linear_at, quadratic_at}
use Rattle.model.specs.Body.{given_step}
use Rattle.model.specs.Run.{body}
use Rattle.model.specs.Motion.{Picks, Allowed}

pub zero-within : (n : ℕ) → Within 0ℚ (ι (pos n))
zero-within n = within-NonNeg (NonNeg-ι 0) (NonNeg-≤ (NonNeg-ι n))

itself : (x : ℚ) (n : ℕ) → Near x x (ι (pos n))
itself x n = near_mono (near_refl x) (NonNeg-≤ (NonNeg-ι n))

abbrev still : List (List ℕ) → Picks
still fs = record {
  values = λ k. 0ℚ;
  own = λ m k. 0ℚ;
  numbers = λ m j. 0ℚ;
  offsets = λ m i. 0ℚ;
  blend = λ m. 0ℚ;
  linear = λ m i j. ι (linear_at (given_step (body (get_or fs m []))) i j);
  quadratic = λ m i j l. ι (quadratic_at (given_step (body (get_or fs m []))) i j l);
}

pub some_motion : (fs : List (List ℕ)) → (p : Picks) × Allowed p fs
some_motion fs = (
  still fs,
  record {
    values = λ k. zero-within _;
    own = λ m k. zero-within _;
    numbers = λ m j. zero-within _;
    blend = λ m. zero-within _;
    offsets = λ m i. zero-within _;
    coefficients = λ m e. record { linear = λ i j h k. itself _ _; quadratic = λ i j l h k q. itself _ _ };
  },
)
