-- A disturbance: offsets within radii join the set.
use Rattle.std.specs.Prelude.{[], ◌∷◌, false, ◌||◌, ◌+◌, ◌*◌, ltb, get_or}
use Rattle.whole.specs.Tab.{any}
use Rattle.rational.specs.Rational.{◌+ℚ◌}
use Rattle.model.specs.Limits.{max_disturbance}
use Rattle.model.specs.Operations.{disturb, box}
use Rattle.model.specs.Body.{dimension, disturbance_words, given_radii}
use Rattle.model.specs.Described.{◌if◌, inside, bad_dimension, beyond, negative, differs, all_zero, Described}

abbrev pub kind : Described
kind = record {
  -- ---- what the field does
  tag = 3;
  meaning = λ b next s. let result = disturb (given_radii b) s in record {
    causes = λ bytes.
        (3 if ltb bytes 1)
        ∷ (4 if bad_dimension (dimension b))
        ∷ (3 if differs bytes (1 + 4 * dimension b))
        ∷ (5 if differs (dimension b) s.dimension)
        ∷ (6 if any (λ z. negative z || beyond max_disturbance z) (disturbance_words b))
        ∷ (14 if all_zero (given_radii b))
        ∷ [];
    result = result;
    folds = [];
    next = next;
    outcome = inside (box result);
  };
  anew = false;
  works = false;
  ruled = λ b next s ρ i. ρ i + get_or (given_radii b) i 0;
  -- ---- where a motion goes
  offset_limit = λ b i. get_or (given_radii b) i 0;
  move = λ b p m x i. x i +ℚ p.offsets m i;
  coordinates = λ b n. n;
  fresh = λ b. [];
}
