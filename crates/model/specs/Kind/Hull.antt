-- The hull with a second set.
use Rattle.std.specs.Prelude.{[], ◌∷◌, true, false, ◌+◌}
use Rattle.model.specs.Limits.{standard_weights}
use Rattle.model.specs.Set.{radius, independent_size}
use Rattle.model.specs.Step as Step
use Rattle.model.specs.Step.{inexact_at}
use Rattle.model.specs.Hull as Hull
use Rattle.model.specs.Hull.{larger, blended}
use Rattle.model.specs.Body.{dimension, given_set}
use Rattle.model.specs.Moving.{body_point, between}
use Rattle.model.specs.Described.{differs, of_set, too_many_blended, folds_of, half_of, Described}

abbrev pub kind : Described
kind = record {
  -- ---- what the field does
  tag = 8;
  meaning = λ b next s.
      of_set b (differs (dimension b) s.dimension) (too_many_blended s (given_set b))
      (Hull.hull standard_weights next s (given_set b)) (folds_of (Step.rounded (Hull.blended next s (given_set b)))) (next + 1);
  anew = true;
  works = false;
  ruled = λ b next s ρ i.
      let u = given_set b in larger (independent_size s i) (independent_size u i) + half_of (inexact_at (blended next s u) i);
  -- ---- where a motion goes
  offset_limit = λ b i. radius (given_set b) i;
  move = λ b p m x i. between (p.blend m) x (body_point p m (given_set b) p.values) i;
  coordinates = λ b n. n;
  fresh = λ b. (λ p m. p.blend m) ∷ [];
}
