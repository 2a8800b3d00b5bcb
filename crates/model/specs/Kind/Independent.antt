-- The sum with a set whose identifiers are its own.
use Rattle.std.specs.Prelude.{map, false, ◌+◌, nat_abs}
use Rattle.rational.specs.Rational.{◌+ℚ◌}
use Rattle.model.specs.Limits.{standard_weights}
use Rattle.model.specs.Set.{at, radius}
use Rattle.model.specs.Operations.{joined, independent_sum, renumbered}
use Rattle.model.specs.Body.{dimension, factors, radius_words, given_set}
use Rattle.model.specs.Moving.{body_point}
use Rattle.model.specs.Described.{differs, of_set, too_many, folds_of, Described}

abbrev pub kind : Described
kind = record {
  -- ---- what the field does
  tag = 4;
  meaning = λ b next s.
      of_set b (differs (dimension b) s.dimension) (too_many s (renumbered next (given_set b)))
      (independent_sum standard_weights next s (given_set b)) (folds_of (joined s (renumbered next (given_set b)))) (next + factors b);
  anew = false;
  works = false;
  ruled = λ b next s ρ i. ρ i + nat_abs (at (radius_words b) i);
  -- ---- where a motion goes
  offset_limit = λ b i. radius (given_set b) i;
  move = λ b p m x i. x i +ℚ body_point p m (given_set b) (p.own m) i;
  coordinates = λ b n. n;
  fresh = λ b. map (λ k p m. p.own m k) (given_set b).identifiers;
}
