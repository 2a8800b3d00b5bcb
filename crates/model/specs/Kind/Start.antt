-- The start set.
use Rattle.std.specs.Prelude.{[], true, false, nat_abs}
use Rattle.model.specs.Set.{at, radius}
use Rattle.model.specs.Body.{dimension, radius_words, given_set}
use Rattle.model.specs.Moving.{body_point}
use Rattle.model.specs.Described.{of_set, Described}

abbrev pub kind : Described
kind = record {
  -- ---- what the field does
  tag = 1;
  meaning = λ b next s. of_set b false false (given_set b) [] next;
  anew = true;
  works = false;
  ruled = λ b next s ρ i. nat_abs (at (radius_words b) i);
  -- ---- where a motion goes
  offset_limit = λ b i. radius (given_set b) i;
  move = λ b p m x i. body_point p m (given_set b) p.values i;
  coordinates = λ b n. dimension b;
  fresh = λ b. [];
}
