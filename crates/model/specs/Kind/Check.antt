-- The check of an unsafe region.
use Rattle.std.specs.Prelude.{[], ◌∷◌, false, ◌||◌, ltb, eqb}
use Rattle.whole.specs.Tab.{any}
use Rattle.model.specs.Limits.{max_halfspaces, max_entry, max_bound}
use Rattle.model.specs.Operations.{safe}
use Rattle.model.specs.Body.{dimension, halfspace_count, halfspace_at, given_halfspaces}
use Rattle.model.specs.Described.{◌if◌, verdict, bad_dimension, beyond, differs, Described}

abbrev pub kind : Described
kind = record {
  -- ---- what the field does
  tag = 7;
  meaning = λ b next s. record {
    causes = λ bytes.
        (3 if ltb bytes 2)
        ∷ (4 if bad_dimension (dimension b) || eqb (halfspace_count b) 0 || ltb max_halfspaces (halfspace_count b))
        ∷ (3 if differs bytes (halfspace_at b (halfspace_count b)))
        ∷ (5 if differs (dimension b) s.dimension)
        ∷ (6 if any (λ h. any (beyond max_entry) h.normal || beyond max_bound h.bound) (given_halfspaces b))
        ∷ [];
    result = s;
    folds = [];
    next = next;
    outcome = verdict (safe (given_halfspaces b) s);
  };
  anew = false;
  works = false;
  ruled = λ b next s ρ i. ρ i;
  -- ---- where a motion goes
  offset_limit = λ b i. 0;
  move = λ b p m x i. x i;
  coordinates = λ b n. n;
  fresh = λ b. [];
}
