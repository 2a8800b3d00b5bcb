-- Reduction to fewer terms and generators.
use Rattle.std.specs.Prelude.{[], ◌∷◌, false, ◌||◌, ltb}
use Rattle.model.specs.Limits.{max_terms, max_generators, standard_weights}
use Rattle.model.specs.Finish.{folds}
use Rattle.model.specs.Operations.{reduce, box}
use Rattle.model.specs.Body.{term_count_limit, generator_count_limit}
use Rattle.model.specs.Described.{◌if◌, differs, inside, Described}

abbrev pub kind : Described
kind = record {
  -- ---- what the field does
  tag = 6;
  meaning = λ b next s. let result = reduce standard_weights (term_count_limit b) (generator_count_limit b) s in record {
    causes = λ bytes.
        (3 if ltb bytes 2)
        ∷ (4 if ltb max_terms (term_count_limit b) || ltb max_generators (generator_count_limit b))
        ∷ (3 if differs bytes 2)
        ∷ [];
    result = result;
    folds = folds standard_weights (term_count_limit b) (generator_count_limit b) s;
    next = next;
    outcome = inside (box result);
  };
  anew = false;
  works = false;
  ruled = λ b next s ρ i. ρ i;
  -- ---- where a motion goes
  offset_limit = λ b i. 0;
  move = λ b p m x i. x i;
  coordinates = λ b n. n;
  fresh = λ b. [];
}
