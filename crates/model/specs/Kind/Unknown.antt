-- An unknown tag, refused (2) before anything of this is asked.
use Rattle.std.specs.Prelude.{[], ◌∷◌, false}
use Rattle.model.specs.Described.{◌if◌, differs, skipped, Described}

abbrev pub kind : Described
kind = record {
  -- ---- what the field does
  tag = 0;
  meaning = λ b next s. record {
    causes = λ bytes.
        (3 if differs bytes 0)
        ∷ [];
    result = s;
    folds = [];
    next = next;
    outcome = skipped;
  };
  anew = false;
  works = false;
  ruled = λ b next s ρ i. ρ i;
  -- ---- where a motion goes
  offset_limit = λ b i. 0;
  move = λ b p m x i. x i;
  coordinates = λ b n. n;
  fresh = λ b. [];
}
