-- The kinds of field and what a field of a kind means, by the one description of the kind (Kind.antt).
use Rattle.std.specs.Prelude.{List, ℕ}
use Rattle.model.specs.Set.{Zonotope}
pub use Rattle.model.specs.Described.{Outcome, inside, verdict, refused, skipped, Meaning, bad_dimension, beyond, negative, differs}
pub use Rattle.model.specs.Described.{all_zero, bad_step_range, bad_width_range, negative_width, of_set, of_step_body, too_many}
pub use Rattle.model.specs.Described.{too_many_blended, folds_of, Described}
unfoldable pub use Rattle.model.specs.Described.{beyond_with}
pub use Rattle.model.specs.Kind.{Kind, start, step, disturbance, independent, tied, reduction, check, hull, ranged_step, unknown}
pub use Rattle.model.specs.Kind.{describe, kinds}

unfoldable pub meaning : Kind → List ℕ → ℕ → Zonotope → Meaning
meaning k b next s = (describe k).meaning b next s
