-- The kinds of field, a file each. A later kind is one more file, and a line in each list here.
pub mod Start
pub mod Step
pub mod Disturbance
pub mod Independent
pub mod Tied
pub mod Reduction
pub mod Check
pub mod Hull
pub mod RangedStep
pub mod Unknown
use Rattle.std.specs.Prelude.{List, [], ◌∷◌}
use Rattle.model.specs.Described.{Described}

pub data Kind : Type 0 where
  start step disturbance independent tied reduction check hull ranged_step unknown : Kind

abbrev pub describe : Kind → Described
describe start = Start.kind
describe step = Step.kind
describe disturbance = Disturbance.kind
describe independent = Independent.kind
describe tied = Tied.kind
describe reduction = Reduction.kind
describe check = Check.kind
describe hull = Hull.kind
describe ranged_step = RangedStep.kind
describe unknown = Unknown.kind

-- by their tags, from 0 on; any other tag is unknown
abbrev pub kinds : List Kind
kinds = unknown ∷ start ∷ step ∷ disturbance ∷ independent ∷ tied ∷ reduction ∷ check ∷ hull ∷ ranged_step ∷ []
