-- The laws of each kind of field, a file each.
pub mod Start
pub mod Step
pub mod Disturbance
pub mod Independent
pub mod Tied
pub mod Reduction
pub mod Check
pub mod Hull
pub mod RangedStep
pub mod Unknown
use Rattle.model.specs.Field.{Kind, start, step, disturbance, independent, tied, reduction, check, hull, ranged_step, unknown}
use Rattle.model.proofs.Laws.{Laws}

pub laws : (k : Kind) → Laws k
laws start = Start.laws
laws step = Step.laws
laws disturbance = Disturbance.laws
laws independent = Independent.laws
laws tied = Tied.laws
laws reduction = Reduction.laws
laws check = Check.laws
laws hull = Hull.laws
laws ranged_step = RangedStep.laws
laws unknown = Unknown.laws
