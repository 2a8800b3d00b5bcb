-- `conclusion::skipped` meets its contract.
use mathlib.Core.Path.{refl}
use Rattle.advance.specs.ConclusionLaws.{advanced_by}
use Rattle.advance.proofs.conclusion.skipped.Goals as goal

pub returns : goal.returns
returns c = advanced_by c.without_box.ensures refl refl
