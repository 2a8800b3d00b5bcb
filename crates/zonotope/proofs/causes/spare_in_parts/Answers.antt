-- `causes::spare_in_parts` meets its contract, by its four tests.
use Rattle.std.proofs.Common.{ap₂, ◌∙◌, rules}
use Rattle.std.specs.Prelude.{◌||◌}
use Rattle.zonotope.specs.Shape.{PartLengths}
use Rattle.zonotope.specs.View.{spare-parts}
use Rattle.zonotope.proofs.causes.spare_in_parts.Goals as goal

pub returns-clause-value : goal.returns-clause-value
returns-clause-value c =
    let z : PartLengths c.args.r.now = search rules in
    ap₂ ◌||◌ (ap₂ ◌||◌ (ap₂ ◌||◌ c.after_first.ensures c.after_first-2.ensures) c.after_first-3.ensures) c.after_first-4.ensures
    ∙ spare-parts c.args.r.now c.args.n z
