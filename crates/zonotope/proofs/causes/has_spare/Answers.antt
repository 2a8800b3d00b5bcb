-- `causes::has_spare` meets its contract, by its six tests.
use Rattle.std.proofs.Common.{ap₂, ◌∙◌, rules}
use Rattle.std.specs.Prelude.{◌||◌}
use Rattle.zonotope.specs.Shape.{Sized}
use Rattle.zonotope.specs.View.{spare-places}
use Rattle.zonotope.proofs.causes.has_spare.Goals as goal

pub returns-clause-value : goal.returns-clause-value
returns-clause-value c =
    let z : Sized c.args.s.now = search rules in
    ap₂ ◌||◌ (ap₂ ◌||◌ (ap₂ ◌||◌ (ap₂ ◌||◌ (ap₂ ◌||◌ c.after_first.ensures c.outside_numbers.ensures)
    c.outside_exponents.ensures) c.outside_numbers-2.ensures) c.outside_numbers-3.ensures) c.spare_in_parts.ensures.value
    ∙ spare-places c.args.s.now z
