-- `causes::range_out` meets its contract, by its two tests.
use Rattle.std.proofs.Common.{sym, ap₂, ◌∙◌}
use Rattle.std.specs.Prelude.{◌||◌}
use Rattle.zonotope.specs.View.{view_range}
use Rattle.zonotope.proofs.causes.range_out.Goals as goal

pub returns : goal.returns
returns c = ap₂ ◌||◌ c.identifiers_out.ensures c.exponents_out.ensures ∙ sym (view_range c.args.s.now)
