-- `fold::all_even` meets its contract: an even number has no lowest digit.
use mathlib.Core.Path.{◌∙◌}
use Rattle.fold.specs.Exponents.{row-even}
use Rattle.fold.proofs.all_even.Goals as goal

pub returns : goal.returns
returns c = let g = c.args in c.clear_of.ensures ∙ row-even g.e.now g.x
