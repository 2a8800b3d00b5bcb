-- `feeding::is_whole` meets its contract.
use mathlib.Core.Path.{◌∙◌}
use Rattle.feeding.proofs.First.{cut-first}
use Rattle.feeding.proofs.is_whole.Goals as goal

pub returns : goal.returns
returns c = let h = c.read.ensures in (h.whole ∙ cut-first _, h.left)
