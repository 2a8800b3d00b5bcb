-- `raw::pairs::pairs` meets its contract: the table is the computed list.
use mathlib.Core.Path.{refl}
use Rattle.whole.specs.Tab.{tab}
use Rattle.model.specs.Pairs.{rows_from, pair_codes}
use Rattle.raw.proofs.pairs.pairs.Goals as goal

pub returns : goal.returns
unfolding pair_codes rows_from tab
returns c = refl
