-- `reduction::unfinished` meets its contract.
use Rattle.summing.specs.Wide.{unfinished-parts}
use Rattle.summing.proofs.reduction.unfinished.Goals as goal

pub returns : goal.returns
returns c =
    let w = c in
    unfinished-parts w.args.s w.widen_numbers.ensures c.widen_radii.ensures
    w.requires.radii
