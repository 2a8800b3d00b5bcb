-- `reduction::widen_radii` meets its contract, part by part.
use Rattle.summing.proofs.reduction.widen_radii.Goals as goal

pub returns : goal.returns
returns c = λ i. record {
  carried = c.widen_part.ensures i;
  rounded = c.widen_part-2.ensures i;
  folded = c.widen_part-3.ensures i;
  given = c.widen_part-4.ensures i;
}
