-- `finish::record::narrow_radii` meets its contract, part by part.
use Rattle.finish.proofs.record.narrow_radii.Goals as goal

pub returns : goal.returns
returns c = λ i. record {
  carried = c.narrow_part.ensures i;
  rounded = c.narrow_part-2.ensures i;
  folded = c.narrow_part-3.ensures i;
  given = c.narrow_part-4.ensures i;
}
