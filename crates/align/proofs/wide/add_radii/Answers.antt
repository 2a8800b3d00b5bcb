-- `align::wide::add_radii` meets its contract, part by part.
use Rattle.align.proofs.wide.add_radii.Goals as goal

pub returns : goal.returns
returns c = λ i. record {
  carried = c.add_parts.ensures i;
  rounded = c.add_parts-2.ensures i;
  folded = c.add_parts-3.ensures i;
  given = c.add_parts-4.ensures i;
}
