-- `text::box_line` meets its contract: piece after piece.
use Rattle.std.proofs.Common.{ap₂, arith, length-take-le}
use Rattle.model.specs.Text.{ascii, ends}
use Rattle.text.specs.Appended.{named}
use Rattle.text.specs.Pieces.{firsts_taken, spaced}
use Rattle.text.specs.Lines.{box_put}
use Rattle.text.proofs.box_line.Goals as goal

pub returns : goal.returns
unfolding ascii
returns c =
    let n = c.args.n in
    let low = c.args.low.now in
    let high = c.args.high.now in
    let same = ap₂ (λ u v. spaced (ends u v)) (firsts_taken n low (omega arith)) (firsts_taken n high (omega arith)) in
    box_put _ c.from.ensures c.append_number-at.ensures c.append_item-at.ensures _ _
    (named (omega (arith, length-take-le n low (omega arith))) same c.append_ends-at.ensures) c.append.ensures
