-- `text::appending::append_items` meets its contract: one number a turn.
use Rattle.std.proofs.Common.{◌≡◌, length, ap, ◌∙◌, arith, rules}
use Rattle.text.specs.Appended.{none_put, named}
use Rattle.text.specs.Pieces.{items, no_items, items_put, items-all}
use Rattle.text.proofs.appending.append_items.Goals as goal

pub loop-number-init : goal.loop-number-init
loop-number-init c = named (omega arith) (no_items c.args.numbers.now) (none_put _ _)

pub append_item-next-requires : goal.append_item-next-requires
append_item-next-requires c = omega (arith, c.loop-number.invariant.ends, c.loop-number.invariant.short)

pub loop-number-preserved : goal.loop-number-preserved
loop-number-preserved c =
    items_put c.args.numbers.now c.loop-number.number-index (search rules) c.loop-number.invariant c.append_item-next.ensures

pub returns : goal.returns
returns c =
    let numbers = c.args.numbers.now in
    let all : c.loop-number.number-index ≡ length numbers = omega arith in
    named (omega arith) (ap (λ i. items i numbers) all ∙ items-all numbers (length numbers) (omega arith)) c.loop-number.invariant
