-- `rewriting::give` meets its contract. The measure is what is left of the piece.
use Rattle.std.specs.Prelude.{◌-◌, length, drop}
use Rattle.std.proofs.Common.{refl, ◌∙◌, arith}
use lib.ListN.{length-take, length-drop}
use Rattle.rewriting.proofs.OneByte.{held_below}
use Rattle.rewriting.proofs.Underway.{underway_begins, held-reached, no_more, turn_uses, underway_goes_on, underway_ends}
use Rattle.rewriting.proofs.give.Goals as goal

pub loop-used-init : goal.loop-used-init
loop-used-init c = (omega arith, refl, underway_begins c.args.h c.args.piece.now c.args.out.now c.requires.0)

pub turn-t-requires : goal.turn-t-requires
turn-t-requires c =
    let h = c.args.h in
    let piece = c.args.piece.now in
    let out = c.args.out.now in
    let used = c.loop-used.used in
    let i = c.loop-used.invariant in
    let few = no_more h piece out c.requires.0 i.0 i.2 in (
      held-reached h piece out c.requires.0 i.0 i.2,
      omega (arith, c.loop-used-test.true, length-take (length piece - used) (drop used piece), length-drop used piece),
      omega (arith, few, held_below h c.requires.0, i.1, c.requires.1, length-take (length piece - used) (drop used piece), length-drop used piece),
    )

pub overflow_add-used : goal.overflow_add-used
overflow_add-used c =
    let i = c.loop-used.invariant in
    let took = turn_uses c.args.h c.args.piece.now c.args.out.now c.requires.0 i.0 i.2 c.loop-used-test.true c.turn-t.ensures in
    omega (arith, took.1)

pub loop-used-smaller : goal.loop-used-smaller
loop-used-smaller c =
    let i = c.loop-used.invariant in
    let took = turn_uses c.args.h c.args.piece.now c.args.out.now c.requires.0 i.0 i.2 c.loop-used-test.true c.turn-t.ensures in
    omega (arith, took.0, took.1)

pub loop-used-preserved : goal.loop-used-preserved
loop-used-preserved c =
    let i = c.loop-used.invariant in
    let took = turn_uses c.args.h c.args.piece.now c.args.out.now c.requires.0 i.0 i.2 c.loop-used-test.true c.turn-t.ensures in (
      took.1,
      c.turn-t.auto.out ∙ i.1,
      underway_goes_on c.args.h c.args.piece.now c.args.out.now c.requires.0 i.0 i.2 c.loop-used-test.true c.turn-t.ensures,
    )

pub shape_of-out : goal.shape_of-out
shape_of-out c = c.loop-used.invariant.1

pub returns : goal.returns
returns c =
    let i = c.loop-used.invariant in
    underway_ends c.args.h c.args.piece.now c.args.out.now c.requires.0 i.0 i.2 c.loop-used-test.false
