-- `rewrite::pass` meets its contract.
use Rattle.std.proofs.Common.{length, sym, ◌∙◌}
use borrow.Author.Tests.{eqb-true, eqb-false}
use Rattle.rewrite.proofs.Flowing.{pass_end, pass-more}
use Rattle.rewrite.proofs.pass.Goals as goal

pub returns-then-is_empty : goal.returns-then-is_empty
returns-then-is_empty c =
    let none = eqb-true (length c.args.came.now) 0 (sym c.is_empty.ensures ∙ c.if-is_empty.true) in
    pass_end c.args.h c.args.came.now none c.close-written.ensures

pub returns : goal.returns
returns c =
    let some = eqb-false (length c.args.came.now) 0 (sym c.is_empty.ensures ∙ c.if-is_empty.false) in
    pass-more c.args.h c.args.came.now c.requires.0 some c.give.ensures
