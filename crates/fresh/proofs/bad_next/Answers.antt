-- `fresh::bad_next` meets its contract.
use Rattle.std.proofs.Common.{rules, ltb, not}
use Rattle.whole.specs.Chains.{any_of_first}
use Rattle.zonotope.specs.Record.{view}
use Rattle.fresh.proofs.bad_next.Goals as goal

pub returns-else-out_of_range : goal.returns-else-out_of_range
unfolding view
returns-else-out_of_range c =
    rw (← c.out_of_range.ensures, c.if-out_of_range.false)
    (any_of_first (λ k. not (ltb k c.args.next)) c.args.s.identifiers 0 c.args.s.factors c.any.ensures.ran c.iter.ensures.rest (search rules)
    (λ x b q k. search rules))
