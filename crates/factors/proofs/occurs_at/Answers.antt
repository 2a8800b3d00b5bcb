-- `factors::occurs_at` meets its contract, by the laws of a test over a table.
use Rattle.std.proofs.Common.{sym, length, arith}
use Rattle.factors.specs.Unused.{occurs_some, occurs_none}
use Rattle.factors.proofs.occurs_at.Goals as goal

pub returns-then-e-from-gt0 : goal.returns-then-e-from-gt0
returns-then-e-from-gt0 c =
    let g = c.args in
    let found = rw c.from.ensures at c.if-e-from-gt0.true in
    λ s. sym (occurs_some g.e.now g.heads.now s (length g.heads.now) g.j c.requires.0 c.loop-x.x-index c.loop-x-test.true found)

pub returns : goal.returns
returns c =
    let g = c.args in
    λ s. sym (occurs_none g.e.now g.heads.now s (length g.heads.now) g.j c.requires.0 (λ k h. c.loop-x.invariant k (omega arith)))
