-- `headers::read` meets its contract.
use native.Mathlib.Omega.{arith}
use Rattle.advance.specs.HeaderLaws.{header_cut, header_whole}
use Rattle.advance.proofs.headers.read.Goals as goal

pub returns-then-n-lt3 : goal.returns-then-n-lt3
returns-then-n-lt3 c = header_cut _ (omega (arith, c.if-n-lt3.true)) (omega (arith, c.if-n-lt3.true))

pub returns-then-n-end : goal.returns-then-n-end
returns-then-n-end c =
    let n = c.short_at-end.ensures in
    header_cut _ (omega (arith, c.if-n-end.true, n.0)) (omega (arith, c.if-n-end.true, n.1))

pub returns : goal.returns
returns c = let n = c.short_at-end.ensures in header_whole _ n.0 c.if-n-end.false n.1
