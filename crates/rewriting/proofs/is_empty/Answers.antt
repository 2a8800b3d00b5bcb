-- `rewriting::is_empty` meets its contract.
use Rattle.rewriting.proofs.Tests.{empty_cut, empty_other, empty_whole}
use native.Mathlib.Omega.{arith}
use Rattle.rewriting.proofs.is_empty.Goals as goal

pub returns-then-f-lt-HEADER : goal.returns-then-f-lt-HEADER
returns-then-f-lt-HEADER c = empty_cut c.args.f.now (omega (arith, c.if-f-lt-HEADER.true))

pub returns-then-f-end : goal.returns-then-f-end
returns-then-f-end c =
    let n = c in
    empty_cut n.args.f.now (omega (arith, n.short_at-n.ensures.0, c.if-f-end.true))

pub returns-then-f-ne-DISTURBANCE : goal.returns-then-f-ne-DISTURBANCE
returns-then-f-ne-DISTURBANCE c = empty_other c.args.f.now c.if-f-ne-DISTURBANCE.true

pub returns : goal.returns
returns c =
    let t = c in
    let e = t in
    let n = e in
    empty_whole n.args.f.now n.short_at-n.ensures.0 e.if-f-end.false t.if-f-ne-DISTURBANCE.false c.no_radii.ensures
