-- `rewriting::still_open` meets its contract.
use mathlib.Core.Path.{sym}
use native.Mathlib.Omega.{arith}
use Rattle.rewriting.proofs.OneByte.{open_cut}
use Rattle.rewriting.proofs.Gathered.{header_open, body_open}
use Rattle.rewriting.proofs.still_open.Goals as goal

pub returns-then-f-lt-HEADER : goal.returns-then-f-lt-HEADER
returns-then-f-lt-HEADER c = sym (header_open c.args.f.now c.if-f-lt-HEADER.true)

pub missing-requires : goal.missing-requires
missing-requires c =
    let s = c in (c.if-f-lt-HEADER.false, omega (arith, open_cut s.args.f.now s.requires))

pub overflow_sub-result-2 : goal.overflow_sub-result-2
overflow_sub-result-2 c =
    let s = c in omega (arith, c.missing.ensures, open_cut s.args.f.now s.requires)

pub returns : goal.returns
returns c =
    let e = c in
    let f = e.args.f.now in
    omega (arith, c.missing.ensures, body_open f e.if-f-lt-HEADER.false)
