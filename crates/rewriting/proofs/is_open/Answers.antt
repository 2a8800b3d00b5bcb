-- `rewriting::is_open` meets its contract.
use Rattle.rewriting.proofs.Tests.{open_header, open_other, open_body}
use Rattle.rewriting.proofs.is_open.Goals as goal

pub returns-then-f-lt-HEADER : goal.returns-then-f-lt-HEADER
returns-then-f-lt-HEADER c = open_header c.args.f.now c.if-f-lt-HEADER.true

pub returns-then-f-ne-DISTURBANCE : goal.returns-then-f-ne-DISTURBANCE
returns-then-f-ne-DISTURBANCE c = let h = c in open_other h.args.f.now h.if-f-lt-HEADER.false c.if-f-ne-DISTURBANCE.true

pub returns : goal.returns
returns c =
    let t = c in
    let h = t in
    open_body h.args.f.now h.if-f-lt-HEADER.false c.short_at-n.ensures.0 t.if-f-ne-DISTURBANCE.false
