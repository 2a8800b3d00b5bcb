-- `headers::placed` meets its contract.
use mathlib.Core.Path.{refl, ◌∙◌}
use Rattle.std.proofs.lemmas.Result.{err_from_is_err_and}
use Rattle.advance.specs.HeaderLaws.{no_kind, here, elsewhere}
use Rattle.advance.proofs.headers.placed.Goals as goal

pub returns-in_err-kind : goal.returns-in_err-kind
returns-in_err-kind c =
    let p = err_from_is_err_and c.from_residual.result c.from_residual.ensures.1 in
    let q = c.in_err-kind.ensures in
    rw p.1 (p.2 ∙ q.0, no_kind c.args.count c.args.tag q.1)

pub returns-then-starts-count : goal.returns-then-starts-count
returns-then-starts-count c = (refl, elsewhere c.in_ok-kind.kind c.args.count c.in_ok-kind.ensures c.starts.ensures c.if-starts-count.true)

pub returns : goal.returns
returns c = (c.in_ok-kind.ensures, here c.in_ok-kind.kind c.args.count c.in_ok-kind.ensures c.starts.ensures c.if-starts-count.false)
