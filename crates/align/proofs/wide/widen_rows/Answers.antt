-- `align::wide::widen_rows` meets its contract.
use Rattle.std.proofs.Common.{sym, ap, ◌∙◌, ◌≡◌, ◌*◌, ◌<◌, arith, rules, pos, length-take-le}
use Rattle.whole.specs.Fits.{read32, got64}
use Rattle.whole.specs.Write.{write, write_none, write_again, get_d_take}
use Rattle.align.proofs.wide.widen_rows.Goals as goal

pub loop-k-init : goal.loop-k-init
loop-k-init c = sym (write_none _ _ _)

pub loop-k-preserved : goal.loop-k-preserved
loop-k-preserved c =
    let k = c.loop-k.k in
    let long = length-take-le (c.args.n * 6) c.args.numbers.now c.requires.0 in
    let h : k < c.args.n * 6 = omega arith in
    write_again _ _ _ c.loop-k.c k _ c.loop-k.invariant
    (got64 c.from.ensures c.from.type_inv ∙ read32 _ (search rules) ∙ get_d_take (c.args.n * 6) c.args.numbers.now k (pos 0) h)

pub returns : goal.returns
returns c =
    let long = length-take-le (c.args.n * 6) c.args.numbers.now c.requires.0 in
    let e : c.loop-k.k ≡ c.args.n * 6 = omega arith in
    c.loop-k.invariant ∙ ap (write _ _ _) e
