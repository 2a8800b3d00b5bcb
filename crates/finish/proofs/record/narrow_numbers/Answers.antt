-- `finish::record::narrow_numbers` meets its contract: i numbers are written.
use Rattle.std.proofs.Common.{sym, ap, ◌∙◌, ◌≡◌, arith, rules, get_or, pos, length}
use Rattle.whole.specs.Fits.{read64, got32}
use Rattle.whole.specs.Write.{write, write_none, write-next}
use Rattle.finish.proofs.record.narrow_numbers.Goals as goal

pub loop-i-init : goal.loop-i-init
loop-i-init c = sym (write_none _ _ _)

pub narrow-requires : goal.narrow-requires
narrow-requires c =
    let i = c.loop-i.i in
    rw (read64 (get_or c.args.s.now i (pos 0)) (search rules)) (c.requires.1.within i (search rules))

pub loop-i-preserved : goal.loop-i-preserved
loop-i-preserved c =
    let i = c.loop-i.i in
    let v = get_or c.args.s.now i (pos 0) in
    write-next _ _ c.loop-i.out i _ c.loop-i.invariant
    (got32 (c.narrow.ensures ∙ read64 v (search rules)) c.narrow.type_inv)

pub returns : goal.returns
returns c =
    let e : c.loop-i.i ≡ length c.args.s.now = omega arith in
    c.loop-i.invariant ∙ ap (write _ _ _) e
