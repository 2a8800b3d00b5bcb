-- `finish::record::narrow_part` meets its contract: each place is written once.
use Rattle.std.proofs.Common.{refl, sym, ap, ◌∙◌, ◌≡◌, arith, get_or}
use Rattle.whole.specs.Write.{write, write_none, write-next}
use Rattle.fold.specs.Row.{written_all}
use Rattle.finish.proofs.record.narrow_part.Goals as goal

pub loop-i-init : goal.loop-i-init
loop-i-init c = sym (write_none _ _ _)

pub overflow_cast-out : goal.overflow_cast-out
overflow_cast-out c = omega (arith, c.requires c.loop-i.i (omega arith))

pub loop-i-preserved : goal.loop-i-preserved
loop-i-preserved c = write-next _ _ c.loop-i.out c.loop-i.i _ c.loop-i.invariant refl

pub returns : goal.returns
returns c =
    let e : c.loop-i.i ≡ 6 = omega arith in
    c.loop-i.invariant ∙ ap (write _ _ _) e ∙ written_all _ 0 6 (λ j. get_or c.args.part j 0) refl
