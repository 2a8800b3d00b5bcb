-- `reduction::widen_part` meets its contract.
use native.Mathlib.Omega.{arith}
use mathlib.Core.Path.{◌≡◌, refl, sym, ap, ◌∙◌}
use Rattle.whole.specs.Write.{write, write_none, write-next, write-all}
use Rattle.summing.proofs.reduction.widen_part.Goals as goal

pub loop-i-init : goal.loop-i-init
loop-i-init c = sym (write_none _ _ _)

pub loop-i-preserved : goal.loop-i-preserved
loop-i-preserved c =
    write-next _ _ c.loop-i.out c.loop-i.i _ c.loop-i.invariant c.from.ensures

pub returns : goal.returns
returns c =
    let e : c.loop-i.i ≡ 6 = omega arith in
    c.loop-i.invariant ∙ ap (write _ _ _) e ∙ write-all _ _ 0 6 refl
