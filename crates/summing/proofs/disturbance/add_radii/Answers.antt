-- `disturbance::add_radii` meets its contract.
use native.Mathlib.Omega.{arith}
use mathlib.Core.Path.{◌≡◌, refl, sym, ap, ◌∙◌}
use lib.ListN.{length}
use Rattle.whole.specs.Write.{write, write_none, write-next}
use Rattle.summing.specs.Disturb.{added}
use Rattle.summing.proofs.disturbance.add_radii.Goals as goal

pub loop-i-init : goal.loop-i-init
loop-i-init c = sym (write_none _ _ _)

pub overflow_add-out : goal.overflow_add-out
overflow_add-out c = let at = c in omega (arith, at.requires.1 at.loop-i.i (omega arith))

pub loop-i-preserved : goal.loop-i-preserved
loop-i-preserved c =
    write-next _ _ c.loop-i.out c.loop-i.i _ c.loop-i.invariant refl

pub returns : goal.returns
returns c =
    let at = c in
    let e : at.loop-i.i ≡ length at.args.radii.now = omega arith in
    at.loop-i.invariant ∙ ap (write _ _ _) e ∙ added at.args.own at.args.radii.now (omega arith) at.requires.0
