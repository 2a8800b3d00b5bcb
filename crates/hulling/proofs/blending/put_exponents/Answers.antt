-- `blending::put_exponents` meets its contract.
use borrow.Author.Rules.{rules}
use native.Mathlib.Omega.{arith}
use mathlib.Core.Path.{◌≡◌, refl, sym, ap, ◌∙◌}
use Prim.Native.Nat.{◌*◌}
use lib.ListN.{length-set}
use Rattle.whole.specs.Write.{write, write_none, write_again}
use Rattle.hulling.proofs.blending.put_exponents.Goals as goal

pub loop-x-init : goal.loop-x-init
loop-x-init c = (search rules, sym (write_none _ _ _), refl, search rules)

pub loop-x-preserved : goal.loop-x-preserved
loop-x-preserved c =
    let l = c.loop-x in (
      omega arith,
      write_again _ _ _ l.f l.x _ l.invariant.1 c.power_at-v.ensures,
      simp length-set l.invariant.2,
      l.invariant.3,
    )

pub returns : goal.returns
returns c =
    let at = c in
    let e : at.loop-x.x ≡ at.args.rows * 12 = omega arith in
    at.loop-x.invariant.1 ∙ ap (write _ _ _) e
