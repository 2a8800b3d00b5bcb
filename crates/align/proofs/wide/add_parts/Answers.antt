-- `align::wide::add_parts` meets its contract.
use mathlib.Core.Path.{◌≡◌, refl, sym, ap, ap₂, ◌∙◌}
use Prim.Native.Nat.{◌+◌}
use native.Mathlib.Omega.{arith}
use borrow.Author.Rules.{rules}
use Rattle.whole.specs.Write.{write, write_none, write-next, write-all}
use Rattle.align.proofs.wide.add_parts.Goals as goal

pub loop-i-init : goal.loop-i-init
loop-i-init c = (search rules, sym (write_none _ _ _))

pub loop-i-preserved : goal.loop-i-preserved
loop-i-preserved c =
    let at = c in (
      omega arith,
      write-next _ _ at.loop-i.out at.loop-i.i _ at.loop-i.invariant.1
          (ap₂ ◌+◌ c.from.ensures c.from-in-loop-i.ensures),
    )

pub returns : goal.returns
returns c =
    let at = c in
    let e : at.loop-i.i ≡ 6 = omega arith in
    at.loop-i.invariant.1 ∙ ap (write _ _ _) e ∙ write-all _ _ 0 6 refl
