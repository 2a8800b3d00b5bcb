-- `align::wide::add_centres` meets its contract.
use mathlib.Core.Path.{◌≡◌, refl, sym, ap, ap₂, ◌∙◌}
use native.Mathlib.Omega.{arith}
use lib.IntN.{ℤ, pos, ◌+ℤ◌, ◌*ℤ◌}
use lib.ListN.{get_or}
use borrow.Author.Rules.{rules}
use mir.Syntax.{w64}
use mir.Val.{of_z, to_z}
use mir.Facts.{to_z-of_z}
use Rattle.whole.specs.Fits.{read32, got64}
use Rattle.whole.specs.Tab.{tab}
use Rattle.whole.specs.Write.{write, write_none, write-next, write-all}
use Rattle.align.proofs.wide.add_centres.Goals as goal

pub loop-i-init : goal.loop-i-init
loop-i-init c = (search rules, sym (write_none _ _ _))

pub add_wide-requires : goal.add_wide-requires
add_wide-requires c =
    let s = c in rw (to_z-of_z s.ranges.sign) s.requires

pub loop-i-preserved : goal.loop-i-preserved
loop-i-preserved c =
    let at = c in
    let i = at.loop-i.i in
    let x = get_or at.args.a.now i (pos 0) in
    let y = get_or at.args.b.now i (pos 0) in (
      omega arith,
      write-next _ _ at.loop-i.out i _ at.loop-i.invariant.1
          (got64 c.add_wide.ensures c.add_wide.type_inv ∙ ap₂ (λ (x y : ℤ). x +ℤ to_z w64 (of_z w64 at.args.sign) *ℤ y)
          (read32 x (search rules)) (read32 y (search rules))),
    )

pub returns : goal.returns
returns c =
    let at = c in
    let e : at.loop-i.i ≡ 6 = omega arith in
    let s = at in
    at.loop-i.invariant.1
    ∙ ap (write _ _ _) e
    ∙ write-all _ _ (pos 0) 6 refl
    ∙ ap (λ (k : ℤ). tab 6 (λ j. get_or s.args.a.now j (pos 0) +ℤ k *ℤ get_or s.args.b.now j (pos 0))) (to_z-of_z s.ranges.sign)
