-- `align::wide::align_rows` meets its contract: each turn adds a row.
use mathlib.Core.Path.{◌≡◌, refl, sym, ap, ◌∙◌}
use Prim.Native.Nat.{◌*◌}
use native.Mathlib.Omega.{arith}
use borrow.Author.Rules.{rules}
use Rattle.whole.specs.Write.{write, write_none}
use Rattle.align.specs.Runs.{flat, rows_on}
use Rattle.align.specs.Align.{aligned_at}
use Rattle.align.proofs.wide.align_rows.Goals as goal

pub loop-t-init : goal.loop-t-init
loop-t-init c = (search rules, sym (write_none _ _ _), refl)

pub loop-t-preserved : goal.loop-t-preserved
loop-t-preserved c =
    let at = c in
    let s = at.args in
    let l = at.loop-t in (
      omega arith,
      rows_on _ l.e _ (aligned_at s.exponents.now s.p s.ids.now s.n s.all.now) s.to l.t l.invariant.1
          c.align_row.ensures,
      c.align_row.auto.e ∙ l.invariant.2,
    )

pub returns : goal.returns
returns c =
    let at = c in
    let s = at.args in
    let e : at.loop-t.t ≡ s.h = omega arith in
    at.loop-t.invariant.1 ∙ ap (λ t. write s.e.now (s.to * 12)
    (flat 12 (aligned_at s.exponents.now s.p s.ids.now s.n s.all.now)) (t * 12)) e
