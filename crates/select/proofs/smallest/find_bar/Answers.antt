-- `smallest::find_bar` meets its contract: enough sizes reach the lower end, and no more than the limit the upper
-- one; a middle that exactly the limit reach is a bar.
use native.Mathlib.Omega.{arith}
use mathlib.Core.Path.{◌≡◌, sym, ap, ◌∙◌}
use lib.ListN.{length}
use Prim.Native.Nat.{ℕ, suc}
use Rattle.std.proofs.lemmas.Cmp.{ranked}
use Rattle.model.specs.Motion.{places}
use Rattle.model.proofs.Level.{level}
use Rattle.select.specs.Bar.{size_at, count_all, count_top, exact-bar}
use Rattle.select.proofs.smallest.find_bar.Goals as goal

pub loop-low-init : goal.loop-low-init
loop-low-init c =
    let s = c in
    let g = s.args in
    let all = count_all g.z.now (length g.z.now) in
    let none = count_top g.z.now g.top (length g.z.now) s.requires.3 in
    (s.requires.1, omega arith, omega (arith, all, s.requires.0), omega (arith, none))

pub returns-in-Equal : goal.returns-in-Equal
returns-in-Equal c =
    let l = c.loop-low in
    let g = c.args in
    let same = rw c.in-Equal.is at (ranked c.count_from.result g.limit c.cmp.result c.cmp.ensures) in
    (exact-bar g.z.now g.limit (length g.z.now) _ (sym c.count_from.ensures ∙ same), omega (arith, l.invariant.1))

pub loop-low-preserved-in-Greater : goal.loop-low-preserved-in-Greater
loop-low-preserved-in-Greater c =
    let l = c.loop-low in
    let more = rw c.in-Greater.is at (ranked c.count_from.result c.args.limit c.cmp.result c.cmp.ensures) in
    (omega arith, l.invariant.1, omega (arith, c.count_from.ensures, more), l.invariant.3)

pub loop-low-preserved : goal.loop-low-preserved
loop-low-preserved c =
    let l = c.loop-low in
    let fewer = rw c.in-Less.is at (ranked c.count_from.result c.args.limit c.cmp.result c.cmp.ensures) in
    (omega arith, omega arith, l.invariant.2, omega (arith, c.count_from.ensures, fewer))

pub returns : goal.returns
returns c =
    let l = c.loop-low in
    let g = c.args in
    let e : l.high ≡ suc l.low = omega arith in (
      record { most = omega (arith, ap (λ (T : ℕ). level (size_at g.z.now) T (places (length g.z.now))) e, l.invariant.3); enough = l.invariant.2 },
      omega arith,
    )
