-- `parts::totals` meets its contract: each place is written once.
use Rattle.std.specs.Prelude.{◌≡◌, refl, ℕ, ◌+◌, ◌≤◌, get_or}
use Rattle.std.proofs.Common.{sym, ap, ◌∙◌, subst, arith}
use borrow.Author.Count.{below_more}
use Rattle.whole.specs.Write.{write, write_none, write-next, write-all}
use Rattle.model.specs.Set.{radius_of}
use Rattle.arrays.specs.Rows.{most_radius}
use Rattle.arrays.specs.Columns.{tab_under}
use Rattle.zonotope.proofs.parts.totals.Goals as goal

pub loop-i-init : goal.loop-i-init
loop-i-init c = (sym (write_none _ _ _), λ k l. absurd (omega arith))

pub loop-i-preserved : goal.loop-i-preserved
loop-i-preserved c =
    let i = c.loop-i.i in
    let r = c.args.r in
    let f : ℕ → ℕ = λ k. get_or r.carried k 0 + get_or r.rounded k 0 + get_or r.folded k 0 + get_or r.given k 0 in
    let is : c.from.result + c.from-in-loop-i.result + (c.from-in-loop-i-2.result + c.from-in-loop-i-3.result) ≡ f i = omega (arith, c.from.ensures, c.from-in-loop-i.ensures, c.from-in-loop-i-2.ensures, c.from-in-loop-i-3.ensures) in
    let small : f i ≤ most_radius = omega arith in
    (write-next _ f c.loop-i.total-items i _ c.loop-i.invariant.0 is, below_more _ _ c.loop-i.invariant.1 small)

pub returns : goal.returns
unfolding radius_of
returns c =
    let e : c.loop-i.i ≡ 6 = omega arith in
    let is = c.loop-i.invariant.0 ∙ ap (write _ _ _) e ∙ write-all _ _ 0 6 refl in
    (is, λ i. subst (λ l. get_or l i 0 ≤ most_radius) (sym is) (tab_under 6 _ _ (λ k h. c.loop-i.invariant.1 k (omega arith)) i))
