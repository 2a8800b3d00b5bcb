-- `span::add_sizes` meets its contract: the sizes of the places passed are added.
use Rattle.std.specs.Prelude.{◌≡◌, ◌+◌, ◌≤◌, ◌<◌, ℕ, get_or, pos, nat_abs}
use Rattle.std.proofs.Common.{sym, ap, ap₂, ◌∙◌, arith, rules}
use Rattle.std.proofs.Math.Decide.{dec_lt}
use borrow.Author.Count.{below_more}
use Rattle.whole.specs.Tab.{tab, get_d_tab, get_d_tab_past}
use Rattle.whole.specs.Write.{write, write_none, write-next, write-after, write-all}
use Rattle.arrays.proofs.span.add_sizes.Goals as goal

pub loop-i-init : goal.loop-i-init
loop-i-init c = (sym (write_none _ _ _), λ k l. absurd (omega arith))

pub overflow_add-sum : goal.overflow_add-sum
overflow_add-sum c =
    let l = c.loop-i in
    let xs = c.args.sums.now in
    let f : ℕ → ℕ = λ i. get_or xs i 0 + nat_abs (get_or c.args.row.now i (pos 0)) in
    let same : get_or l.sums l.i 0 ≡ get_or xs l.i 0 = ap (λ w. get_or w l.i 0) l.invariant.0 ∙ write-after xs 0 f 0 l.i l.i (omega arith) in
    let small = c.requires.1 l.i in
    record { fits = omega (arith, same, small, c.unsigned_abs.type_inv, c.from.ensures) }

pub loop-i-preserved : goal.loop-i-preserved
loop-i-preserved c =
    let l = c.loop-i in
    let xs = c.args.sums.now in
    let z = get_or c.args.row.now l.i (pos 0) in
    let f : ℕ → ℕ = λ i. get_or xs i 0 + nat_abs (get_or c.args.row.now i (pos 0)) in
    let same : get_or l.sums l.i 0 ≡ get_or xs l.i 0 = ap (λ w. get_or w l.i 0) l.invariant.0 ∙ write-after xs 0 f 0 l.i l.i (omega arith) in
    let is : c.unsigned_abs.result ≡ nat_abs z = search rules in
    let few : c.unsigned_abs.result ≤ 2147483648 = search rules in
    (write-next xs f l.sums l.i _ l.invariant.0 (ap₂ ◌+◌ same (c.from.ensures ∙ is)), below_more _ _ l.invariant.1 (omega (arith, is, few)))

pub returns : goal.returns
returns c =
    let xs = c.args.sums.now in
    let f : ℕ → ℕ = λ i. get_or xs i 0 + nat_abs (get_or c.args.row.now i (pos 0)) in
    let e : c.loop-i.i ≡ 6 = omega arith in
    let is = c.loop-i.invariant.0 ∙ ap (write xs 0 f) e ∙ write-all xs f 0 6 c.told-sums in
    let at : (i : ℕ) → Dec (i < 6) → get_or (tab 6 f) i 0 ≤ get_or xs i 0 + 2147483648 =
    λ i d. elim d [ yes l ↦ omega (arith, get_d_tab 6 f 0 i l, c.loop-i.invariant.1 i (omega arith)) | no l ↦ omega (arith, get_d_tab_past 6 f 0 i (omega arith)) ] in
    (is, λ i. rw is (at i (dec_lt i 6)))
