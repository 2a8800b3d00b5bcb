-- `columns::extremes` meets its contract: both sums are those of the rows passed.
use Rattle.std.specs.Prelude.{◌≡◌, Bool, true, false, List, ℕ, ℤ, ◌+◌, ◌-◌, ◌*◌, ◌<◌, length, pos, take, drop}
use Rattle.std.proofs.Common.{ap, ◌∙◌, arith, length-drop, rules, ◌+ℤ◌}
use Rattle.std.proofs.lemmas.List.{length-take-le}
use Rattle.whole.specs.Tab.{tab_cong}
use Rattle.model.specs.Set.{at}
use Rattle.arrays.specs.Chains.{part-at}
use Rattle.verdicts.specs.Ends.{extreme, extremes_none, extremes_again}
use Rattle.verdicts.proofs.columns.extremes.Goals as goal

pub loop-t-init : goal.loop-t-init
loop-t-init c = (extremes_none false _ _ _, extremes_none true _ _ _)

pub add_row-requires : goal.add_row-requires
add_row-requires c =
    let t = c.loop-t.t in
    let xs = c.args.s.now.coefficients in
    let e : t * 6 + 6 - t * 6 ≡ 6 = omega arith in
    let few = c.requires.terms in
    let long : length xs ≡ 240 = search rules in (
      ap (λ n. length (take n (drop (t * 6) xs))) e ∙ length-take-le 6 (drop (t * 6) xs) (omega (arith, length-drop (t * 6) xs, long)),
      (λ i. omega (arith, c.loop-t.invariant.0.small i)),
      (λ i. omega (arith, c.loop-t.invariant.1.small i)),
    )

-- a row as a part of the coefficients
part : (up b : Bool) (sums xs : List ℤ) (t : ℕ) (i : ℕ) → i < 6
    → at sums i +ℤ extreme up b (at (take (t * 6 + 6 - t * 6) (drop (t * 6) xs)) i) ≡ at sums i +ℤ extreme up b (at xs (t * 6 + i))
part up b sums xs t i l =
    let e : t * 6 + 6 - t * 6 ≡ 6 = omega arith in
    ap (λ z. at sums i +ℤ extreme up b z) (ap (λ n. at (take n (drop (t * 6) xs)) i) e ∙ part-at (pos 0) xs (t * 6) 6 i l)

pub loop-t-preserved : goal.loop-t-preserved
loop-t-preserved c =
    let l = c.loop-t in
    let s = c.args.s.now in
    let even = c.even_row-even.ensures in
    let low = c.add_row.ensures.0 in
    let high = c.add_row.ensures.1 in (
      extremes_again false _ _ _ l.invariant.0 even (low.are ∙ tab_cong 6 _ _ (λ i m. part false c.even_row-even.result l.low s.coefficients l.t i m))
          (λ i. omega (arith, low.small i, l.invariant.0.small i)),
      extremes_again true _ _ _ l.invariant.1 even (high.are ∙ tab_cong 6 _ _ (λ i m. part true c.even_row-even.result l.high s.coefficients l.t i m))
          (λ i. omega (arith, high.small i, l.invariant.1.small i)),
    )

pub returns : goal.returns
returns c =
    let e : c.loop-t.t ≡ c.args.s.now.terms = omega arith in
    (rw e at c.loop-t.invariant.0, rw e at c.loop-t.invariant.1)
