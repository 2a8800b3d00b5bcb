-- `span::column_sizes` meets its contract: the sums so far are those of the rows passed.
use Rattle.std.specs.Prelude.{◌≡◌, refl, ℕ, ◌+◌, ◌-◌, ◌*◌, ◌<◌, get_or, pos, nat_abs, length, take, drop}
use Rattle.std.proofs.Common.{ap, ◌∙◌, arith, length-drop}
use Rattle.std.proofs.lemmas.List.{length-take-le}
use Rattle.whole.specs.Sum.{upto_by}
use Rattle.whole.specs.Tab.{tab, tab_cong}
use Rattle.arrays.specs.Columns.{columns, columns-again, tab_under}
use Rattle.arrays.specs.Chains.{part-at}
use Rattle.arrays.proofs.span.column_sizes.Goals as goal

pub loop-t-init : goal.loop-t-init
unfolding tab upto_by
loop-t-init c = (refl, tab_under 6 (λ i. 0) 0 (λ i l. omega arith))

pub add_sizes-requires : goal.add_sizes-requires
add_sizes-requires c =
    let t = c.loop-t.t in
    let e : t * 6 + 6 - t * 6 ≡ 6 = omega arith in (
      ap (λ n. length (take n (drop (t * 6) c.args.xs.now))) e
          ∙ length-take-le 6 (drop (t * 6) c.args.xs.now) (omega (arith, length-drop (t * 6) c.args.xs.now)),
      λ i. omega (arith, c.loop-t.invariant.1 i),
    )

pub loop-t-preserved : goal.loop-t-preserved
loop-t-preserved c =
    let l = c.loop-t in
    let xs = c.args.xs.now in
    let e : l.t * 6 + 6 - l.t * 6 ≡ 6 = omega arith in
    let part : (i : ℕ) → i < 6 → get_or (take (l.t * 6 + 6 - l.t * 6) (drop (l.t * 6) xs)) i (pos 0) ≡ get_or xs (l.t * 6 + i) (pos 0) =
    λ i m. ap (λ n. get_or (take n (drop (l.t * 6) xs)) i (pos 0)) e ∙ part-at (pos 0) xs (l.t * 6) 6 i m in (
      columns-again 0 ◌+◌ (λ u i. nat_abs (get_or xs (u * 6 + i) (pos 0))) 6 l.t l.sums _ l.invariant.0 (c.add_sizes.ensures.0
          ∙ tab_cong 6 (λ i. get_or l.sums i 0 + nat_abs (get_or (take (l.t * 6 + 6 - l.t * 6) (drop (l.t * 6) xs)) i (pos 0))) (λ i. get_or l.sums i 0 + nat_abs (get_or xs (l.t * 6 + i) (pos 0)))
          (λ i m. ap (λ z. get_or l.sums i 0 + nat_abs z) (part i m))),
      λ i. omega (arith, c.add_sizes.ensures.1 i, l.invariant.1 i),
    )

pub returns : goal.returns
returns c =
    let l = c.loop-t in
    let e : l.t ≡ c.args.rows = omega arith in
    (l.invariant.0 ∙ ap (columns _ _ _ 6) e, λ i. omega (arith, l.invariant.1 i))
