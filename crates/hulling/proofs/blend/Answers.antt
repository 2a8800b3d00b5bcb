-- `hulling::blend` meets its contract: the sum's rows, halved with and without the blending factor.
use mathlib.Core.Path.{◌≡◌, sym, ap, ap₂, subst, ◌∙◌}
use mathlib.Core.List.{List}
use Prim.Native.Nat.{ℕ, ◌+◌, ◌*◌}
use lib.IntN.{ℤ, pos}
use lib.ListN.{replicate}
use Rattle.whole.specs.Write.{write}
use Rattle.model.specs.Hull.{halved}
use Rattle.rows.specs.Cells.{small_weaken}
use Rattle.rows.specs.Rows.{rows_of, Small}
use Rattle.model.specs.Operations.{joined}
use Rattle.zonotope.specs.Record.{view}
use Rattle.align.specs.Examined.{counts}
use Rattle.summing.specs.Summed.{work_space}
use Rattle.finish.specs.Wide.{wide_vector}
use Rattle.hulling.specs.WideTerms.{half}
use Rattle.hulling.specs.Blending.{times_at}
use Rattle.hulling.specs.Sizes.{blend_limit, numbers_small, vector_small, halved_small}
use Rattle.hulling.specs.Blended.{blended-centre, blended-rows, difference_small, halved-wide}
use native.Mathlib.Omega.{arith}
use borrow.Author.Rules.{rules}
use Rattle.hulling.proofs.blend.Goals as goal

pub tied-sum-requires : goal.tied-sum-requires
tied-sum-requires c =
    let z = c in (z.requires.0, z.requires.1, z.requires.2, work_space)

pub overflow_add-first : goal.overflow_add-first
overflow_add-first c =
    let t = c in omega (arith, (counts _ c.requires.0).terms_few, (counts _ c.requires.1).terms_few)

pub blend_exponents-requires : goal.blend_exponents-requires
blend_exponents-requires c =
    let t = c in (omega (arith, (counts _ c.requires.0).terms_few, (counts _ c.requires.1).terms_few), search rules, search rules)

pub blend_numbers-requires : goal.blend_numbers-requires
blend_numbers-requires c =
    let d = c in
    let t = c in (
      (counts _ c.requires.0).terms_few,
      (counts _ c.requires.1).terms_few,
      search rules,
      search rules,
      search rules,
      rw c.add_centres-difference.ensures (difference_small c.args.first c.args.second c.requires.0 c.requires.1),
      small_weaken c.tied-sum.ensures.terms.small (omega arith),
    )

pub put_halves-requires : goal.put_halves-requires
put_halves-requires c =
    let t = c in
    (omega arith, omega arith, omega arith, search rules, search rules, rw c.tied-sum.ensures.centre (vector_small (joined (view c.args.first) (view c.args.second)).centre c.tied-sum.ensures.centre_small), omega arith)

pub returns : goal.returns
returns c =
    let p = c in
    let n = c in
    let x = n in
    let d = c in
    let t = c in
    let z = c in
    let a = z.args in
    let m = (joined (view a.first) (view a.second)).centre in
    let centre : p.put_halves.new.w ≡ wide_vector (halved m) =
    p.put_halves.ensures
    ∙ ap (λ (v : List ℤ). write (replicate 6 (pos 0)) (0 * 6) (times_at half v 0) (1 * 6)) c.tied-sum.ensures.centre
    ∙ halved-wide m in
    let rows = a.first.terms + a.second.terms in record {
      few = omega (arith, (counts _ c.requires.0).terms_few, (counts _ c.requires.1).terms_few);
      terms = λ next.
          ap₂ (λ (f : List ℕ) (w : List ℤ). rows_of f w (1 + (rows + rows))) c.blend_exponents.ensures c.blend_numbers.ensures
          ∙ blended-rows a.first a.second z.requires.0 z.requires.1 a.all z.requires.2 c.tied-sum.ensures.terms a.f.now a.w.now
          c.add_centres-difference.result z.requires.3 z.requires.4 c.add_centres-difference.ensures next;
      centre_is = λ next. centre ∙ ap wide_vector (sym (blended-centre next (view a.first) (view a.second)));
      numbers_small = subst (Small blend_limit) (sym c.blend_numbers.ensures)
          (numbers_small c.add_centres-difference.result _ a.w.now a.first.terms a.second.terms (rw c.add_centres-difference.ensures (difference_small c.args.first c.args.second c.requires.0 c.requires.1))
          (small_weaken c.tied-sum.ensures.terms.small (omega arith)) (small_weaken z.requires.5 (omega arith)));
      centre_small = subst (Small blend_limit) (sym centre) (halved_small m c.tied-sum.ensures.centre_small);
    }
