-- `sum::independent` meets its contract.
use mathlib.Core.Path.{sym, ◌∙◌}
use Rattle.model.specs.Limits.{standard_weights}
use Rattle.model.specs.Operations.{renumbered, independent_sum}
use Rattle.zonotope.specs.Record.{view}
use Rattle.answers.specs.Answer.{of_result}
use Rattle.summing.specs.Summand.{for_sum}
use Rattle.summing.specs.Summable.{result-many, result_few}
use Rattle.summing.specs.Summed.{factors-many, factors_common}
use Rattle.summing.proofs.sum.independent.Goals as goal

pub independent_identifiers-all-requires : goal.independent_identifiers-all-requires
independent_identifiers-all-requires c = (for_sum _ c.requires.0.first, for_sum _ c.requires.0.second, c.requires.1.few)

pub returns-then-too_many : goal.returns-then-too_many
returns-then-too_many c =
    let t = c in
    let a = t.args in
    let u = renumbered a.next (view a.second) in
    let m = independent_sum standard_weights a.next (view a.first) (view a.second) in
    result-many (view a.first) u (of_result m) m
    (sym (factors-many (view a.first) u t.independent_identifiers-all.ensures) ∙ sym c.too_many.ensures ∙ c.if-too_many.true)

pub independent_finished-requires : goal.independent_finished-requires
independent_finished-requires c =
    let t = c in
    let a = t.args in (
      t.requires.0,
      t.requires.1,
      factors_common (view a.first) (renumbered a.next (view a.second)) t.independent_identifiers-all.ensures
          (sym c.too_many.ensures ∙ c.if-too_many.false),
    )

pub returns : goal.returns
returns c =
    let i = c in
    let t = i in
    let a = t.args in
    let u = renumbered a.next (view a.second) in
    let m = independent_sum standard_weights a.next (view a.first) (view a.second) in
    result_few (view a.first) u (of_result m) m
    (sym (factors-many (view a.first) u t.independent_identifiers-all.ensures) ∙ sym i.too_many.ensures ∙ i.if-too_many.false)
    c.independent_finished.ensures
