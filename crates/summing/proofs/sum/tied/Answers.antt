-- `sum::tied` meets its contract.
use mathlib.Core.Path.{sym, ◌∙◌}
use Rattle.model.specs.Limits.{standard_weights}
use Rattle.model.specs.Operations.{tied_sum}
use Rattle.zonotope.specs.Record.{view}
use Rattle.answers.specs.Answer.{of_result}
use Rattle.summing.specs.Summand.{for_sum}
use Rattle.summing.specs.Summable.{result-many, result_few}
use Rattle.summing.specs.Summed.{factors-many, factors_common}
use Rattle.summing.proofs.sum.tied.Goals as goal

pub tied_identifiers-all-requires : goal.tied_identifiers-all-requires
tied_identifiers-all-requires c = (for_sum _ c.requires.first, for_sum _ c.requires.second)

pub returns-then-too_many : goal.returns-then-too_many
returns-then-too_many c =
    let t = c in
    let a = t.args in
    let m = tied_sum standard_weights (view a.first) (view a.second) in
    result-many (view a.first) (view a.second) (of_result m) m
    (sym (factors-many (view a.first) (view a.second) t.tied_identifiers-all.ensures) ∙ sym c.too_many.ensures
    ∙ c.if-too_many.true)

pub tied_finished-requires : goal.tied_finished-requires
tied_finished-requires c =
    let t = c in
    let a = t.args in (
      t.requires,
      factors_common (view a.first) (view a.second) t.tied_identifiers-all.ensures
          (sym c.too_many.ensures ∙ c.if-too_many.false),
    )

pub returns : goal.returns
returns c =
    let i = c in
    let t = i in
    let a = t.args in
    let m = tied_sum standard_weights (view a.first) (view a.second) in
    result_few (view a.first) (view a.second) (of_result m) m
    (sym (factors-many (view a.first) (view a.second) t.tied_identifiers-all.ensures) ∙ sym i.too_many.ensures
    ∙ i.if-too_many.false)
    c.tied_finished.ensures
