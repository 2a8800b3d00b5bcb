-- `hulling::hulled` meets its contract.
use mathlib.Core.Path.{sym, ◌∙◌}
use Rattle.model.specs.Limits.{standard_weights}
use Rattle.model.specs.Hull.{hull}
use Rattle.zonotope.specs.Record.{view}
use Rattle.answers.specs.Answer.{of_result}
use Rattle.summing.specs.Summand.{for_sum}
use Rattle.hulling.specs.Hulled.{blended-many, blended_few, blended-factors, blended_common}
use Rattle.hulling.proofs.hulled.Goals as goal

pub tied_identifiers-all-requires : goal.tied_identifiers-all-requires
tied_identifiers-all-requires c = (for_sum _ c.requires.first, for_sum _ c.requires.second)

pub returns-then-too_many : goal.returns-then-too_many
returns-then-too_many c =
    let t = c in
    let a = t.args in
    let m = hull standard_weights a.next (view a.first) (view a.second) in
    blended-many (view a.first) (view a.second) (of_result m) m
    (sym (blended-factors (view a.first) (view a.second) t.tied_identifiers-all.ensures) ∙ sym c.too_many.ensures
    ∙ c.if-too_many.true)

pub finished-requires : goal.finished-requires
finished-requires c =
    let t = c in
    let a = t.args in
    let k = blended_common (view a.first) (view a.second) t.tied_identifiers-all.ensures
    (sym c.too_many.ensures ∙ c.if-too_many.false) in
    (t.requires, k.0, k.1)

pub returns : goal.returns
returns c =
    let i = c in
    let t = i in
    let a = t.args in
    let m = hull standard_weights a.next (view a.first) (view a.second) in
    blended_few (view a.first) (view a.second) (of_result m) m
    (sym (blended-factors (view a.first) (view a.second) t.tied_identifiers-all.ensures) ∙ sym i.too_many.ensures
    ∙ i.if-too_many.false)
    c.finished.ensures
