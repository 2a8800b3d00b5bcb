-- `ranged_steps::of_words` meets its contract.
use mathlib.Core.Path.{◌≡◌, sym, ap, ◌∙◌}
use Rattle.model.specs.Run.{first_of}
use Rattle.model.specs.Library.{of_ranged_step}
use Rattle.zonotope.specs.Answer.{Examined, examined}
use Rattle.answers.specs.Answer.{refused-first, asked-next}
use Rattle.fields.specs.Asked.{step_from, widths_from}
use Rattle.fields.specs.Steps.{of_ranged_words, of_signs, some_negative, none_negative, words-parts}
use Rattle.fields.proofs.ranged_steps.of_words.Goals as goal
use Rattle.fields.proofs.ranged_steps.of_words.Goals.{In_ok-of_ranged_step}

pub returns-in_err-of_ranged_step : goal.returns-in_err-of_ranged_step
returns-in_err-of_ranged_step c =
    let a = c.args in let p = step_from a.p in let d = widths_from a.d in
    refused-first (first_of (of_ranged_step p d a.dimension)) (of_signs a.d.negative) c.in_err-of_ranged_step.ensures c.from_residual.ensures.1
    ∙ ap examined (sym (words-parts p d a.d.negative a.dimension))

-- where the first causes pass
next : (t : In_ok-of_ranged_step) {r : Examined} → r ≡ examined (of_signs t.args.d.negative)
    → r ≡ examined (first_of (of_ranged_words (step_from t.args.p) (widths_from t.args.d) t.args.d.negative t.args.dimension))
next t h =
    let a = t.args in let p = step_from a.p in let d = widths_from a.d in
    asked-next (first_of (of_ranged_step p d a.dimension)) (of_signs a.d.negative) t.in_ok-of_ranged_step.ensures h
    ∙ ap examined (sym (words-parts p d a.d.negative a.dimension))

pub returns-then-d : goal.returns-then-d
returns-then-d c = next (goal.at.returns-then-d c).In_ok-of_ranged_step (some_negative c.if-d.true)

pub returns : goal.returns
returns c = next (goal.at.returns c).In_ok-of_ranged_step (none_negative c.if-d.false)
