-- `ranged_steps::stepped` meets its contract.
use mathlib.Core.Path.{◌≡◌, ap, ◌∙◌}
use mathlib.Core.List.{List}
use Prim.Native.Nat.{ℕ}
use lib.ListN.{get_or}
use Rattle.model.specs.Limits.{standard_weights}
use Rattle.model.specs.Set.{Zonotope}
use Rattle.model.specs.Step.{Step}
use Rattle.model.specs.Ranged.{Widths, gaining_step, ranged_step}
use Rattle.model.specs.Run.{Cause}
use Rattle.zonotope.specs.Record.{view}
use Rattle.zonotope.specs.Answer.{nothing_found}
use Rattle.image.specs.StepAccepted.{StepAccepted}
use Rattle.image.specs.Gaining.{widths-gained}
use Rattle.widths.specs.Widths.{WidthsAccepted}
use Rattle.answers.specs.Answer.{settled}
use Rattle.stepping.specs.Held.{for_image}
use Rattle.fields.specs.Asked.{step_from, widths_from}
use Rattle.fields.specs.Steps.{of_ranged_words, words_in, stepped-refused, stepped-worked}
use Rattle.fields.proofs.ranged_steps.stepped.Goals as goal
use Rattle.fields.proofs.ranged_steps.stepped.Goals.{Start, In_ok-of_words}

-- the step that is asked for, its half-widths, its own causes, and what it gives
module _ (s : Start) where
  abbrev asked : Step
  asked = step_from s.args.p

  abbrev widths : Widths
  widths = widths_from s.args.d

  abbrev own : List Cause
  own = of_ranged_words asked widths s.args.d.negative s.args.s.dimension

  abbrev result : Zonotope
  result = ranged_step standard_weights asked widths (view s.args.s)

accepted : (i : In_ok-of_words) → (let p = i.args.p in let d = i.args.d in
    StepAccepted (step_from p) × WidthsAccepted p.rows p.columns d.linear.now d.quadratic.now)
accepted i =
    words_in (step_from i.args.p) (widths_from i.args.d) i.args.d.negative i.args.s.dimension (nothing_found _ i.in_ok-of_words.ensures)

pub returns-in_err-of_words : goal.returns-in_err-of_words
returns-in_err-of_words c =
    let s = (goal.at.returns-in_err-of_words c).Start in
    stepped-refused (own s) (result s) c.in_err-of_words.ensures c.from_residual.ensures.1 c.args.w.now c.args.e.now

pub gains-gains-requires : goal.gains-gains-requires
gains-gains-requires c = ((accepted (goal.at.gains-gains-requires c).In_ok-of_words).1, for_image c.requires.0)

pub worked_out-requires : goal.worked_out-requires
worked_out-requires c =
    (c.requires.0, (accepted (goal.at.worked_out-requires c).In_ok-of_words).0, c.gains-gains.ensures.1, c.requires.1, c.requires.2)

pub returns : goal.returns
returns c =
    let s = (goal.at.returns c).Start in
    let t = view c.args.s in
    let k = c.worked_out.ensures in
    let gained : gaining_step standard_weights (λ (x : ℕ). get_or c.gains-gains.result x 0) (asked s) t ≡ result s =
    ap (λ (l : List ℕ). gaining_step standard_weights (λ (x : ℕ). get_or l x 0) (asked s) t) c.gains-gains.ensures.0
    ∙ widths-gained standard_weights (asked s) t (widths s) (accepted (goal.at.returns c).In_ok-of_words).1.rows in
    stepped-worked (own s) (result s) c.in_ok-of_words.ensures (k.value ∙ ap settled gained) k.numbers k.exponents
