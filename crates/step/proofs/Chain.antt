-- Calls chain: the set of a step that is accepted is accepted by the next call, and the places that its counts leave unused are 0.
use mathlib.Core.Path.{◌≡◌, refl, sym, ap, subst, ◌∙◌}
use mathlib.Core.List.{List, ◌∷◌}
use mathlib.Core.Option.{Option, none}
use mathlib.Core.Bool.{Bool}
use Prim.Native.Nat.{ℕ}
use lib.IntN.{ℤ}
use lib.ListN.{length, drop}
use Rattle.model.specs.Limits.{record_identifiers, standard_weights}
use Rattle.model.specs.Set.{Zonotope}
use Rattle.model.specs.Valid.{is_too_wide}
use Rattle.model.specs.Step.{Step, step}
use Rattle.model.specs.Ranged.{Widths, gain, gaining_step, ranged_step}
use Rattle.model.specs.Field.{bad_dimension}
use Rattle.model.specs.Run.{Cause, ◌if◌, first_of}
use Rattle.model.specs.Library.{bad_step_counts, of_step, of_ranged_step}
use Rattle.model.proofs.Tests.{or_false}
use Rattle.model.proofs.Accepted.{dimension_in}
use Rattle.model.proofs.Shape.{Valid}
use Rattle.model.proofs.Held.{gaining_held}
use Rattle.model.proofs.Ranged.{nothing-gained}
use Rattle.zonotope.specs.declared.PolyZonotope.{PolyZonotope}
use Rattle.zonotope.specs.Record.{view, given}
use Rattle.zonotope.specs.Valid.{passed}
use Rattle.zonotope.specs.Answer.{Accepted, or_else}
use Rattle.answers.specs.declared.Changed.{Changed}
use Rattle.answers.specs.Answer.{answered, of_result, result-narrow}
use Rattle.answers.specs.Order.{neither}
use Rattle.answers.specs.Chain.{Usable, answer_chained, accepted_valid, valid_held, held-again}
use Rattle.step.specs.Answer.{without_room, refusal_of, ranged_refusal_of}
use Rattle.step.specs.Order.{before_stepping}
use Rattle.step.proofs.Order.{step-order, ranged-order, all-passed}

-- where no cause refuses, of which the first is for a step's counts, the result is valid
result_valid : (s : PolyZonotope) (p : Step) (gains : ℕ → ℕ) (short : Bool) (rest : List Cause) {m : Zonotope} {number : Option ℕ}
    → gaining_step standard_weights gains p (view s) ≡ m
    → number ≡ or_else (before_stepping short (given s) ((4 if bad_step_counts p) ∷ rest)) (of_result m) → number ≡ none
    → Valid record_identifiers m
unfolding first_of
result_valid s p gains short rest {m} is order e =
    let own = (4 if bad_step_counts p) ∷ rest in
    let all = neither (before_stepping short (given s) own) (of_result m) (sym order ∙ e) in
    let parts = all-passed (given s) own short all.0 in
    let counts = (passed (bad_step_counts p) 4 parts.2).0 in
    let rows = dimension_in p.rows (or_false (bad_dimension p.rows) (bad_dimension p.columns) counts).0 in
    subst (Valid record_identifiers) is
    (held-again (gaining_held standard_weights (valid_held (accepted_valid s parts.1)) gains p rows.0 rows.1
    (ap is_too_wide is ∙ result-narrow m all.1)))

module _ (s : PolyZonotope) (p : Step) (w : List ℤ) (e : List ℕ) where
  abbrev short : Bool
  short = without_room (length w) (length e)

  pub step_chains : {r : Changed} → r ≡ answered (refusal_of w e p (given s)) s (step standard_weights p (view s)) → r.outcome ≡ Accepted
      → Usable r.set
  step_chains =
      answer_chained _ s _
      (result_valid s p (λ i. 0) short (drop 1 (of_step p (view s).dimension))
      (nothing-gained standard_weights p (view s) (λ i _. refl)) (step-order short p (given s)))

  pub ranged_chains : (d : Widths) {r : Changed}
      → r ≡ answered (ranged_refusal_of w e p d (given s)) s (ranged_step standard_weights p d (view s)) → r.outcome ≡ Accepted
      → Usable r.set
  unfolding ranged_step
  ranged_chains d =
      answer_chained _ s _
      (result_valid s p (gain p.columns d (view s)) short (drop 1 (of_ranged_step p d (view s).dimension)) refl
      (ranged-order short p (given s) d))
