-- Calls chain: the set of a hull that is accepted is accepted by the next call, and the places that its counts leave unused are 0.
use mathlib.Core.Path.{◌≡◌, sym, ◌∙◌}
use mathlib.Core.Option.{none}
use Prim.Native.Nat.{ℕ}
use native.Mathlib.Omega.{arith}
use Rattle.model.specs.Limits.{record_identifiers, standard_weights}
use Rattle.model.specs.Hull.{hull}
use Rattle.model.specs.Run.{first_of}
use Rattle.model.specs.Field.{too_many_blended}
use Rattle.model.specs.Library.{bad_next, hull_refusal}
use Rattle.model.proofs.Tests.{or_false}
use Rattle.model.proofs.Shape.{Valid}
use Rattle.model.proofs.Held.{held, held_valid, valid_ready, hull-held}
use Rattle.zonotope.specs.declared.PolyZonotope.{PolyZonotope}
use Rattle.zonotope.specs.Record.{view, given}
use Rattle.zonotope.specs.Valid.{passed}
use Rattle.zonotope.specs.Answer.{Accepted, or_else}
use Rattle.answers.specs.declared.Changed.{Changed}
use Rattle.answers.specs.Answer.{answered, of_result, result-narrow}
use Rattle.answers.specs.Order.{neither}
use Rattle.answers.specs.Chain.{Usable, answer_chained, accepted_valid}
use Rattle.summing.specs.Arguments.{before_summing, sets_in, next_in, next-above}
use Rattle.hulling.specs.Hulled.{of_blended}
use Rattle.hull.specs.Causes.{of_blend, hull-order}

-- where no cause refuses, the result is valid
hull_valid : (a b : PolyZonotope) (next : ℕ) → hull_refusal next (given a) (given b) ≡ none
    → Valid record_identifiers (hull standard_weights next (view a) (view b))
unfolding first_of
hull_valid a b next e =
    let m = hull standard_weights next (view a) (view b) in
    let fresh = of_blend next (view a) (view b) in
    let factors = of_blended (view a) (view b) in
    let all = neither (or_else (before_summing (given a) (given b)) fresh) (or_else factors (of_result m))
    (sym (hull-order next (given a) (given b)) ∙ e) in
    let asked = neither (before_summing (given a) (given b)) fresh all.0 in
    let sets = sets_in (given a) (given b) asked.0 in
    let last = neither factors (of_result m) all.1 in
    let u = accepted_valid b sets.1 in
    let good = or_false (bad_next next (view a)) (bad_next next (view b)) (next_in _ asked.1) in
    let above = next-above next (view a) good.0 in
    let own = held next (accepted_valid a sets.0) above.2 in
    let other = held next u (next-above next (view b) good.1).2 in
    held_valid (hull-held standard_weights own (omega (arith, above.0)) (valid_ready u) sets.2 other.identifiers_in
    (passed (too_many_blended (view a) (view b)) 9 last.0).0 (result-narrow m last.1))
    (omega (arith, above.1))

pub hull_chains : (a b : PolyZonotope) (next : ℕ) {r : Changed}
    → r ≡ answered (hull_refusal next (given a) (given b)) a (hull standard_weights next (view a) (view b))
    → r.outcome ≡ Accepted → Usable r.set
hull_chains a b next = answer_chained _ a _ (hull_valid a b next)
