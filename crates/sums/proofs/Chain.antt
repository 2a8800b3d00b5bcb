-- Calls chain: the set of an answer that accepts is accepted by the next call, and the places that its counts leave unused are 0.
use mathlib.Core.Path.{◌≡◌, sym, ◌∙◌}
use mathlib.Core.List.{List}
use mathlib.Core.Option.{none}
use Prim.Native.Nat.{ℕ}
use native.Mathlib.Omega.{arith}
use Rattle.model.specs.Limits.{record_identifiers, standard_weights}
use Rattle.model.specs.Operations.{disturb, reduce, tied_sum, independent_sum, renumbered}
use Rattle.model.specs.Run.{first_of}
use Rattle.model.specs.Library.{of_radii, of_limits, bad_next, examine, disturb_refusal, reduce_refusal, tied_refusal, independent_refusal}
use Rattle.model.proofs.Shape.{Valid, counted}
use Rattle.model.proofs.Held.{held, held_valid, valid_ready, disturb-held, reduce-held, sum-held, independent_held}
use Rattle.zonotope.specs.declared.PolyZonotope.{PolyZonotope}
use Rattle.zonotope.specs.Record.{view, given}
use Rattle.zonotope.specs.Valid.{valid}
use Rattle.zonotope.specs.Answer.{Accepted, or_else}
use Rattle.answers.specs.declared.Changed.{Changed}
use Rattle.answers.specs.Answer.{answered, of_result, result-narrow}
use Rattle.answers.specs.Order.{neither}
use Rattle.answers.specs.Chain.{Usable, answer_chained, accepted_valid, valid_held, held-again}
use Rattle.summing.specs.Summable.{of_factors, factors_in}
use Rattle.summing.specs.Arguments.{before_summing, of_next, sets_in, next_in, next-above}
use Rattle.sums.specs.Causes.{before_disturbing, before_reducing}
use Rattle.sums.specs.Causes.{disturb-order, reduce-order, tied-order, independent_order}
use Rattle.sums.specs.Passed.{radii_in, limits_in}

-- ---- where no cause refuses, the result is valid
disturb_valid : (s : PolyZonotope) (n : ℕ) (radii : List ℕ) → disturb_refusal n radii (given s) ≡ none
    → Valid record_identifiers (disturb radii (view s))
disturb_valid s n radii e =
    let m = disturb radii (view s) in
    let all = neither (before_disturbing n radii (given s)) (of_result m) (sym (disturb-order n radii (given s)) ∙ e) in
    let first = neither (examine (given s)) (first_of (of_radii n radii (view s).dimension)) all.0 in
    held-again (disturb-held (valid_held (accepted_valid s (valid (given s) first.0))) radii
    (radii_in n radii (view s).dimension first.1).0 (result-narrow m all.1))

reduce_valid : (s : PolyZonotope) (h q : ℕ) → reduce_refusal h q (given s) ≡ none
    → Valid record_identifiers (reduce standard_weights h q (view s))
reduce_valid s h q e =
    let m = reduce standard_weights h q (view s) in
    let all = neither (before_reducing h q (given s)) (of_result m) (sym (reduce-order h q (given s)) ∙ e) in
    let first = neither (examine (given s)) (first_of (of_limits h q)) all.0 in
    let l = limits_in h q first.1 in
    held-again (reduce-held standard_weights (valid_held (accepted_valid s (valid (given s) first.0))) l.0 l.1
    (result-narrow m all.1))

tied_valid : (a b : PolyZonotope) → tied_refusal (given a) (given b) ≡ none
    → Valid record_identifiers (tied_sum standard_weights (view a) (view b))
tied_valid a b e =
    let m = tied_sum standard_weights (view a) (view b) in
    let factors = of_factors (view a) (view b) in
    let all = neither (before_summing (given a) (given b)) (or_else factors (of_result m)) (sym (tied-order (given a) (given b)) ∙ e) in
    let sets = sets_in (given a) (given b) all.0 in
    let last = neither factors (of_result m) all.1 in
    let u = accepted_valid b sets.1 in
    held-again (sum-held standard_weights (valid_held (accepted_valid a sets.0)) (valid_ready u) sets.2
    (valid_held u).identifiers_in (factors_in (view a) (view b) last.0) (result-narrow m last.1))

independent_valid : (a b : PolyZonotope) (next : ℕ) → independent_refusal next (given a) (given b) ≡ none
    → Valid record_identifiers (independent_sum standard_weights next (view a) (view b))
independent_valid a b next e =
    let m = independent_sum standard_weights next (view a) (view b) in
    let fresh = of_next (bad_next next (view a)) in
    let factors = of_factors (view a) (renumbered next (view b)) in
    let all = neither (or_else (before_summing (given a) (given b)) fresh) (or_else factors (of_result m))
    (sym (independent_order next (given a) (given b)) ∙ e) in
    let asked = neither (before_summing (given a) (given b)) fresh all.0 in
    let sets = sets_in (given a) (given b) asked.0 in
    let last = neither factors (of_result m) all.1 in
    let u = accepted_valid b sets.1 in
    let above = next-above next (view a) (next_in _ asked.1) in
    let few = (counted (view b) u.counts).factors_few in
    let own = held next (accepted_valid a sets.0) above.2 in
    held_valid (independent_held standard_weights own (omega (arith, above.0)) (valid_ready u) sets.2
    (factors_in (view a) (renumbered next (view b)) last.0) (result-narrow m last.1))
    (omega (arith, above.1, few))

-- ---- the calls
module _ {r : Changed} where
  pub disturb_chains : (s : PolyZonotope) (n : ℕ) (radii : List ℕ)
      → r ≡ answered (disturb_refusal n radii (given s)) s (disturb radii (view s)) → r.outcome ≡ Accepted → Usable r.set
  disturb_chains s n radii = answer_chained _ s _ (disturb_valid s n radii)

  pub reduce_chains : (s : PolyZonotope) (h q : ℕ)
      → r ≡ answered (reduce_refusal h q (given s)) s (reduce standard_weights h q (view s)) → r.outcome ≡ Accepted → Usable r.set
  reduce_chains s h q = answer_chained _ s _ (reduce_valid s h q)

  pub tied_chains : (a b : PolyZonotope)
      → r ≡ answered (tied_refusal (given a) (given b)) a (tied_sum standard_weights (view a) (view b))
      → r.outcome ≡ Accepted → Usable r.set
  tied_chains a b = answer_chained _ a _ (tied_valid a b)

  pub independent_chains : (a b : PolyZonotope) (next : ℕ)
      → r ≡ answered (independent_refusal next (given a) (given b)) a (independent_sum standard_weights next (view a) (view b))
      → r.outcome ≡ Accepted → Usable r.set
  independent_chains a b next = answer_chained _ a _ (independent_valid a b next)
