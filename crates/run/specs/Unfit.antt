-- States that no run has: the number that refuses a call with one.
use Rattle.std.specs.Prelude.{◌≡◌, Bool, true, false, cond, ◌||◌, ℕ, ◌<◌, ◌≤◌, eqb, length, get_or}
use Rattle.std.proofs.Common.{sym, ◌∙◌, arith, eq-eqb, ne_eqb, ltb-false}
use Rattle.std.proofs.Math.Path.{ap}
use mathlib.Core.List.{List, [], ◌∷◌, ◌++◌}
use Rattle.std.proofs.Math.Option.{Option, none}
use Rattle.std.proofs.Math.Bool.{or-false}
use Rattle.std.proofs.Math.Decide.{dec_lt}
use Rattle.std.proofs.Math.Dec.{ltb}
use Rattle.std.proofs.Math.ListN.{get_or-eq_default}
use Rattle.whole.specs.Tab.{any}
use Rattle.whole.specs.Tests.{any_found, any_none, none_at, any_list}
use Rattle.model.specs.Limits.{first_fresh, last_fresh, max_total}
use Rattle.model.specs.Set.{Zonotope}
use Rattle.model.specs.Run.{Cause, ◌if◌, first_of, current}
use Rattle.model.specs.Library.{of_first, examine, bad_next}
use Rattle.zonotope.specs.Answer.{Accepted, Refused, examined, or_else, first_append}
use Rattle.zonotope.specs.Record.{view, given}
use Rattle.zonotope.specs.Valid.{passed}
use Rattle.states.specs.declared.State.{State}
use Rattle.states.specs.State.{viewed}
use Rattle.advance.specs.Running.{current_is}

-- a total is more than folding can add to a radius in a run
abbrev pub bad_totals : List ℕ → Bool
bad_totals totals = any (ltb max_total) totals

-- what is asked after the set: the next identifier, 11, and the totals of what folding added, 6
abbrev pub of_rest : Bool → List ℕ → List Cause
of_rest bad totals = (11 if bad) ∷ (6 if bad_totals totals) ∷ []

-- the set, where a field was accepted: 4, 6, 7, 8; then the next identifier and the totals
abbrev pub of_state : State → List Cause
of_state st =
    cond (eqb st.count 0) [] (of_first (given st.set)) ++ of_rest (bad_next st.next (current (viewed st))) st.folded

-- the number that refuses a call with this state: 13 for a work slice that is too short comes first
unfoldable pub unfit : Bool → State → Option ℕ
unfit short st = first_of ((13 if short) ∷ of_state st)

-- ---- the order: 13, the set, the next identifier, the totals
-- without room nothing else is asked
pub short-first : (st : State) {short : Bool} → short ≡ true → Refused 13 ≡ examined (unfit short st)
unfolding unfit first_of
short-first st e = rw e

module _ (st : State) where
  -- before the first accepted field no set is asked, and of the next identifier only its range
  pub first-order : st.count ≡ 0
      → unfit false st ≡ first_of (of_rest (ltb st.next first_fresh || ltb last_fresh st.next) st.folded)
  unfolding unfit first_of viewed any
  first-order z =
      rw (eq-eqb st.count 0 z)
      (ap (λ b. first_of (of_rest b st.folded)) (or-false (ltb st.next first_fresh || ltb last_fresh st.next)))

  -- later the set, and whether the next identifier is above its own
  pub later-order : 0 < st.count
      → unfit false st ≡ or_else (examine (given st.set)) (first_of (of_rest (bad_next st.next (view st.set)) st.folded))
  unfolding unfit first_of viewed examine
  later-order h =
      ap (λ b. first_of (cond b [] (of_first (given st.set)) ++ of_rest (bad_next st.next (current (viewed st))) st.folded))
      (ne_eqb st.count 0 (λ z. omega arith))
      ∙ first_append (of_first (given st.set)) (of_rest (bad_next st.next (current (viewed st))) st.folded)
      ∙ ap (λ (u : Zonotope). or_else (first_of (of_first (given st.set))) (first_of (of_rest (bad_next st.next u) st.folded)))
      (current_is st h)

-- ---- what is asked after the set
module _ (bad : Bool) (totals : List ℕ) where
  pub next_bad : bad ≡ true → Refused 11 ≡ examined (first_of (of_rest bad totals))
  unfolding first_of
  next_bad e = rw e

  pub totals_bad : bad ≡ false → bad_totals totals ≡ true → Refused 6 ≡ examined (first_of (of_rest bad totals))
  unfolding first_of
  totals_bad e f = rw (e, f)

  pub rest_good : bad ≡ false → bad_totals totals ≡ false → Accepted ≡ examined (first_of (of_rest bad totals))
  unfolding first_of
  rest_good e f = rw (e, f)

  -- what passed
  pub rest-passed : first_of (of_rest bad totals) ≡ none → (bad ≡ false) × (bad_totals totals ≡ false)
  unfolding first_of
  rest-passed e = let next = passed bad 11 e in (next.0, (passed (bad_totals totals) 6 next.1).0)

-- ---- the totals
module _ (totals : List ℕ) where
  pub few_totals : bad_totals totals ≡ false → (i : ℕ) → get_or totals i 0 ≤ max_total
  few_totals e i = go (dec_lt i (length totals))
    where
      go : Dec (i < length totals) → get_or totals i 0 ≤ max_total
      go (yes h) =
          ltb-false max_total (get_or totals i 0)
          (none_at (ltb max_total) (length totals) (λ i. get_or totals i 0) (sym (any_list (ltb max_total) 0 totals) ∙ e) i h)
      go (no h) = let past = get_or-eq_default totals 0 {n = i} (omega arith) in omega arith

  pub totals_good : ((i : ℕ) → i < length totals → ltb max_total (get_or totals i 0) ≡ false) → bad_totals totals ≡ false
  totals_good h = any_list (ltb max_total) 0 totals ∙ any_none (ltb max_total) (length totals) (λ i. get_or totals i 0) h

  pub total_out : (i : ℕ) → i < length totals → ltb max_total (get_or totals i 0) ≡ true → bad_totals totals ≡ true
  total_out i h e = any_list (ltb max_total) 0 totals ∙ any_found (ltb max_total) (length totals) (λ i. get_or totals i 0) i h e
