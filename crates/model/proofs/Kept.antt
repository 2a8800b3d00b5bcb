-- The run of a rewritten file gives what the old run gave (specs/OldRun.antt): at each field that stays the new run has the old one's state
-- but for the count.
use mathlib.Core.Path.{◌≡◌, refl, sym, ◌∙◌, ap, ap₂, subst}
use mathlib.Core.List.{List, [], ◌∷◌}
use mathlib.Core.Bool.{Bool, true, false, true≢false}
use mathlib.Core.Option.{Option, none}
use Prim.Native.Nat.{ℕ, ◌+◌, ◌<◌, ◌≤◌}
use native.Mathlib.Omega.{arith}
use lib.ListN.{length, drop}
use Rattle.model.specs.Set.{Zonotope}
use Rattle.model.specs.Finish.{those}
use Rattle.model.specs.Field.{Outcome}
use Rattle.model.specs.Run.{State, begin, meant, first_of, misplaced, cut, causes}
use Rattle.model.specs.Run.{accepted_by, after, run, field_length, first_field, fields, fields_within}
use Rattle.model.specs.Rewrite.{empty_disturbance, others, rewritten}
use Rattle.model.specs.OldRun.{old_causes, old_refusal, old_after, old_outcome, old_run, results, old_results, numbered}
use Rattle.model.specs.OldRun.{counting, KeepsResults}
use Rattle.model.proofs.Rewritten.{emptied, fields-rewritten}
use Rattle.model.proofs.Sound.{Sound, begin_sound, after_sound}
use Rattle.model.proofs.OldField.{accepts, went, old_left, old_answer, left, answer, old_placed, after_start, leaves_all}

-- ---- the run over the other fields
-- what is claimed of the fields `fs`, from an old state and a count
pub record Same (fs : List (List ℕ)) (place was : ℕ) (st : State) (c : ℕ) : Type 0 where
  pub unrefused : (run (others fs) (counting c st)).over ≡ false
  pub same-results : results place (counting c st) (others fs) ≡ numbered c (old_results was st fs)
  pub same_totals : (run (others fs) (counting c st)).folded ≡ (old_run fs st).folded

old_over : (fs : List (List ℕ)) (st : State) → (old_run fs st).over ≡ false → st.over ≡ false
unfolding old_run
old_over [] st e = e
old_over (f ∷ fs) st e = (went st f (old_over fs (old_after st f) e)).0

-- from any state that a run leads to
abbrev Stays : List (List ℕ) → Type 0
Stays fs = (place was : ℕ) (st : State) (c : ℕ) → Sound (counting c st) → c ≤ st.count → (0 < st.count → 0 < c)
    → (old_run fs st).over ≡ false → Same fs place was st c

-- one field more
module _ (f : List ℕ) (fs : List (List ℕ)) (later : Stays fs) (place was : ℕ) (st : State) (c : ℕ) (h : Sound (counting c st))
    (l : c ≤ st.count) (z : 0 < st.count → 0 < c) (e : (old_run (f ∷ fs) st).over ≡ false) where
  abbrev then : State
  then = accepted_by st (meant st f)

  past : (st.over ≡ false) × (old_refusal st f ≡ none)
  unfolding old_run
  past = went st f (old_over fs (old_after st f) e)

  is_then : old_after st f ≡ then
  is_then = old_left st f past.0 past.1

  goes : (old_run fs then).over ≡ false
  unfolding old_run
  goes = subst (λ (s : State). (old_run fs s).over ≡ false) is_then e

  -- an empty disturbance
  gone : empty_disturbance f ≡ true → Same (f ∷ fs) place was st c
  unfolding old_run run others results old_results
  gone p =
      let d = emptied f p in
      let q = old_placed st f d past.1 in
      let some_IsFirst = z (after_start st f d q.0) in
      let as-was = leaves_all c st f h some_IsFirst d q.1 past.0 in
      let r = later place (was + length f) then c (subst Sound (sym as-was) h) (omega arith) (λ _. some_IsFirst) goes in
      let o : others (f ∷ fs) ≡ others fs = rw p in
      let old : old_results was st (f ∷ fs) ≡ old_results (was + length f) (old_after st f) fs = rw p in
      record {
        unrefused = ap₂ (λ (gs : List (List ℕ)) (s : State). (run gs s).over) o (sym as-was) ∙ r.unrefused;
        same-results = ap₂ (λ (gs : List (List ℕ)) (s : State). results place s gs) o (sym as-was) ∙ r.same-results
            ∙ ap (numbered c) (sym (old ∙ ap (λ (s : State). old_results (was + length f) s fs) is_then));
        same_totals = ap₂ (λ (gs : List (List ℕ)) (s : State). (run gs s).folded) o (sym as-was) ∙ r.same_totals
            ∙ ap (λ (s : State). (old_run fs s).folded) (sym is_then);
      }

  -- another field
  kept : empty_disturbance f ≡ false → Same (f ∷ fs) place was st c
  unfolding old_run run others results old_results numbered
  kept p =
      let a = accepts st f c l z p past.1 in
      let is-next = left (counting c st) f past.0 a in
      let r = later (place + length f) (was + length f) then (c + 1) (subst Sound is-next (after_sound h f)) (omega arith)
      (λ _. omega arith) goes in
      let o : others (f ∷ fs) ≡ f ∷ others fs = rw p in
      let old : old_results was st (f ∷ fs) ≡ record { number = st.count; set = (old_after st f).set; outcome = old_outcome was st f }
      ∷ old_results (was + length f) (old_after st f) fs = rw p in
      let sets : (after (counting c st) f).set ≡ (old_after st f).set =
      ap (λ (s : State). s.set) is-next ∙ ap (λ (s : State). s.set) (sym is_then) in
      let outcomes = answer (counting c st) f place past.0 a ∙ sym (old_answer st f was past.0 past.1) in
      let rest = ap (λ (s : State). results (place + length f) s (others fs)) is-next ∙ r.same-results
      ∙ ap (λ (s : State). numbered (c + 1) (old_results (was + length f) s fs)) (sym is_then) in
      record {
        unrefused = ap (λ (gs : List (List ℕ)). (run gs (counting c st)).over) o ∙ ap (λ (s : State). (run (others fs) s).over) is-next
            ∙ r.unrefused;
        same-results = ap (results place (counting c st)) o
            ∙ ap₂ ◌∷◌ (ap₂ (λ (s : Option Zonotope) (u : Outcome). record { number = c; set = s; outcome = u }) sets outcomes) rest
            ∙ ap (numbered c) (sym old);
        same_totals = ap (λ (gs : List (List ℕ)). (run gs (counting c st)).folded) o ∙ ap (λ (s : State). (run (others fs) s).folded) is-next
            ∙ r.same_totals ∙ ap (λ (s : State). (old_run fs s).folded) (sym is_then);
      }

  field_stays : Same (f ∷ fs) place was st c
  field_stays = go (empty_disturbance f) refl where
    go : (b : Bool) → empty_disturbance f ≡ b → Same (f ∷ fs) place was st c
    go true p = gone p
    go false p = kept p

stays : (fs : List (List ℕ)) → Stays fs
unfolding old_run run others results old_results numbered
stays [] = λ place was st c h l z e. record { unrefused = e; same-results = refl; same_totals = refl }
stays (f ∷ fs) = field_stays f fs (stays fs)

-- ---- the claim
-- cut at its headers, an input that has a field is its fields
some_fields : (b f : List ℕ) (fs : List (List ℕ)) → fields_within (length b) b ≡ f ∷ fs → fields b ≡ f ∷ fs
unfolding fields fields_within
some_fields [] f fs e = absurd (omega (arith, ap length e))
some_fields (t ∷ b) f fs e = e

-- the first field of a run that was accepted is no empty disturbance
first_stays : (f : List ℕ) (fs : List (List ℕ)) → (old_run (f ∷ fs) begin).over ≡ false → empty_disturbance f ≡ false
unfolding old_run
first_stays f fs e = go (empty_disturbance f) refl where
  past : (begin.over ≡ false) × (old_refusal begin f ≡ none)
  past = went begin f (old_over fs (old_after begin f) e)

  go : (b : Bool) → empty_disturbance f ≡ b → empty_disturbance f ≡ false
  go true p = absurd (omega (arith, after_start begin f (emptied f p) (old_placed begin f (emptied f p) past.1).0))
  go false p = p

-- so that the fields of the rewritten input are the others
fields_stay : (input : List ℕ) → (old_run (fields input) begin).over ≡ false → fields (rewritten input) ≡ others (fields input)
unfolding fields fields_within old_run old_after old_causes causes those first_of misplaced cut others
fields_stay [] e = absurd (true≢false e)
fields_stay (t ∷ b) e =
    let input = t ∷ b in
    let first = first_field input in
    let later = fields_within (length b) (drop (field_length input) input) in
    let o : others (first ∷ later) ≡ first ∷ others later = rw (first_stays first later e) in
    some_fields (rewritten input) first (others later) (fields-rewritten input ∙ o) ∙ sym o

pub keeps_results : KeepsResults
keeps_results input e =
    let s = stays (fields input) 0 0 begin 0 begin_sound (omega arith) (λ l. l) e in
    let are = fields_stay input e in
    record {
      unrefused = ap (λ (fs : List (List ℕ)). (run fs begin).over) are ∙ s.unrefused;
      same-results = ap (results 0 begin) are ∙ s.same-results;
      same_totals = ap (λ (fs : List (List ℕ)). (run fs begin).folded) are ∙ s.same_totals;
    }
