-- What functions that make turns answer, by what their calls do.
use mathlib.Core.Path.{◌≡◌, sym, ap, ap₂, subst}
use mathlib.Core.List.{List}
use mathlib.Core.Bool.{true, false, not, cond, true≢false}
use Prim.Native.Nat.{ℕ, ◌+◌, ◌≤◌, ◌<◌}
use native.Mathlib.Omega.{arith}
use borrow.Author.Tests.{eqb-false, not-true}
use lib.Dec.{eqb}
use lib.ListN.{length}
use Rattle.model.specs.Limits.{record_identifiers}
use Rattle.model.specs.Set.{Zonotope}
use Rattle.model.specs.Library.{examine}
use Rattle.model.specs.Run.{tag, first_field}
use Rattle.model.proofs.Tests.{and_true}
use Rattle.model.proofs.Shape.{Valid}
use Rattle.model.proofs.Cutting.{goes_on}
use Rattle.text.specs.Appended.{Appended}
use Rattle.text.specs.Lines.{longest_line}
use Rattle.zonotope.specs.Record.{view, pack, given}
use Rattle.zonotope.specs.Valid.{valid}
use Rattle.answers.specs.Accepted.{AcceptedRecord}
use Rattle.bodies.specs.Given.{pack_sized}
use Rattle.states.specs.declared.State.{State}
use Rattle.states.specs.declared.Answer.{Answer}
use Rattle.states.specs.State.{viewed, left}
use Rattle.states.specs.Taken.{taken}
use Rattle.states.proofs.Recorded.{passes, next_fits}
use Rattle.advance.specs.declared.Advanced.{Advanced}
use Rattle.advance.specs.Running.{Running, current_is}
use Rattle.advance.specs.Advanced.{advanced}
use Rattle.printing.specs.Line.{answer_line}
use Rattle.printing.proofs.Brief.{sound_sides}
use Rattle.feeding.specs.declared.Progress.{Progress}
use Rattle.feeding.specs.declared.machine.Fed.{Fed}
use Rattle.streams.specs.Machine.{Turns}
use Rattle.feeding.specs.Fed.{closed, field_taken, between, one_turn}
use Rattle.feeding.specs.Reached.{Reached, Placed, longest_field}
use Rattle.feeding.specs.Done.{Done}

-- ---- a field
-- the record of a valid set is accepted
accepted-pack : (m : Zonotope) → Valid record_identifiers m → AcceptedRecord (pack m)
unfolding examine
accepted-pack m v = record { sized = pack_sized m; passed = valid (given (pack m)) (passes v) }

-- a state that calls lead to is one that a run can have
pub running : (p : Progress) → Reached p → Running p.state
unfolding viewed
running p r = record {
  set = λ h. subst AcceptedRecord (r.packed h)
      (accepted-pack (view p.state.set) (subst (Valid record_identifiers) (current_is p.state h) (r.sound.valid h)));
  next = next_fits r.sound;
  six_totals = r.sound.six_totals;
  totals = λ i. omega (arith, r.sound.spans_most i, r.sound.count_in);
}

-- what is answered and left
module _ (p : Progress) (f : List ℕ) {a : Advanced} (e : a ≡ advanced p.place p.state f) where
  pub answer_is : a.answer ≡ (taken p.place p.state f).answer
  unfolding advanced
  answer_is = ap (λ (x : Advanced). x.answer) e

  pub state_is : a.state ≡ (taken p.place p.state f).state
  unfolding advanced
  state_is = ap (λ (x : Advanced). x.state) e

  pub sides_few : Reached p → a.answer.sides ≤ 6
  unfolding taken
  sides_few r = subst (λ (x : Answer). x.sides ≤ 6) (sym answer_is) (sound_sides r.sound f p.place)

module _ (p : Progress) (f : List ℕ) (r : Reached p) where
  module _ (on : p.done ≡ false) (placed : Placed p) where
    -- the next place is in 64 bits
    pub place_fits : length f ≤ longest_field → p.place + length f < 1000000000
    unfolding viewed
    place_fits h = omega (arith, placed on, r.sound.count_in)

    pub field-placed : length f ≤ longest_field → Placed (field_taken p f).progress
    unfolding taken left viewed
    field-placed h e = let n = goes_on (viewed p.state) f e in omega (arith, placed on)

pub field_done : (p : Progress) (f : List ℕ) {before after : List ℕ} {at k t n : ℕ} {answer : Answer} {state : State} → n ≡ length f
    → answer ≡ (taken p.place p.state f).answer → state ≡ (taken p.place p.state f).state → t ≡ tag f
    → Appended longest_line before after at k (answer_line t answer)
    → Done longest_line (field_taken p f) before after at (record {
      progress = record { state = state; place = p.place + n; done = state.over };
      used = n;
      written = k;
    })
field_done p f {before} {after} {at} {k} {answer = answer} n a s e x = record {
  progress = ap₂ (λ (s : State) (n : ℕ). record { state = s; place = p.place + n; done = s.over }) s n;
  used = n;
  text = subst (Appended longest_line before after at k) (ap₂ answer_line e a) x;
}

-- ---- one turn
pub turn_done : (p : Progress) (rest : List ℕ) {t : Turns Progress} {before after : List ℕ} {at : ℕ} {r : Fed Progress} → one_turn p rest ≡ t
    → Done longest_line t before after at r → Done longest_line (one_turn p rest) before after at r
turn_done p rest {before = before} {after} {at} {r} e d = subst (λ (t : Turns Progress). Done longest_line t before after at r) (sym e) d

pub turn_placed : {t : Turns Progress} {before after : List ℕ} {at : ℕ} {r : Fed Progress} → Done longest_line t before after at r → Placed t.progress
    → Placed r.progress
turn_placed d h = subst Placed (sym d.progress) h

-- after the `end` line no place matters
pub closed-placed : (p : Progress) {before after : List ℕ} {at : ℕ} {r : Fed Progress} → Done longest_line (closed p) before after at r
    → Placed r.progress
closed-placed p d = turn_placed d (λ e. absurd (true≢false e))

-- by whether anything is left
module _ (p : Progress) (rest : List ℕ) where
  pub turned-closed : between p rest ≡ true → one_turn p rest ≡ closed p
  unfolding one_turn
  turned-closed e = ap (λ b. cond b (closed p) (field_taken p (first_field rest))) e

  pub turned_taken : between p rest ≡ false → one_turn p rest ≡ field_taken p (first_field rest)
  unfolding one_turn
  turned_taken e = ap (λ b. cond b (closed p) (field_taken p (first_field rest))) e

  -- a run is closed only after a field was accepted
  pub closed_count : between p rest ≡ true → 1 ≤ p.state.count
  closed_count e =
      let none = eqb p.state.count 0 in
      omega (arith, eqb-false p.state.count 0 (not-true none (and_true (eqb (length rest) 0) (not none) e).1))
