-- The laws of a run over a whole input: it begins, goes on by a field, and ends.
use Rattle.std.specs.Prelude.{◌≡◌, Bool, true, false, ◌||◌, ℕ, zero, suc, ◌+◌, ◌<◌, ◌≤◌, length, drop}
use Rattle.std.proofs.Math.Path.{refl, sym, ap}
use Rattle.std.proofs.Common.{◌∙◌, ap₂, subst, true≢false, arith, length-drop, length-take, drop-drop, eqb-true}
use mathlib.Core.List.{List, [], ◌∷◌}
use Rattle.std.proofs.Math.Bool.{cond, or_assoc, or-false}
use Rattle.std.proofs.Math.Dec.{eqb}
use Rattle.std.proofs.Math.Seq.{drop-length}
use Rattle.std.proofs.lemmas.Bool.{eqb-false}
use Rattle.whole.specs.Tests.{or_left, or_right}
use Rattle.model.specs.Run as Model
use Rattle.model.specs.Run.{begin, after, answer, fields, fields_within, run, first_field, field_length}
use Rattle.model.specs.Rest.{fields_left}
use Rattle.model.proofs.Cutting.{fields_after, first-left, goes_on}
use Rattle.model.proofs.Sound.{begin_sound, after_sound}
use Rattle.states.specs.declared.State.{State}
use Rattle.states.specs.declared.Answer.{Answer}
use Rattle.states.specs.State.{record_of, beginning}
use Rattle.states.specs.Answer.{answer_of}
use Rattle.advance.specs.Advanced.{step_worked, Used}
use Rattle.run.specs.Whole.{last_answer, any_worked, no_answer}
use Rattle.run.specs.Course.{Coursing, Ended}

pub begins : (input : List ℕ) → Coursing input 0 beginning false begin
unfolding fields_left
begins input = record {
  record_is = refl;
  sound = begin_sound;
  on = refl;
  within = omega arith;
  more = λ e. refl;
  states = refl;
  lasts = refl;
  works = refl;
}

-- ---- a run that is over, whatever fields are given to it
pub chosen : {A : Type 0} (b : Bool) (x y : A) → b ≡ true → cond b x y ≡ x
chosen true x y e = refl
chosen false x y e = absurd (true≢false (sym e))

over_after : (v : Model.State) (f : List ℕ) → v.over ≡ true → after v f ≡ v
unfolding after
over_after v f e = chosen v.over v _ e

over_stays : (l : List (List ℕ)) (v : Model.State) → v.over ≡ true → run l v ≡ v
unfolding run
over_stays [] v e = refl
over_stays (f ∷ l) v e = ap (run l) (over_after v f e) ∙ over_stays l v e

pub over_answer : (place : ℕ) (l : List (List ℕ)) (v : Model.State) (a : Answer) → v.over ≡ true → last_answer place v l a ≡ a
unfolding last_answer
over_answer place [] v a e = refl
over_answer place (f ∷ l) v a e = chosen v.over a _ e

over_idle : (l : List (List ℕ)) (v : Model.State) → v.over ≡ true → any_worked v l ≡ false
unfolding any_worked
over_idle [] v e = refl
over_idle (f ∷ l) v e =
    ap₂ ◌||◌ (chosen v.over false _ e) (ap (λ (x : Model.State). any_worked x l) (over_after v f e) ∙ over_idle l v e)

-- one that goes on forgets the answer before
next-answer : (place : ℕ) (v : Model.State) (f : List ℕ) (l : List (List ℕ)) (a b : Answer) → v.over ≡ false
    → last_answer place v (f ∷ l) a ≡ last_answer place v (f ∷ l) b
unfolding last_answer
next-answer place v f l a b e =
    let then = last_answer (place + length f) (after v f) l (answer_of (answer place v f) (length f)) in
    ap (λ o. cond o a then) e ∙ sym (ap (λ o. cond o b then) e)

-- nothing is left after the last byte
none_left : (n : ℕ) (input : List ℕ) (at : ℕ) → 0 < n → at ≡ length input → fields_left n (drop at input) ≡ []
unfolding fields_left fields_within
none_left zero input at l e = absurd (omega arith)
none_left (suc n) input at l e =
    ap (λ (k : List ℕ). fields_within (length k) k) (ap (λ m. drop m input) e ∙ drop-length input)

-- ---- one field
module _ {input : List ℕ} {at : ℕ} {st : State} {worked : Bool} {u : Model.State} (h : Coursing input at st worked u) where
  abbrev rest : List ℕ
  rest = drop at input

  abbrev f : List ℕ
  f = first_field rest

  -- the next place, and what is answered and left
  abbrev next : ℕ
  next = at + length f

  abbrev last : Answer
  last = answer_of (answer at u f) (length f)

  abbrev v : Model.State
  v = after u f

  abbrev used : Bool
  used = worked || step_worked u f

  -- what is left has a first field
  left_is : fields_left u.count rest ≡ f ∷ fields_after rest
  left_is = first-left u.count rest (λ e. h.more (omega (arith, h.within, length-drop at input)))

  pub next-within : next ≤ length input
  next-within = omega (arith, h.within, length-drop at input, length-take (field_length rest) rest)

  -- what is left then, where the run isn't over
  left_after : v.over ≡ false → fields_left v.count (drop next input) ≡ fields_after rest
  unfolding fields_left
  left_after e =
      ap (λ n. fields_left n (drop next input)) (goes_on u f e)
      ∙ ap (λ (l : List ℕ). fields_within (length l) l) (sym (drop-drop (length f) at input))

  -- the whole, by the first field and the others
  states_so : run (fields_after rest) v ≡ run (fields input) begin
  unfolding run
  states_so = sym (ap (λ l. run l u) left_is) ∙ h.states

  lasts_so : last_answer next v (fields_after rest) last ≡ last_answer 0 begin (fields input) no_answer
  unfolding last_answer
  lasts_so =
      sym (ap (λ b. cond b no_answer (last_answer next v (fields_after rest) last)) h.on)
      ∙ sym (ap (λ l. last_answer at u l no_answer) left_is) ∙ h.lasts

  works_so : (used || any_worked v (fields_after rest)) ≡ any_worked begin (fields input)
  unfolding any_worked
  works_so =
      or_assoc worked (step_worked u f) (any_worked v (fields_after rest))
      ∙ sym (ap (λ l. worked || any_worked u l) left_is) ∙ h.works

  -- it goes on
  pub turns : (v.over || eqb next (length input)) ≡ false → Coursing input next (record_of v) used v
  turns e = let on = or_left v.over (eqb next (length input)) e in record {
    record_is = refl;
    sound = after_sound h.sound f;
    on = on;
    within = next-within;
    more = λ q. absurd (not_end q);
    states = ap (λ l. run l v) (left_after on) ∙ states_so;
    lasts = forgets on ∙ ap (λ l. last_answer next v l last) (left_after on) ∙ lasts_so;
    works = ap (λ l. used || any_worked v l) (left_after on) ∙ works_so;
  }
    where
      not_end : next ≡ length input → ⊥
      not_end = eqb-false next (length input) (or_right v.over (eqb next (length input)) e)

      forgets : v.over ≡ false → last_answer next v (fields_left v.count (drop next input)) no_answer
          ≡ last_answer next v (fields_left v.count (drop next input)) last
      forgets on =
          rw (first-left v.count (drop next input) (λ z. absurd (not_end (omega (arith, next-within, length-drop next input)))))
          (next-answer next v (first_field (drop next input)) (fields_after (drop next input)) no_answer last on)

  -- or ends: what is left changes nothing
  record Idle (l : List (List ℕ)) : Type 0 where
    state : run l v ≡ v
    last_is : last_answer next v l last ≡ last
    works : any_worked v l ≡ false

  pub ends : (v.over || eqb next (length input)) ≡ true → Ended input last (record_of v) used
  unfolding run last_answer any_worked
  ends e = let i = idle in record {
    state = ap record_of (sym i.state ∙ states_so);
    last_is = sym i.last_is ∙ lasts_so;
    works = sym (ap (used ||◌) i.works ∙ or-false used) ∙ works_so;
  }
    where
      go : (b : Bool) → v.over ≡ b → Idle (fields_after rest)
      go true o = record { state = over_stays (fields_after rest) v o; last_is = over_answer next (fields_after rest) v last o; works = over_idle (fields_after rest) v o }
      go false o =
          let at_end = eqb-true next (length input) (ap (◌|| eqb next (length input)) (sym o) ∙ e) in
          subst Idle (sym (none_left v.count input next (omega (arith, goes_on u f o)) at_end) ∙ left_after o)
          (record { state = refl; last_is = refl; works = refl })

      idle : Idle (fields_after rest)
      idle = go v.over refl

-- ---- the work slices
-- not used at all
pub unused : {A : Type 0} (d : A) (n : ℕ) (xs : List A) {b : Bool} → Used b d n xs xs
unused d n xs = record { untouched = λ e. refl; kept = record { place = λ x l. refl } }

-- used one time after the other
pub used-again : {A : Type 0} {d : A} {n : ℕ} {xs ys zs : List A} (a b : Bool) → Used a d n xs ys → Used b d n ys zs → Used (a || b) d n xs zs
used-again a b p q = record {
  untouched = λ e. q.untouched (or_right a b e) ∙ p.untouched (or_left a b e);
  kept = record { place = λ x l. q.kept.place x l ∙ p.kept.place x l };
}
