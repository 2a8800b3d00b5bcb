-- What is answered in a run has ends for at most six coordinates, so that its line is that of the definitions.
use Rattle.std.specs.Prelude.{◌≡◌, List, Bool, cond, ℕ, ◌≤◌, length}
use Rattle.std.proofs.Math.Path.{refl}
use Rattle.std.proofs.Common.{sym, subst, ◌∙◌, arith}
use Rattle.std.proofs.Math.Bool.{true, false}
use Rattle.std.proofs.Math.Option.{Option, none, some}
use Rattle.whole.specs.Tab.{length-tab}
use Rattle.model.specs.Set.{Zonotope}
use Rattle.model.specs.Operations.{box, low, high}
use Rattle.model.specs.Field.{Kind, inside, refused, skipped, meaning}
use Rattle.model.specs.Run as Model
use Rattle.model.specs.Run.{tag, body, kind_of, current, meant, refusal, outcome, answer}
use Rattle.model.specs.Text.{line_of}
use Rattle.model.proofs.Accepted.{no_refusal}
use Rattle.model.proofs.Answers.{Answers, with-box, with_verdict, with_nothing, answers}
use Rattle.model.proofs.Sound.{Sound, accepted_leaves}
use Rattle.states.specs.Answer.{answer_of}
use Rattle.printing.specs.Line.{answer_line, Brief, record_line}
use Rattle.printing.proofs.Numbers.{refusal_numbered}

box_brief : (s : Zonotope) → s.dimension ≤ 6 → Brief (inside (box s))
unfolding box
box_brief s h =
    let lows = length-tab s.dimension (low s) in
    record { few = omega arith; same = length-tab s.dimension (high s) ∙ sym lows; numbered = tt }

meaning_brief : (k : Kind) (b : List ℕ) (next : ℕ) (s : Zonotope) → (meaning k b next s).result.dimension ≤ 6
    → Brief (meaning k b next s).outcome
meaning_brief k b next s h = go (answers k b next s)
  where
    go : Answers k (meaning k b next s) → Brief (meaning k b next s).outcome
    go (with-box e) = subst Brief (sym e) (box_brief _ h)
    go (with_verdict v e) = subst Brief (sym e) (record { few = omega arith; same = refl; numbered = tt })
    go (with_nothing u e) = subst Brief (sym e) (record { few = omega arith; same = refl; numbered = tt })

module _ {u : Model.State} (s : Sound u) (f : List ℕ) where
  -- the result of a field that has no cause of refusal
  result_few : u.over ≡ false → refusal u f ≡ none → (meant u f).result.dimension ≤ 6
  result_few e r = (accepted_leaves s f (no_refusal u f e r)).holds.counts.dimension_few

  pub brief : (place : ℕ) → Brief (outcome place u f)
  unfolding outcome
  brief place = go u.over (refusal u f) refl refl
    where
      go : (b : Bool) (o : Option ℕ) → u.over ≡ b → refusal u f ≡ o
          → Brief (cond b skipped (elim o [ none ↦ (meant u f).outcome | some n ↦ refused n place ]))
      go true o p q = record { few = omega arith; same = refl; numbered = tt }
      go false none p q = meaning_brief (kind_of (tag f)) (body f) u.next (current u) (result_few p q)
      go false (some n) p q = record { few = omega arith; same = refl; numbered = refusal_numbered u f n q }

  -- The line of an answer that a sound state gives is that of the definitions.
  pub sound_line : (place : ℕ) → answer_line (tag f) (answer_of (answer place u f) (length f)) ≡ line_of (tag f) (answer place u f)
  sound_line place = record_line (tag f) (answer place u f) (length f) (brief place)

  -- It has room in six places.
  pub sound_sides : (place : ℕ) → (answer_of (answer place u f) (length f)).sides ≤ 6
  unfolding answer_of
  sound_sides place = (brief place).few
