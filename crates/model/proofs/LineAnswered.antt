-- An accepted field: how many coordinates it leaves, and how its line is read.
use mathlib.Core.Path.{◌≡◌, refl, sym, ap, ◌∙◌, subst}
use mathlib.Core.Bool.{Bool, true, false, cond, true≢false}
use mathlib.Core.List.{List, ◌∷◌, ◌++◌}
use mathlib.Core.Option.{Option, none, some}
use Prim.Native.Nat.{ℕ, ◌+◌}
use lib.Dec.{T}
use lib.ListN.{length}
use Rattle.model.specs.Set.{Zonotope}
use Rattle.model.specs.Operations.{box}
use Rattle.model.specs.Field.{Kind, check, unknown}
use Rattle.model.specs.Field.{Outcome, inside, verdict, refused, skipped, Meaning, meaning}
use Rattle.model.specs.Run.{State, current, tag, body, kind_of, meant, refusal, accepted, after, outcome, accepted_by}
use Rattle.model.specs.Text as Text
use Rattle.model.specs.Text.{lines_from}
use Rattle.model.proofs.LastLine.{no_cause}
use Rattle.model.proofs.Accepted.{AcceptedField, accepted-passed}
use Rattle.model.proofs.ByKind.{known}
use Rattle.model.proofs.Laws as Laws
use Rattle.model.proofs.Laws.{Answers, judges}
use Rattle.model.proofs.Kind.{laws}
use Rattle.model.specs.Reading.{Line, lines}
use Rattle.model.specs.Promised.{coordinates_after}
use Rattle.model.proofs.Spoken.{in_turn, reads_box, reads_verdict}

-- ---- by the laws of its kind
-- a verdict for a check, else a box
pub data Answered (k : Kind) (m : Meaning) : Type 0 where
  with-box : ¬ (k ≡ check) → m.outcome ≡ inside (box m.result) → Answered k m
  with_verdict : (v : Bool) → k ≡ check → m.outcome ≡ verdict v → Answered k m

-- a check answers with a verdict
check_judges : (k : Kind) (b : List ℕ) (next : ℕ) (s : Zonotope) → k ≡ check → judges (meaning k b next s).outcome ≡ true
unfolding meaning
check_judges k b next s e = ap (λ k. judges (meaning k b next s).outcome) e

answered_by : (k : Kind) (b : List ℕ) (next : ℕ) (s : Zonotope) → ¬ (k ≡ unknown) → Answered k (meaning k b next s)
answered_by k b next s u = go ((laws k).answers b next s)
  where
    go : Answers k (meaning k b next s) → Answered k (meaning k b next s)
    go (Laws.with-box q) = with-box (λ e. true≢false (sym (check_judges k b next s e) ∙ ap judges q)) q
    go (Laws.with_verdict v q) = with_verdict v ((laws k).judged b next s (ap judges q)) q
    go (Laws.with_nothing n q) = absurd (u n)

-- ---- an accepted field
-- the line of an outcome, as it is read
unfoldable pub said : ℕ → ℕ → Outcome → Line
said field tag (inside b) = Line.box field tag (in_turn b.lows b.highs)
said field tag (verdict safe) = Line.verdict field tag safe
said field tag (refused number place) = Line.refusal field number place
said field tag skipped = Line.strange

reads_said : (rest : List ℕ) (field tag : ℕ) (k : Kind) (m : Meaning) → Answered k m
    → lines (Text.outcome_line field tag m.outcome ++ rest) ≡ said field tag m.outcome ∷ lines rest
unfolding Text.outcome_line said
reads_said rest field tag k m (with-box n e) = rw e (reads_box rest field tag (box m.result).lows (box m.result).highs)
reads_said rest field tag k m (with_verdict v c e) = rw e (reads_verdict rest field tag v)

module _ (st : State) (f : List ℕ) where
  no_refusal : accepted st f ≡ true → (st.over ≡ false) × (refusal st f ≡ none)
  unfolding accepted
  no_refusal e = go st.over (refusal st f) refl refl e
    where
      go : (b : Bool) (o : Option ℕ) → st.over ≡ b → refusal st f ≡ o → cond b false (elim o [ none ↦ true | some n ↦ false ]) ≡ true
          → (st.over ≡ false) × (refusal st f ≡ none)
      go true o p q e = absurd (true≢false (sym e))
      go false none p q e = (p, q)
      go false (some n) p q e = absurd (true≢false (sym e))

  pub some_refusal : st.over ≡ false → accepted st f ≡ false → (n : ℕ) × (refusal st f ≡ some n)
  unfolding accepted
  some_refusal o e = go st.over (refusal st f) o refl e
    where
      go : (b : Bool) (r : Option ℕ) → b ≡ false → refusal st f ≡ r → cond b false (elim r [ none ↦ true | some n ↦ false ]) ≡ false
          → (n : ℕ) × (refusal st f ≡ some n)
      go true r p q e = absurd (true≢false p)
      go false none p q e = absurd (true≢false e)
      go false (some n) p q e = (n, q)

  module _ (e : accepted st f ≡ true) where
    pub passed : AcceptedField st f
    passed = accepted-passed st f (subst T (sym e) tt)

    pub accepted-outcome : (place : ℕ) → outcome place st f ≡ (meant st f).outcome
    unfolding outcome
    accepted-outcome place = let h = no_refusal e in no_cause st.over (refusal st f) _ _ _ h.0 h.1

    pub accepted-after : after st f ≡ accepted_by st (meant st f)
    unfolding after
    accepted-after = let h = no_refusal e in no_cause st.over (refusal st f) _ _ _ h.0 h.1

    pub answered : Answered (kind_of (tag f)) (meant st f)
    answered =
        let a = passed in
        answered_by (kind_of (tag f)) (body f) st.next (current st) (known st.count f a.placed a.whole)

    pub next-coordinates : (current (after st f)).dimension ≡ coordinates_after (kind_of (tag f)) (body f) (current st).dimension
    next-coordinates =
        ap (λ u. (current u).dimension) accepted-after ∙ (laws (kind_of (tag f))).leaves_coordinates (body f) st.next (current st)

    -- Its line is read first, and then the others.
    pub reads_accepted : (place : ℕ) (fs : List (List ℕ)) → lines (lines_from place st (f ∷ fs))
        ≡ said st.count (tag f) (meant st f).outcome ∷ lines (lines_from (place + length f) (after st f) fs)
    unfolding lines_from
    reads_accepted place fs =
        ap (λ o. lines (Text.outcome_line st.count (tag f) o ++ rest)) (accepted-outcome place)
        ∙ reads_said rest st.count (tag f) (kind_of (tag f)) (meant st f) answered
      where
        rest : List ℕ
        rest = lines_from (place + length f) (after st f) fs
