-- The promise is kept: what is printed for an input is true of every motion that the input allows. The statement is `Promised`
-- (specs/Promised.antt).
use mathlib.Core.Path.{◌≡◌, refl, sym, ap, ap₂, ◌∙◌, subst}
use mathlib.Core.Bool.{Bool, true, false, true≢false, cond}
use mathlib.Core.List.{List, [], ◌∷◌, ◌++◌, append-nil}
use mathlib.Core.Option.{some}
use Prim.Native.Nat.{ℕ, zero, suc, ◌+◌, ◌-◌, ◌*◌, ◌<◌}
use native.Mathlib.Nat.{zero-add, add-zero}
use native.Mathlib.Omega.{arith}
use lib.Dec.{T}
use lib.ListN.{length, get_or, take, drop}
use lib.IntN.{ℤ}
use Rattle.whole.specs.Tab.{length-tab}
use Rattle.rational.specs.Rational.{ι, ◌≤ℚ◌}
use Rattle.model.specs.Set.{Zonotope, at}
use Rattle.model.specs.Operations.{box}
use Rattle.model.specs.Body.{dimension, given_halfspaces}
use Rattle.model.specs.Field.{Kind, check, meaning}
use Rattle.model.specs.Run.{State, begin, current, tag, body, kind_of, meant, refusal, accepted, after, run, fields}
use Rattle.model.specs.Motion.{Picks, Moment, beginning, follow, Unsafe, Kept, Always}
use Rattle.model.specs.Text as Text
use Rattle.model.specs.Text.{lines_from, printed}
use Rattle.model.proofs.LastLine.{refusal_is_last}
use Rattle.model.proofs.Accepted.{holds_at, Passed, same}
use Rattle.model.proofs.Kind.{laws}
use Rattle.model.proofs.Enclosed as Over
use Rattle.model.specs.Reading.{Line, lines}
use Rattle.model.specs.Promised.{accepted_from, place_of, coordinates_after, coordinates_from, moment_from, saying, LineOf, TrueOf}
use Rattle.model.specs.Promised.{Keeps, Promised, Begun}
use Rattle.model.proofs.TextParts.{reads_nothing, line_stays}
use Rattle.model.proofs.Spoken.{in_turn, reads_refusal, reads_folded, reads_end}
use Rattle.model.proofs.LineAnswered as Answered
use Rattle.model.proofs.LineAnswered.{said, some_refusal, passed, accepted-outcome, accepted-after, answered, next-coordinates}
use Rattle.model.proofs.LineAnswered.{reads_accepted}

-- ---- the ends in turn
turn_length : (lows highs : List ℤ) → length lows ≡ length highs → length (in_turn lows highs) ≡ 2 * length lows
unfolding in_turn
turn_length [] highs e = refl
turn_length (l ∷ lows) [] e = absurd (omega arith)
turn_length (l ∷ lows) (h ∷ highs) e = omega (arith, turn_length lows highs (omega arith))

turn_at : (lows highs : List ℤ) → length lows ≡ length highs → (i : ℕ) → i < length lows
    → (at (in_turn lows highs) (2 * i) ≡ at lows i) × (at (in_turn lows highs) (2 * i + 1) ≡ at highs i)
unfolding in_turn
turn_at [] highs e i h = absurd (omega arith)
turn_at (l ∷ lows) [] e i h = absurd (omega arith)
turn_at (l ∷ lows) (h ∷ highs) e zero q = (refl, refl)
turn_at (l ∷ lows) (h ∷ highs) e (suc i) q =
    let r = turn_at lows highs (omega arith) i (omega arith) in
    let ends = l ∷ h ∷ in_turn lows highs in
    let a : 2 * suc i ≡ suc (suc (2 * i)) = omega arith in
    let b : 2 * suc i + 1 ≡ suc (suc (2 * i + 1)) = omega arith in
    (ap (at ends) a ∙ r.0, ap (at ends) b ∙ r.1)

-- ---- one accepted field
-- a check's body has the coordinates of the set
check_coordinates : (k : Kind) (b : List ℕ) (next : ℕ) (s : Zonotope) → k ≡ check → Passed (meaning k b next s)
    → dimension b ≡ coordinates_after k b s.dimension
unfolding coordinates_after meaning holds_at
check_coordinates k b next s e =
    subst (λ k. Passed (meaning k b next s) → dimension b ≡ coordinates_after k b s.dimension) (sym e) (λ p. same _ _ (p.not_at 5))

module _ (st : State) (f : List ℕ) (e : accepted st f ≡ true) where
  abbrev n : ℕ
  n = coordinates_after (kind_of (tag f)) (body f) (current st).dimension

  abbrev lows : List ℤ
  lows = (box (meant st f).result).lows

  abbrev highs : List ℤ
  highs = (box (meant st f).result).highs

  -- the box that is answered has two ends for each coordinate
  pub lows-long : length lows ≡ n
  unfolding box
  lows-long = length-tab _ _ ∙ (laws (kind_of (tag f))).leaves_coordinates (body f) st.next (current st)

  pub highs-long : length highs ≡ n
  unfolding box
  highs-long = length-tab _ _ ∙ (laws (kind_of (tag f))).leaves_coordinates (body f) st.next (current st)

  abbrev its : Line
  its = said st.count (tag f) (meant st f).outcome

  -- its line is its line
  line_of : LineOf st.count f n its
  unfolding saying said
  line_of = go (answered st f e)
    where
      go : Answered.Answered (kind_of (tag f)) (meant st f) → LineOf st.count f n its
      go (Answered.with-box k q) =
          rw q (refl, refl, turn_length lows highs (lows-long ∙ sym highs-long) ∙ ap (2 *◌) lows-long, k)
      go (Answered.with_verdict v k q) = rw q (refl, refl, k)

  -- what it says is true of a motion that is kept
  line-true : {now : Moment} → now.state ≡ after st f → Kept st f now → TrueOf f n now.position its
  unfolding saying said
  line-true {now} same k = go (answered st f e)
    where
      go : Answered.Answered (kind_of (tag f)) (meant st f) → TrueOf f n now.position its
      go (Answered.with-box c q) =
          let b = k.in_box 0 (box (meant st f).result) (accepted-outcome st f e 0 ∙ q) in
          let d : (current now.state).dimension ≡ n = ap (λ (u : State). (current u).dimension) same ∙ next-coordinates st f e in
          rw q (λ i l.
          let t = turn_at lows highs (lows-long ∙ sym highs-long) i (omega (arith, lows-long)) in (
            subst (λ z. ι z ≤ℚ now.position i) (sym t.0) (b.above i (omega arith)),
            subst (λ z. now.position i ≤ℚ ι z) (sym t.1) (b.below i (omega arith)),
          ))
      go (Answered.with_verdict true c q) =
          rw q (λ _. subst (λ m. ¬ (Unsafe (given_halfspaces (body f)) m now.position))
          (check_coordinates (kind_of (tag f)) (body f) st.next (current st) c (passed st f e).passed)
          (k.not_unsafe 0 (accepted-outcome st f e 0 ∙ q)))
      go (Answered.with_verdict false c q) = rw q (λ e. absurd (true≢false (sym e)))

-- ---- the lines of the accepted fields, from some state on
-- a field that has a line is accepted
pub first-accepted : (st : State) (f : List ℕ) (fs : List (List ℕ)) (m : ℕ) → m < accepted_from st (f ∷ fs) → accepted st f ≡ true
unfolding accepted_from
first-accepted st f fs m = go (accepted st f)
  where
    go : (b : Bool) → m < cond b (suc (accepted_from (after st f) fs)) 0 → b ≡ true
    go true h = refl
    go false h = absurd (omega arith)

pub more-accepted : (st : State) (f : List ℕ) (fs : List (List ℕ)) → accepted st f ≡ true
    → accepted_from st (f ∷ fs) ≡ suc (accepted_from (after st f) fs)
unfolding accepted_from
more-accepted st f fs e = ap (λ b. cond b (suc (accepted_from (after st f) fs)) 0) e

none_accepted : (st : State) (f : List ℕ) (fs : List (List ℕ)) → accepted st f ≡ false → accepted_from st (f ∷ fs) ≡ 0
unfolding accepted_from
none_accepted st f fs e = ap (λ b. cond b (suc (accepted_from (after st f) fs)) 0) e

abbrev line_from : ℕ → State → List (List ℕ) → ℕ → Line
line_from place st fs m = get_or (lines (lines_from place st fs)) m Line.strange

in_order_from : (place : ℕ) (st : State) (fs : List (List ℕ)) (m : ℕ) → m < accepted_from st fs
    → LineOf (st.count + m) (get_or fs m []) (coordinates_from (current st).dimension fs m) (line_from place st fs m)
unfolding coordinates_from accepted_from
in_order_from place st [] m h = absurd (omega arith)
in_order_from place st (f ∷ fs) zero h =
    let e = first-accepted st f fs 0 h in
    rw (reads_accepted st f e place fs, add-zero st.count) (line_of st f e)
in_order_from place st (f ∷ fs) (suc m) h =
    let e = first-accepted st f fs (suc m) h in
    let c : (after st f).count + m ≡ st.count + suc m = ap (λ (u : State). u.count + m) (accepted-after st f e) ∙ omega arith in
    let r = in_order_from (place + length f) (after st f) fs m (omega (arith, more-accepted st f fs e)) in
    rw (reads_accepted st f e place fs, ← c, ← next-coordinates st f e) r

true-from : (p : Picks) (k place : ℕ) (now : Moment) (fs : List (List ℕ)) → Always p k now fs → (m : ℕ) → m < accepted_from now.state fs
    → TrueOf (get_or fs m []) (coordinates_from (current now.state).dimension fs m) (moment_from p k now fs m).position
    (line_from place now.state fs m)
unfolding Always coordinates_from moment_from follow accepted_from
true-from p k place now [] a m h = absurd (omega arith)
true-from p k place now (f ∷ fs) a zero h =
    let e = first-accepted now.state f fs 0 h in
    rw (reads_accepted now.state f e place fs) (line-true now.state f e {now = follow p k now f} refl (a.0 (subst T (sym e) tt)))
true-from p k place now (f ∷ fs) a (suc m) h =
    let e = first-accepted now.state f fs (suc m) h in
    let r = true-from p (suc k) (place + length f) (follow p k now f) fs a.1 m (omega (arith, more-accepted now.state f fs e)) in
    rw (reads_accepted now.state f e place fs, ← next-coordinates now.state f e) r

-- ---- the closing lines, from some state on
record ClosingFrom (place : ℕ) (st : State) (fs : List (List ℕ)) (k : ℕ) (rest : List Line) : Type 0 where
  accepted : k ≡ length fs → rest ≡ Line.folded (run fs st).folded ∷ Line.end (st.count + k - 1) ∷ []
  refused : k < length fs →
      (n : ℕ) × (refusal (run (take k fs) st) (get_or fs k []) ≡ some n)
      × (rest ≡ Line.refusal (st.count + k) n (place + place_of fs k) ∷ [])

-- where no field is left
reads_closing : (place : ℕ) (st : State) → st.over ≡ false
    → lines (lines_from place st []) ≡ Line.folded st.folded ∷ Line.end (st.count - 1) ∷ []
unfolding lines_from Text.closing
reads_closing place st e =
    rw e (reads_folded (Text.end_line (st.count - 1)) st.folded
    ∙ ap (Line.folded st.folded ∷◌) (ap lines (sym (append-nil (Text.end_line (st.count - 1)))) ∙ reads_end [] (st.count - 1)
    ∙ ap (Line.end (st.count - 1) ∷◌) reads_nothing))

-- where a field is refused
reads_refused : (place : ℕ) (st : State) (f : List ℕ) (fs : List (List ℕ)) (n : ℕ) → st.over ≡ false → refusal st f ≡ some n
    → lines (lines_from place st (f ∷ fs)) ≡ Line.refusal st.count n place ∷ []
reads_refused place st f fs n o r =
    ap lines (refusal_is_last place st f fs n o r ∙ sym (append-nil _)) ∙ reads_refusal [] st.count n place
    ∙ ap (Line.refusal st.count n place ∷◌) reads_nothing

closing-from : (place : ℕ) (st : State) (fs : List (List ℕ)) → st.over ≡ false
    → ClosingFrom place st fs (accepted_from st fs) (drop (accepted_from st fs) (lines (lines_from place st fs)))
unfolding accepted_from run place_of
closing-from place st [] o = record {
  accepted = λ e. reads_closing place st o ∙ ap (λ c. Line.folded st.folded ∷ Line.end (c - 1) ∷ []) (sym (add-zero st.count));
  refused = λ l. absurd (omega arith);
}
closing-from place st (f ∷ fs) o = go (accepted st f) refl (closing-from (place + length f) (after st f) fs)
  where
    go : (b : Bool) → accepted st f ≡ b
        → ((after st f).over ≡ false
        → ClosingFrom (place + length f) (after st f) fs (accepted_from (after st f) fs)
        (drop (accepted_from (after st f) fs) (lines (lines_from (place + length f) (after st f) fs))))
        → ClosingFrom place st (f ∷ fs) (accepted_from st (f ∷ fs)) (drop (accepted_from st (f ∷ fs)) (lines (lines_from place st (f ∷ fs))))
    go true e later =
        let q = accepted-after st f e in
        let h = later (ap (λ (u : State). u.over) q) in
        let c = ap (λ (u : State). u.count) q in
        rw (more-accepted st f fs e, reads_accepted st f e place fs) (record {
          accepted = λ l. h.accepted (omega arith) ∙ ap (λ n. Line.folded (run fs (after st f)).folded ∷ Line.end n ∷ []) (omega arith);
          refused = λ l.
              let r = h.refused (omega arith) in
              (r.0, r.1, r.2 ∙ ap₂ (λ m at. Line.refusal m r.0 at ∷ []) (omega arith) (omega arith));
        })
    go false e later =
        let r = some_refusal st f o e in
        rw (none_accepted st f fs e) (record {
          accepted = λ l. absurd (omega arith);
          refused = λ l. (
            r.0,
            r.1,
            reads_refused place st f fs r.0 o r.1
                ∙ ap₂ (λ m at. Line.refusal m r.0 at ∷ []) (sym (add-zero st.count)) (sym (add-zero place)),
          );
        })

-- What is printed for an input keeps the promise.
pub promise : (input : List ℕ) → Promised input (printed input)
unfolding printed
promise input =
    let fs = fields input in
    let c = closing-from 0 begin fs refl in
    record {
      in_order = λ m h. record {
        its_own = rw zero-add at (in_order_from 0 begin fs m h);
        true_of_motions = λ p a. true-from p 0 0 (beginning p) fs (Over.enclosed fs p a) m h;
      };
      closing = record {
        accepted = λ e. rw zero-add at (c.accepted e);
        refused = λ l. simp zero-add at (c.refused l);
      };
    }

-- So does every way in which it begins.
pub begun : (input output later : List ℕ) → printed input ≡ output ++ later → Begun input output
begun input output later e = record {
  later = later;
  whole = subst (Promised input) e (promise input);
  in_order = λ m l h.
      subst (Keeps input m) (ap (λ t. get_or (lines t) m Line.strange) e ∙ line_stays output later m l) ((promise input).in_order m h);
}
