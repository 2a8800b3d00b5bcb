-- How an output ends: with the line of the first refusal, or, exactly where no field is refused, with an `end` line.
use mathlib.Core.Path.{◌≡◌, refl, sym, ap, ap₂, ◌∙◌}
use mathlib.Core.Bool.{Bool, true, false, true≢false, cond, ◌&&◌}
use mathlib.Core.List.{List, [], ◌∷◌, ◌++◌, append_assoc, append-nil}
use mathlib.Core.Option.{Option, none, some}
use Prim.Native.Nat.{ℕ, suc, ◌+◌, ◌-◌}
use native.Mathlib.Omega.{arith}
use lib.ListN.{length}
use Rattle.model.specs.Run.{State, begin, tag, refusal, accepted, after, outcome, Answer, answer, run, answers, fields}
use Rattle.model.specs.Text.{line_of, refusal_line, end_line, folded_line, outcome_line, closing, lines_from, printed}

-- ---- what a field of a run that isn't over gives, by its refusal
pub no_cause : {A : Type 0} (b : Bool) (o : Option ℕ) (x y : A) (z : ℕ → A) → b ≡ false → o ≡ none
    → cond b x (elim o [ none ↦ y | some n ↦ z n ]) ≡ y
no_cause b o x y z e r = rw (e, r)

a-cause : {A : Type 0} (b : Bool) (o : Option ℕ) (x y : A) (z : ℕ → A) (n : ℕ) → b ≡ false → o ≡ some n
    → cond b x (elim o [ none ↦ y | some n ↦ z n ]) ≡ z n
a-cause b o x y z n e r = rw (e, r)

-- ---- after a refusal
-- a field of a run that is over prints nothing and changes nothing
over_line : (place : ℕ) (st : State) (f : List ℕ) → st.over ≡ true → line_of (tag f) (answer place st f) ≡ []
unfolding outcome outcome_line
over_line place st f e = rw e

over_stays : (st : State) (f : List ℕ) → st.over ≡ true → after st f ≡ st
unfolding after
over_stays st f e = rw e

-- A run that is over prints nothing more.
pub over_prints_nothing : (place : ℕ) (st : State) (fs : List (List ℕ)) → st.over ≡ true → lines_from place st fs ≡ []
unfolding lines_from closing
over_prints_nothing place st [] e = rw e
over_prints_nothing place st (f ∷ fs) e =
    ap₂ ◌++◌ (over_line place st f e)
    (ap (λ s. lines_from (place + length f) s fs) (over_stays st f e) ∙ over_prints_nothing (place + length f) st fs e)

-- ---- a refused field
refused-line : (place : ℕ) (st : State) (f : List ℕ) (n : ℕ) → st.over ≡ false → refusal st f ≡ some n
    → line_of (tag f) (answer place st f) ≡ refusal_line st.count n place
unfolding outcome outcome_line
refused-line place st f n e r = ap (outcome_line st.count (tag f)) (a-cause st.over (refusal st f) _ _ _ n e r)

refused_over : (st : State) (f : List ℕ) (n : ℕ) → st.over ≡ false → refusal st f ≡ some n → (after st f).over ≡ true
unfolding after
refused_over st f n e r = ap (λ (s : State). s.over) (a-cause st.over (refusal st f) _ _ _ n e r)

-- A refused field's line is the last one, whatever fields follow.
pub refusal_is_last : (place : ℕ) (st : State) (f : List ℕ) (fs : List (List ℕ)) (n : ℕ) → st.over ≡ false → refusal st f ≡ some n
    → lines_from place st (f ∷ fs) ≡ refusal_line st.count n place
unfolding lines_from
refusal_is_last place st f fs n e r =
    ap₂ ◌++◌ (refused-line place st f n e r) (over_prints_nothing (place + length f) (after st f) fs (refused_over st f n e r))
    ∙ append-nil _

-- a field that isn't accepted leaves a run that is over
not-accepted : (st : State) (f : List ℕ) → accepted st f ≡ false → (after st f).over ≡ true
unfolding accepted
not-accepted st f e = go st.over (refusal st f) refl refl e
  where
    go : (b : Bool) (o : Option ℕ) → st.over ≡ b → refusal st f ≡ o → cond b false (elim o [ none ↦ true | some n ↦ false ]) ≡ false
        → (after st f).over ≡ true
    go true o p q e = ap (λ (s : State). s.over) (over_stays st f p) ∙ p
    go false none p q e = absurd (true≢false e)
    go false (some n) p q e = refused_over st f n p q

-- Fields after one that isn't accepted add nothing to the output.
pub nothing_follows : (place : ℕ) (st : State) (fs : List (List ℕ)) (f : List ℕ) (gs : List (List ℕ)) → accepted (run fs st) f ≡ false
    → lines_from place st (fs ++ (f ∷ gs)) ≡ lines_from place st (fs ++ (f ∷ []))
unfolding lines_from run
nothing_follows place st [] f gs e =
    let o = not-accepted st f e in
    let silent = over_prints_nothing (place + length f) (after st f) in
    ap (line_of (tag f) (answer place st f) ++◌) (silent gs o ∙ sym (silent [] o))
nothing_follows place st (g ∷ fs) f gs e =
    ap (line_of (tag g) (answer place st g) ++◌) (nothing_follows (place + length g) (after st g) fs f gs e)

-- ---- the `end` line
-- whether each field is accepted
unfoldable pub unrefused : State → List (List ℕ) → Bool
unrefused st [] = true
unrefused st (f ∷ fs) = accepted st f && unrefused (after st f) fs

-- the lines of the answers to fields
unfoldable pub lines_of : List (List ℕ) → List Answer → List ℕ
lines_of [] given = []
lines_of (f ∷ fs) [] = []
lines_of (f ∷ fs) (a ∷ given) = line_of (tag f) a ++ lines_of fs given

by_answers : (place : ℕ) (st : State) (fs : List (List ℕ)) → lines_from place st fs ≡ lines_of fs (answers place st fs) ++ closing (run fs st)
unfolding lines_from lines_of answers run
by_answers place st [] = refl
by_answers place st (f ∷ fs) =
    ap (line_of (tag f) (answer place st f) ++◌) (by_answers (place + length f) (after st f) fs)
    ∙ sym (append_assoc (line_of (tag f) (answer place st f)) (lines_of fs (answers (place + length f) (after st f) fs)) _)

over_run : (st : State) (fs : List (List ℕ)) → st.over ≡ true → run fs st ≡ st
unfolding run
over_run st [] e = refl
over_run st (f ∷ fs) e = ap (run fs) (over_stays st f e) ∙ over_run st fs e

accepted_state : (st : State) (f : List ℕ) → st.over ≡ false → refusal st f ≡ none
    → (accepted st f ≡ true) × ((after st f).over ≡ false) × ((after st f).count ≡ st.count + 1)
unfolding accepted after
accepted_state st f e r =
    let left = no_cause st.over (refusal st f) _ _ _ e r in
    (no_cause st.over (refusal st f) _ _ _ e r, ap (λ (s : State). s.over) left, ap (λ (s : State). s.count) left)

refused-accepted : (st : State) (f : List ℕ) (n : ℕ) → st.over ≡ false → refusal st f ≡ some n → accepted st f ≡ false
unfolding accepted
refused-accepted st f n e r = a-cause st.over (refusal st f) _ _ _ n e r

closing_is : (st : State) (fs : List (List ℕ)) → st.over ≡ false
    → closing (run fs st) ≡ cond (unrefused st fs) (folded_line (run fs st).folded ++ end_line (st.count + length fs - 1)) []
unfolding run unrefused closing
closing_is st [] e =
    ap (λ b. cond b [] (folded_line st.folded ++ end_line (st.count - 1))) e ∙ ap (λ n. folded_line st.folded ++ end_line n)
    (omega arith)
closing_is st (f ∷ fs) e = go (refusal st f) refl (closing_is (after st f) fs)
  where
    go : (o : Option ℕ) → refusal st f ≡ o
        → ((after st f).over ≡ false
        → closing (run fs (after st f))
        ≡ cond (unrefused (after st f) fs) (folded_line (run fs (after st f)).folded ++ end_line ((after st f).count + length fs - 1)) [])
        → closing (run fs (after st f))
        ≡ cond (accepted st f && unrefused (after st f) fs)
        (folded_line (run fs (after st f)).folded ++ end_line (st.count + suc (length fs) - 1)) []
    go none r later =
        let a = accepted_state st f e r in
        later a.1
        ∙ ap₂ (λ b k. cond b (folded_line (run fs (after st f)).folded ++ end_line k) []) (sym (ap (◌&& unrefused (after st f) fs) a.0))
        (ap (λ n. n + length fs - 1) a.2 ∙ omega arith)
    go (some n) r later =
        let o = refused_over st f n e r in
        ap closing (over_run (after st f) fs o)
        ∙ ap (λ b. cond b [] (folded_line (after st f).folded ++ end_line ((after st f).count - 1))) o
        ∙ sym (ap (λ b. cond (b && unrefused (after st f) fs) (folded_line (run fs (after st f)).folded
        ++ end_line (st.count + suc (length fs) - 1)) []) (refused-accepted st f n e r))

-- An output consists of the lines of the answers, and of a `folded` and an `end` line exactly where each field is accepted: the totals of
-- the run's folds, and the number of the last field.
pub end_exactly : (input : List ℕ)
    → printed input
    ≡ lines_of (fields input) (answers 0 begin (fields input))
    ++ cond (unrefused begin (fields input)) (folded_line (run (fields input) begin).folded ++ end_line (length (fields input) - 1)) []
unfolding printed
end_exactly input =
    by_answers 0 begin (fields input) ∙ ap (lines_of (fields input) (answers 0 begin (fields input)) ++◌)
    (closing_is begin (fields input) refl ∙ ap (λ n. cond (unrefused begin (fields input)) (folded_line (run (fields input) begin).folded
    ++ end_line n) [])
    (omega arith))
