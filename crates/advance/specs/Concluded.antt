-- What a field answers and leaves, by what its kind does to the set.
use Rattle.std.proofs.Math.Path.{◌≡◌, refl, ap}
use Rattle.std.proofs.Common.{sym, ◌∙◌, subst, ltb-true, ltb-false, ne_eqb, arith}
use Rattle.std.proofs.Math.Decide.{dec_lt}
use Rattle.std.proofs.Math.ListN.{get_or-eq_default}
use Rattle.std.specs.Prelude.{List, Bool, not, ◌&&◌, ◌||◌, ℕ, zero, suc, ◌+◌, ◌<◌, ◌≤◌, ltb, eqb, length, ◌-◌, Result, Ok, Err, IfOk}
use Rattle.std.proofs.Math.Option.{Option, none, some}
use Rattle.std.proofs.Math.Bool.{true, false, cond}
use Rattle.std.proofs.lemmas.Bool.{not-false}
use Rattle.whole.specs.Tests.{or_left, or_right}
use Rattle.rational.proofs.Sum.{All-imp}
use Rattle.model.specs.Limits.{first_fresh, last_fresh}
use Rattle.model.specs.Set.{Zonotope}
use Rattle.model.specs.Operations.{Box, box}
use Rattle.model.specs.Field as Model
use Rattle.model.specs.Field.{inside, verdict, refused, skipped, meaning, describe}
use Rattle.model.specs.Run.{tag, body, kind_of, current, refusal, meant, accepted_by, refused_at, after, outcome, first_of}
use Rattle.model.specs.Run.{causes, of_body, with_folds}
use Rattle.model.proofs.Tests.{any_false, no_cause}
use Rattle.model.proofs.Shape as Shape
use Rattle.model.proofs.Held.{Held, held}
use Rattle.model.proofs.Accepted.{Passed, body-passed}
use Rattle.model.proofs.Answers.{Answers, with-box, with_verdict, with_nothing}
use Rattle.model.proofs.ByKind.{starts, leaves}
use Rattle.model.proofs.Kind.{laws}
use Rattle.zonotope.specs.declared.Cause.{Cause}
use Rattle.zonotope.specs.declared.Cause.TheVariants.{Ended}
use Rattle.zonotope.specs.Record.{view, pack}
use Rattle.zonotope.specs.Counts.{countable}
use Rattle.zonotope.specs.Answer.{number_of, causes as all_causes, cause_of, or_else, first_append}
use Rattle.zonotope.proofs.ViewPack.{view-pack}
use Rattle.answers.specs.Chain.{accepted_valid}
use Rattle.stepping.specs.Work.{worked}
use Rattle.fields.specs.declared.Kind.{Kind}
use Rattle.fields.specs.Kinds.{meant as means, known}
use Rattle.fields.specs.declared.Found.{Found}
use Rattle.fields.specs.declared.Found.TheVariants as found
use Rattle.fields.specs.declared.Effect.{Effect}
use Rattle.fields.specs.Refusal.{body_refusal}
use Rattle.fields.specs.Effect.{found_of, effect_by, effect}
use Rattle.states.specs.declared.State.{State}
use Rattle.states.specs.declared.Outcome.{Outcome}
use Rattle.states.specs.declared.Outcome.TheVariants as said
use Rattle.states.specs.State.{viewed, left}
use Rattle.states.specs.Answer.{parts, no_box, outcome_of, box_of, answer_of}
use Rattle.states.specs.Taken.{taken}
use Rattle.advance.specs.declared.Advanced.{Advanced}
use Rattle.advance.specs.Header.{of_header}
use Rattle.advance.specs.Running.{Running, current_is}
use Rattle.advance.specs.Advanced.{field_works, advanced, by_cause, kind_advanced}
use Rattle.advance.specs.Totals.{folded_from, grown, Leavable, result-rises, grown_is}

-- ---- definitions
-- what an accepted field leaves; the folded parts of its set are made anew or go on from those of the set before
abbrev pub left_by : State → Kind → Effect → State
left_by st k m = record {
  set = m.set;
  next = m.next;
  count = st.count + 1;
  over = false;
  folded = grown st.folded (folded_from (describe (means k)).anew st) m.set.radii.folded;
}

abbrev pub accepted_as : State → ℕ → Outcome → Box → Kind → Effect → Advanced
accepted_as st bytes o b k m =
    record { answer = parts st.count bytes o b; state = left_by st k m; worked = (describe (means k)).works }

-- a refused one ends the run
abbrev pub refused_so : State → ℕ → ℕ → Cause → Bool → Advanced
refused_so st place bytes c worked = record {
  answer = parts st.count bytes (said.Refused (record { cause = c; place = place })) no_box;
  state = record { set = st.set; next = st.next; count = st.count; over = true; folded = st.folded };
  worked = worked;
}

-- one given to a run that is over changes nothing
abbrev pub skipped_as : State → ℕ → Advanced
skipped_as st bytes = record { answer = parts st.count bytes said.Skipped no_box; state = st; worked = false }

-- by what it comes to
abbrev pub accepted_so : Found → State → ℕ → Kind → Effect → Advanced
accepted_so found.Inside st bytes k m = accepted_as st bytes said.Inside (box (view m.set)) k m
accepted_so found.Safe st bytes k m = accepted_as st bytes said.Safe no_box k m
accepted_so found.Unknown st bytes k m = accepted_as st bytes said.Unknown no_box k m

abbrev pub concluded : State → ℕ → ℕ → Kind → Result Effect Cause → Advanced
concluded st place bytes k (Ok m) = accepted_so m.found st bytes k m
concluded st place bytes k (Err c) = refused_so st place bytes c ((describe (means k)).works && eqb (number_of c) 10)

-- ---- whether it was worked out
-- only the tenth number is the tenth cause's
pub ten : (n : ℕ) → eqb (number_of (cause_of n)) 10 ≡ eqb n 10
ten n = go (dec_lt n 15)
  where
    first : (m : ℕ) → m < 15 → eqb (number_of (cause_of m)) 10 ≡ eqb m 10
    first zero h = refl
    first (suc zero) h = refl
    first (suc (suc zero)) h = refl
    first (suc (suc (suc zero))) h = refl
    first (suc (suc (suc (suc zero)))) h = refl
    first (suc (suc (suc (suc (suc zero))))) h = refl
    first (suc (suc (suc (suc (suc (suc zero)))))) h = refl
    first (suc (suc (suc (suc (suc (suc (suc zero))))))) h = refl
    first (suc (suc (suc (suc (suc (suc (suc (suc zero)))))))) h = refl
    first (suc (suc (suc (suc (suc (suc (suc (suc (suc zero))))))))) h = refl
    first (suc (suc (suc (suc (suc (suc (suc (suc (suc (suc zero)))))))))) h = refl
    first (suc (suc (suc (suc (suc (suc (suc (suc (suc (suc (suc zero))))))))))) h = refl
    first (suc (suc (suc (suc (suc (suc (suc (suc (suc (suc (suc (suc zero)))))))))))) h = refl
    first (suc (suc (suc (suc (suc (suc (suc (suc (suc (suc (suc (suc (suc zero))))))))))))) h = refl
    first (suc (suc (suc (suc (suc (suc (suc (suc (suc (suc (suc (suc (suc (suc zero)))))))))))))) h = refl
    first (suc (suc (suc (suc (suc (suc (suc (suc (suc (suc (suc (suc (suc (suc (suc m))))))))))))))) h = absurd (omega arith)

    go : Dec (n < 15) → eqb (number_of (cause_of n)) 10 ≡ eqb n 10
    go (yes h) = first n h
    go (no h) =
        let past : cause_of n ≡ Ended = get_or-eq_default all_causes Ended {n = n - 1} (omega (arith, h)) in
        ap (λ (c : Cause). eqb (number_of c) 10) past ∙ sym (ne_eqb n 10 (λ e. omega (arith, h, e)))

pub concluded-worked : (st : State) (place bytes : ℕ) (k : Kind) (o : Option ℕ) (m : Model.Meaning)
    → (concluded st place bytes k (effect_by o m)).worked ≡ ((describe (means k)).works && worked o)
concluded-worked st place bytes k none m = go (found_of m.outcome) ∙ always (describe (means k)).works
  where
    go : (f : Found) → (accepted_so f st bytes k (record { found = found_of m.outcome; set = pack m.result; next = m.next })).worked
        ≡ (describe (means k)).works
    go found.Inside = refl
    go found.Safe = refl
    go found.Unknown = refl

    always : (w : Bool) → w ≡ w && true
    always true = refl
    always false = refl
concluded-worked st place bytes k (some n) m = ap ((describe (means k)).works &&◌) (ten n)

-- what a body that nothing refuses passed
passed_by : (k : Model.Kind) (b : List ℕ) (next : ℕ) (s : Zonotope) → body_refusal k b next s ≡ none → Passed (meaning k b next s)
passed_by k b next s e =
    body-passed (meaning k b next s) (length b) (no_cause (of_body (meaning k b next s) (length b)) e)

-- ---- a state that a run can have
module _ (st : State) (run : Running st) where
  -- the next identifier is in its range
  from_first : first_fresh ≤ st.next
  from_first = ltb-false st.next first_fresh (or_left (ltb st.next first_fresh) (ltb last_fresh st.next) (or_left _ _ run.next))

  pub not_last : st.next ≤ last_fresh
  not_last = ltb-false last_fresh st.next (or_right (ltb st.next first_fresh) (ltb last_fresh st.next) (or_left _ _ run.next))

  -- its set is held
  pub now_held : 0 < st.count → Held st.next (current (viewed st))
  now_held h =
      let below = or_right (ltb st.next first_fresh || ltb last_fresh st.next) _ run.next in
      let valid = subst (Shape.Valid _) (sym (current_is st h)) (accepted_valid st.set (run.set h).passed) in
      held st.next valid
      (All-imp (λ k e. ltb-true k st.next (not-false _ e))
      (any_false (λ k. not (ltb k st.next)) (current (viewed st)).identifiers below))

  -- a field of this kind and body, which is a start set or finds a set
  module _ (j : Kind) (b : List ℕ) (there : starts (means j) ≡ false → 0 < st.count) where
    abbrev k : Model.Kind
    k = means j

    abbrev m : Model.Meaning
    m = meaning k b st.next (current (viewed st))

    abbrev cause : Option ℕ
    cause = body_refusal k b st.next (current (viewed st))

    -- what it leaves can be written as a record, and be left
    result_means : cause ≡ none → (view (pack m.result) ≡ m.result) × Leavable st (describe k).anew (pack m.result)
    unfolding pack
    result_means e =
        let h = (leaves k b st.next (current (viewed st)) from_first (λ q. now_held (there q))
        (passed_by k b st.next (current (viewed st)) e)).holds in
        let counts = Shape.counts-false h.counts in
        let leavable : Leavable st (describe k).anew (pack m.result) =
        record { limits = countable m.result counts; rising = result-rises st run k b there; few = run.totals } in
        (view-pack m.result h.shaped counts, leavable)

    -- the record of the state means the current set to it
    same_meaning : meaning k b st.next (view st.set) ≡ m
    same_meaning = go (starts k) refl
      where
        go : (s : Bool) → starts k ≡ s → meaning k b st.next (view st.set) ≡ m
        go true e = (laws k).alone e b st.next (view st.set) (current (viewed st))
        go false e = ap (meaning k b st.next) (sym (current_is st (there e)))

    effect_is : effect k b st.next st.set ≡ effect_by cause m
    unfolding effect
    effect_is = ap (λ (m : Model.Meaning). effect_by (first_of (of_body m (length b))) m) same_meaning

    -- its set can be left where it is accepted
    pub effect_leavable : {r : Result Effect Cause} → r ≡ effect k b st.next st.set → IfOk r (λ f. Leavable st (describe k).anew f.set)
    effect_leavable p =
        subst (λ (r : Result Effect Cause). IfOk r (λ f. Leavable st (describe k).anew f.set)) (sym (p ∙ effect_is)) (go cause refl)
      where
        go : (o : Option ℕ) → cause ≡ o → IfOk (effect_by o m) (λ f. Leavable st (describe k).anew f.set)
        go none q = (result_means q).1
        go (some n) q = tt

    -- and what is concluded from it is the definition's
    pub effect-advanced : (place bytes : ℕ) {r : Result Effect Cause} → r ≡ effect k b st.next st.set
        → concluded st place bytes j r ≡ kind_advanced place st k b bytes
    unfolding kind_advanced viewed left answer_of
    effect-advanced place bytes p =
        ap (concluded st place bytes j) (p ∙ effect_is) ∙ go cause refl ((laws k).answers b st.next (current (viewed st)))
      where
        its : Effect
        its = record { found = found_of m.outcome; set = pack m.result; next = m.next }

        -- what is answered and left for an outcome
        answers_with : Model.Outcome → Advanced
        answers_with o = record {
          answer = parts st.count bytes (outcome_of o) (box_of o);
          state = record {
            set = pack m.result;
            next = m.next;
            count = st.count + 1;
            over = false;
            folded = with_folds st.folded m.folds;
          };
          worked = (describe k).works && true;
        }

        always : (w : Bool) → w ≡ w && true
        always true = refl
        always false = refl

        same : (o : Outcome) {x y : Box} → x ≡ y → accepted_as st bytes o x j its ≡ record {
          answer = parts st.count bytes o y;
          state = (answers_with skipped).state;
          worked = (describe k).works && true;
        }
        same o e = λ i. record {
          answer = parts st.count bytes o (e i);
          state = record {
            set = pack m.result;
            next = m.next;
            count = st.count + 1;
            over = false;
            folded = grown_is st run k b there i;
          };
          worked = always (describe k).works i;
        }

        by_outcome : (o : Model.Outcome) → m.outcome ≡ o → accepted_so (found_of o) st bytes j its ≡ answers_with o
            → concluded st place bytes j (effect_by none m) ≡ by_cause place st k b bytes none
        by_outcome o e q = ap (λ o. accepted_so (found_of o) st bytes j its) e ∙ q ∙ ap answers_with (sym e)

        judged : (v : Bool) → accepted_so (found_of (verdict v)) st bytes j its ≡ answers_with (verdict v)
        judged true = same said.Safe {x = no_box} {y = no_box} refl
        judged false = same said.Unknown {x = no_box} {y = no_box} refl

        go : (o : Option ℕ) → cause ≡ o → Answers k m → concluded st place bytes j (effect_by o m) ≡ by_cause place st k b bytes o
        go none q (with-box e) = by_outcome (inside (box m.result)) e (same said.Inside (ap box (result_means q).0))
        go none q (with_verdict v e) = by_outcome (verdict v) e (judged v)
        go none q (with_nothing u e) = absurd (known j u)
        go (some n) q a = ap (λ w. refused_so st place bytes (cause_of n) ((describe k).works && w)) (ten n)

    -- the work slices are used where the definition says so
    pub effect-worked : (place bytes : ℕ) {r : Result Effect Cause} → r ≡ effect k b st.next st.set
        → (concluded st place bytes j r).worked ≡ field_works k b st
    unfolding effect
    effect-worked place bytes p =
        ap (λ (r : Result Effect Cause). (concluded st place bytes j r).worked) p
        ∙ concluded-worked st place bytes j (body_refusal k b st.next (view st.set)) (meaning k b st.next (view st.set))

-- ---- a field whose header passed, in a run that isn't over
module _ (st : State) (f : List ℕ) (on : st.over ≡ false) (header : first_of (of_header st.count f) ≡ none) where
  -- it is refused by its body or not at all
  refusal_is : refusal (viewed st) f ≡ body_refusal (kind_of (tag f)) (body f) st.next (current (viewed st))
  unfolding viewed causes
  refusal_is =
      first_append (of_header st.count f) (of_body (meant (viewed st) f) (length (body f)))
      ∙ ap (λ o. or_else o (first_of (of_body (meant (viewed st) f) (length (body f))))) header

  pub advanced_is : (place : ℕ) → advanced place st f ≡ kind_advanced place st (kind_of (tag f)) (body f) (length f)
  unfolding advanced kind_advanced taken after outcome viewed
  advanced_is place = go st.over on (refusal (viewed st) f) refusal_is
    where
      go : (over : Bool) → over ≡ false → (o : Option ℕ) → o ≡ body_refusal (kind_of (tag f)) (body f) st.next (current (viewed st))
          → ◌≡◌ {A = Advanced} (record {
            answer = answer_of (record {
              field = st.count;
              outcome = cond over skipped (elim o [ none ↦ (meant (viewed st) f).outcome | some n ↦ refused n place ]);
            }) (length f);
            state = left st (cond over (viewed st) (elim o [
              | none ↦ accepted_by (viewed st) (meant (viewed st) f)
              | some n ↦ refused_at (viewed st)
            ]));
            worked = cond over false ((describe (kind_of (tag f))).works && worked o);
          }) (by_cause place st (kind_of (tag f)) (body f) (length f)
          (body_refusal (kind_of (tag f)) (body f) st.next (current (viewed st))))
      go over e o q = rw (e, q)
