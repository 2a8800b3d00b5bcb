-- One field in the old run (specs/OldRun.antt) and in the new one: where it isn't refused with 14 both do the same, also with a smaller
-- count where it is accepted; an empty disturbance that is refused with 14 was accepted and left all but the count as it was.
use mathlib.Core.Path.{◌≡◌, refl, sym, ◌∙◌, ap, ap₂, subst}
use mathlib.Core.List.{List, [], ◌∷◌}
use mathlib.Core.Bool.{Bool, true, false, not, cond, ◌&&◌, true≢false}
use mathlib.Core.Option.{Option, none, some, none-ne-some, get_or}
use Prim.Native.Nat.{ℕ, zero, suc, ◌+◌, ◌*◌, ◌<◌, ◌≤◌}
use native.Mathlib.Omega.{arith}
use lib.Dec.{ltb, eqb}
use lib.ListN.{length, take, drop}
use borrow.Author.Tests.{ltb-false, le-ltb, eqb-true, eqb-false, eq-eqb, not-false}
use Rattle.whole.specs.Tab.{any, all, tab_cong, tab_get_d}
use Rattle.rational.specs.Sum as Sum
use Rattle.rational.specs.Sum.{All, more}
use Rattle.model.specs.Limits.{max_dimension, last_field}
use Rattle.model.specs.Set.{Zonotope, longer, plus_ℕ}
use Rattle.model.specs.Valid.{is_too_wide}
use Rattle.model.specs.Finish.{those}
use Rattle.model.specs.Operations.{disturb, box}
use Rattle.model.specs.Body.{dimension, given_radii}
use Rattle.model.specs.Field.{Kind, disturbance, describe}
use Rattle.model.specs.Field.{bad_dimension, differs, all_zero, inside, refused, skipped, Meaning, meaning}
use Rattle.model.specs.Run.{State, current, tag, body, kind_of, meant, Cause, ◌if◌, first_of, misplaced, cut, of_body, causes, refusal}
use Rattle.model.specs.Run.{with_folds, accepted_by, refused_at, after, outcome, run}
use Rattle.model.specs.Rewrite.{empty_disturbance}
use Rattle.model.specs.OldRun.{old_causes, old_refusal, old_after, old_outcome, old_run, AsNow, OldOtherwise, OnlyEmpty, counting}
use Rattle.model.specs.OldRun.{OldRunOtherwise, OnlyCounted, OldEmpty}
use Rattle.model.proofs.Tests.{or_false, and_true, no_cause, not_there, not-answered, passed-before}
use Rattle.model.proofs.LastLine.{no_cause as not-refused}
use Rattle.model.proofs.Accepted.{same, given-radii, first-starts}
use Rattle.model.proofs.ByKind.{starts, tag_of}
use Rattle.model.proofs.Kind.{laws}
use Rattle.model.proofs.Rewritten.{Emptied, emptied}
use Rattle.model.proofs.Sound.{Sound, begin_sound, after_sound}

-- ---- a disturbance whose radii are all zero leaves the set and the totals
zeros_added : (l r : List ℕ) → length r ≡ length l → all_zero r ≡ true → plus_ℕ l r ≡ l
unfolding longer all
zeros_added [] [] e z = refl
zeros_added [] (y ∷ r) e z = absurd (omega arith)
zeros_added (x ∷ l) [] e z = refl
zeros_added (x ∷ l) (y ∷ r) e z =
    let h = and_true (eqb y 0) (all_zero r) z in
    ap₂ ◌∷◌ (omega (arith, eqb-true y 0 h.0)) (zeros_added l r (omega arith) h.1)

disturbs_nothing : (r : List ℕ) (s : Zonotope) → length r ≡ length s.radii.given → all_zero r ≡ true → disturb r s ≡ s
unfolding disturb
disturbs_nothing r s e z = ap (λ (g : List ℕ). record {
  dimension = s.dimension;
  identifiers = s.identifiers;
  centre = s.centre;
  terms = s.terms;
  generators = s.generators;
  radii = record { carried = s.radii.carried; rounded = s.radii.rounded; folded = s.radii.folded; given = g };
}) (zeros_added s.radii.given r e z)

no_folds : (totals : List ℕ) → length totals ≡ max_dimension → with_folds totals [] ≡ totals
unfolding with_folds
no_folds totals e = tab_cong max_dimension _ _ (λ i l. omega arith) ∙ tab_get_d max_dimension totals 0 e

-- ---- which fields are empty disturbances
kind-of : (f : List ℕ) → Emptied f → kind_of (tag f) ≡ disturbance
unfolding kind_of
kind-of f d = ap kind_of d.tagged

-- a whole disturbance with its counts and length, whose radii are all zero, is an empty one
is_empty : (f : List ℕ) → cut f ≡ false → eqb (tag f) 3 ≡ true → bad_dimension (dimension (body f)) ≡ false
    → not (eqb (length (body f)) (1 + 4 * dimension (body f))) ≡ false → all_zero (given_radii (body f)) ≡ true → empty_disturbance f ≡ true
unfolding empty_disturbance
is_empty f w t c l z = rw (w, t, c, not-false (eqb (length (body f)) (1 + 4 * dimension (body f))) l, z)

-- ---- causes left out
-- the other numbers are answered as before where those with one number are left out
left_out : (n : ℕ) (cs : List Cause) → ¬ (first_of cs ≡ some n) → first_of (those (λ c. not (eqb c.number n)) cs) ≡ first_of cs
unfolding first_of those
left_out n [] h = refl
left_out n (c ∷ cs) h = go (eqb c.number n) c.holds refl refl h (left_out n cs)
  where
    kept : List Cause
    kept = those (λ c. not (eqb c.number n)) cs

    go : (b x : Bool) → eqb c.number n ≡ b → c.holds ≡ x → ¬ (cond x (some c.number) (first_of cs) ≡ some n)
        → (¬ (first_of cs ≡ some n) → first_of kept ≡ first_of cs)
        → first_of (cond (not b) (c ∷ kept) kept) ≡ cond x (some c.number) (first_of cs)
    go true true p q h ih = absurd (h (ap some (eqb-true c.number n p)))
    go true false p q h ih = ih h
    go false true p q h ih = rw q
    go false false p q h ih = rw q (ih h)

-- what holds of those that pass a test holds of each that passes it
those-all : {A : Type 0} {P : A → Type 0} {p : A → Bool} (l : List A) → All P (those p l) → All (λ a. p a ≡ true → P a) l
unfolding those
those-all [] h = Sum.none
those-all {P = P} {p = p} (a ∷ l) h = go (p a) refl h (those-all l)
  where
    go : (b : Bool) → p a ≡ b → All P (cond b (a ∷ those p l) (those p l)) → (All P (those p l) → All (λ a. p a ≡ true → P a) l)
        → All (λ a. p a ≡ true → P a) (a ∷ l)
    go true e (more h t) ih = more (λ _. h) (ih t)
    go false e t ih = more (λ q. absurd (true≢false (sym q ∙ e))) (ih t)

-- the first cause holds where its number is answered and no other that holds has it
first_holds : (c : Cause) (cs : List Cause) (n : ℕ) → any (λ c. eqb c.number n && c.holds) cs ≡ false → first_of (c ∷ cs) ≡ some n
    → c.holds ≡ true
unfolding first_of
first_holds c cs n others e = go c.holds refl e
  where
    go : (x : Bool) → c.holds ≡ x → cond x (some c.number) (first_of cs) ≡ some n → x ≡ true
    go true p e = refl
    go false p e = absurd (not-answered n cs others e)

-- where no cause holds none is the first
none_first : {cs : List Cause} → All (λ c. c.holds ≡ false) cs → first_of cs ≡ none
unfolding first_of
none_first Sum.none = refl
none_first (more h t) = rw h (none_first t)

-- a field is no less in place with a smaller count, where both are 0 or neither
placed : (c m : ℕ) → c ≤ m → (0 < m → 0 < c) → (f : List ℕ) → misplaced m f ≡ false → misplaced c f ≡ false
unfolding misplaced
placed c m l h [] e = e
placed zero zero l h (t ∷ f) e = e
placed zero (suc m) l h (t ∷ f) e = absurd (omega (arith, h (omega arith)))
placed (suc c) zero l h (t ∷ f) e = absurd (omega arith)
placed (suc c) (suc m) l h (t ∷ f) e = e

-- ---- a field that is refused with 14
-- the causes of a field, if it is of this kind
abbrev causes_as : Kind → State → List ℕ → List Cause
causes_as k st f =
    (12 if ltb last_field st.count) ∷ (2 if misplaced st.count f) ∷ (1 if cut f)
    ∷ of_body (meaning k (body f) st.next (current st)) (length (body f))

causes-as : {k : Kind} (st : State) (f : List ℕ) → kind_of (tag f) ≡ k → causes st f ≡ causes_as k st f
unfolding causes
causes-as st f e = ap (λ k. causes_as k st f) e

-- it has tag 3, since the causes of no other kind have that number
tag-three : (st : State) (f : List ℕ) → refusal st f ≡ some 14 → tag f ≡ 3
unfolding causes any
tag-three st f e = go (eqb (describe (kind_of (tag f))).tag 3) refl
  where
    go : (b : Bool) → eqb (describe (kind_of (tag f))).tag 3 ≡ b → tag f ≡ 3
    go true p =
        let t = eqb-true (describe (kind_of (tag f))).tag 3 p in
        sym (tag_of (tag f) (omega (arith, t))) ∙ t
    go false p = absurd (not-answered 14 (causes st f)
        (not_there 14 (causes st f) ((laws (kind_of (tag f))).only-three (body f) st.next (current st) (length (body f)) p)) e)

module _ (st : State) (f : List ℕ) (e : refusal st f ≡ some 14) where
  is_three : tag f ≡ 3
  is_three = tag-three st f e

  disturbs : kind_of (tag f) ≡ disturbance
  unfolding kind_of
  disturbs = ap kind_of is_three

  asked : All (λ c. c.holds ≡ false) (take 8 (causes_as disturbance st f)) × (first_of (drop 8 (causes_as disturbance st f)) ≡ some 14)
  unfolding meaning any
  asked = passed-before 14 (take 8 (causes_as disturbance st f)) (drop 8 (causes_as disturbance st f)) refl
      (ap first_of (sym (causes-as st f disturbs)) ∙ e)

  refused_empty : empty_disturbance f ≡ true
  unfolding meaning any
  refused_empty = go asked.0
    where
      zeros : all_zero (given_radii (body f)) ≡ true
      zeros = first_holds (14 if all_zero (given_radii (body f))) (drop 9 (causes_as disturbance st f)) 14 refl asked.1

      go : All (λ c. c.holds ≡ false) (take 8 (causes_as disturbance st f)) → empty_disturbance f ≡ true
      go (more late (more place (more end (more short (more counts (more bytes rest)))))) =
          is_empty f end (eq-eqb (tag f) 3 is_three) counts bytes zeros

-- Only an empty disturbance is refused with 14.
pub only_empty : OnlyEmpty
only_empty st f e = refused_empty st f e

-- Any other field, and one that is refused with another number, was refused, left and answered as now.
pub old_otherwise : OldOtherwise
unfolding old_causes old_after after old_outcome outcome
old_otherwise st f n =
    let e : old_refusal st f ≡ refusal st f = left_out 14 (causes st f) n in
    record {
      same-refusal = e;
      same_state = ap (λ o. cond st.over st (elim o [ none ↦ accepted_by st (meant st f) | some n ↦ refused_at st ])) e;
      same_outcome = λ place. ap
          (λ o. cond st.over skipped (elim o [ none ↦ (meant st f).outcome | some n ↦ refused n place ])) e;
    }

pub others_as_now : (st : State) (f : List ℕ) → empty_disturbance f ≡ false → AsNow st f
others_as_now st f n = old_otherwise st f (λ e. true≢false (sym (only_empty st f e) ∙ n))

-- So did a list of fields without an empty disturbance.
pub old_run_otherwise : OldRunOtherwise
unfolding old_run run any
old_run_otherwise [] st n = refl
old_run_otherwise (f ∷ fs) st n =
    let h = or_false (empty_disturbance f) (any empty_disturbance fs) n in
    ap (old_run fs) (others_as_now st f h.0).same_state ∙ old_run_otherwise fs (after st f) h.1

module _ (st : State) (f : List ℕ) where
  -- a field that the old run accepted, and that is no empty disturbance, is accepted
  pub accepts : (c : ℕ) → c ≤ st.count → (0 < st.count → 0 < c) → empty_disturbance f ≡ false → old_refusal st f ≡ none
      → refusal (counting c st) f ≡ none
  unfolding causes
  accepts c l h n e = go (no_cause (causes st f) (sym (others_as_now st f n).same-refusal ∙ e)) where
    go : All (λ c. c.holds ≡ false) (causes st f) → refusal (counting c st) f ≡ none
    go (more late (more place rest)) =
        let few : c ≤ last_field = omega (arith, ltb-false last_field st.count late) in
        none_first (more (le-ltb last_field c few) (more (placed c st.count l h f place) rest))

  -- a field after which the old run isn't over was accepted
  pub went : (old_after st f).over ≡ false → (st.over ≡ false) × (old_refusal st f ≡ none)
  unfolding old_after
  went e = go st.over (old_refusal st f) refl refl e where
    go : (b : Bool) (o : Option ℕ) → st.over ≡ b → old_refusal st f ≡ o
        → (cond b st (elim o [ none ↦ accepted_by st (meant st f) | some n ↦ refused_at st ])).over ≡ false
        → (st.over ≡ false) × (old_refusal st f ≡ none)
    go true o p q e = absurd (true≢false (sym p ∙ e))
    go false none p q e = (p, q)
    go false (some n) p q e = absurd (true≢false e)

  -- what it left and answered then
  pub old_left : st.over ≡ false → old_refusal st f ≡ none → old_after st f ≡ accepted_by st (meant st f)
  unfolding old_after
  old_left o e = not-refused st.over (old_refusal st f) _ _ _ o e

  pub old_answer : (place : ℕ) → st.over ≡ false → old_refusal st f ≡ none → old_outcome place st f ≡ (meant st f).outcome
  unfolding old_outcome
  old_answer place o e = not-refused st.over (old_refusal st f) _ _ _ o e

  -- what an accepted field leaves and answers
  pub left : st.over ≡ false → refusal st f ≡ none → after st f ≡ accepted_by st (meant st f)
  unfolding after
  left o e = not-refused st.over (refusal st f) _ _ _ o e

  pub answer : (place : ℕ) → st.over ≡ false → refusal st f ≡ none → outcome place st f ≡ (meant st f).outcome
  unfolding outcome
  answer place o e = not-refused st.over (refusal st f) _ _ _ o e

-- the tests of the old run that an empty disturbance passed
pub old_placed : (st : State) (f : List ℕ) → Emptied f → old_refusal st f ≡ none
    → (misplaced st.count f ≡ false) × (differs (dimension (body f)) (current st).dimension ≡ false)
unfolding old_causes meaning
old_placed st f d e = go (subst (All Asked) (causes-as st f (kind-of f d)) (those-all (causes st f) (no_cause (old_causes st f) e))) where
  Asked : Cause → Type 0
  Asked c = not (eqb c.number 14) ≡ true → c.holds ≡ false

  go : All Asked (causes_as disturbance st f)
      → (misplaced st.count f ≡ false) × (differs (dimension (body f)) (current st).dimension ≡ false)
  go (more late (more place (more end (more short (more counts (more bytes (more sizes rest))))))) = (place refl, sizes refl)

-- it came after the start set
pub after_start : (st : State) (f : List ℕ) → Emptied f → misplaced st.count f ≡ false → 0 < st.count
after_start st f d p = go st.count p where
  go : (n : ℕ) → misplaced n f ≡ false → 0 < n
  go zero p = absurd (true≢false (ap starts (sym (first-starts f p d.whole) ∙ kind-of f d)))
  go (suc n) p = omega arith

-- ---- what an empty disturbance leaves
module _ (c : ℕ) (st : State) (f : List ℕ) (h : Sound (counting c st)) (l : 0 < c) (d : Emptied f)
    (w : differs (dimension (body f)) (current st).dimension ≡ false) where
  by_kind : Kind → Meaning
  by_kind k = meaning k (body f) st.next (current st)

  -- its result is the set
  result_stays : (meant st f).result ≡ current st
  unfolding meaning by_kind
  result_stays =
      ap (λ k. (by_kind k).result) (kind-of f d) ∙ disturbs_nothing (given_radii (body f)) (current st) long d.zero-radii
    where
      long : length (given_radii (body f)) ≡ length (current st).radii.given
      long = given-radii (body f)
          ∙ same (dimension (body f)) (current st).dimension w
          ∙ sym (h.valid l).shaped.radii-long.given-long

  -- all but the count is as it was
  pub leaves_all : st.over ≡ false → counting c (accepted_by st (meant st f)) ≡ counting c st
  unfolding meaning by_kind
  leaves_all o = λ i. record { set = sets i; next = nexts i; count = c; over = sym o i; folded = totals i }
    where
      sets : some (meant st f).result ≡ st.set
      sets = ap some result_stays ∙ sym (h.there l)

      nexts : (meant st f).next ≡ st.next
      nexts = ap (λ k. (by_kind k).next) (kind-of f d)

      totals : with_folds st.folded (meant st f).folds ≡ st.folded
      totals = ap (λ k. with_folds st.folded (by_kind k).folds) (kind-of f d) ∙ no_folds st.folded h.six_totals

-- ---- where it is refused with 14, in a sound state
module _ {st : State} (h : Sound st) (f : List ℕ) (e : refusal st f ≡ some 14) where
  d : Emptied f
  d = emptied f (only_empty st f e)

  passed : (st.count ≤ last_field) × (0 < st.count) × (old_refusal st f ≡ none)
      × (differs (dimension (body f)) (current st).dimension ≡ false)
  unfolding old_causes those meaning
  passed = go (asked st f e).0
    where
      was : old_refusal st f ≡ first_of (those (λ c. not (eqb c.number 14)) (causes_as disturbance st f))
      was = ap (λ cs. first_of (those (λ c. not (eqb c.number 14)) cs)) (causes-as st f (kind-of f d))

      go : All (λ c. c.holds ≡ false) (take 8 (causes_as disturbance st f))
          → (st.count ≤ last_field) × (0 < st.count) × (old_refusal st f ≡ none)
          × (differs (dimension (body f)) (current st).dimension ≡ false)
      go (more late (more place (more end (more short (more counts (more bytes (more sizes (more range t)))))))) =
          let l = after_start st f d place in
          let narrow =
          ap is_too_wide (sym (ap (λ k. (meaning k (body f) st.next (current st)).result) (kind-of f d))
          ∙ result_stays st.count st f h l d sizes) ∙ (h.valid l).narrow in
          let all = was ∙ none_first (more late (more place (more end (more short (more counts (more bytes (more sizes (more range
          (more narrow t))))))))) in
          (ltb-false _ _ late, l, all, sizes)

  only-counted : st.over ≡ false → OnlyCounted st f
  unfolding meaning
  only-counted o =
      let was = passed.2 in
      let w = passed.3 in
      let as-was = leaves_all st.count st f h passed.1 d w o in
      record {
        unrefused = was;
        counted = old_left st f o was ∙ ap (counting (st.count + 1)) as-was;
        set-box = λ place. old_answer st f place o was
            ∙ ap (λ k. (meaning k (body f) st.next (current st)).outcome) (kind-of f d)
            ∙ ap (λ s. inside (box s)) (sym (ap (λ k. (meaning k (body f) st.next (current st)).result) (kind-of f d))
            ∙ result_stays st.count st f h passed.1 d w);
      }

  counted_sound : Sound (counting (st.count + 1) st)
  counted_sound =
      let n = passed.0 in
      let most = h.twelve-each in
      record {
        valid = λ _. h.valid passed.1;
        there = λ _. h.there passed.1;
        not_yet = λ e. absurd (omega arith);
        below = h.below;
        from_first = h.from_first;
        twelve-each = omega arith;
        count_in = omega arith;
        six_totals = h.six_totals;
        spans_most = λ i. omega (arith, h.spans_most i);
      }

-- ---- every state of an old run is sound
old_over_stays : (st : State) (f : List ℕ) → st.over ≡ true → old_after st f ≡ st
unfolding old_after
old_over_stays st f o = rw o

old_sound : {st : State} → Sound st → (f : List ℕ) → Sound (old_after st f)
old_sound {st} h f = go (refusal st f) refl
  where
    as_now : ¬ (refusal st f ≡ some 14) → Sound (old_after st f)
    as_now n = subst Sound (sym (old_otherwise st f n).same_state) (after_sound h f)

    empty : (b : Bool) → st.over ≡ b → refusal st f ≡ some 14 → Sound (old_after st f)
    empty true o e = subst Sound (sym (old_over_stays st f o)) h
    empty false o e = subst Sound (sym (only-counted h f e o).counted) (counted_sound h f e)

    by_number : (n : ℕ) (b : Bool) → eqb n 14 ≡ b → refusal st f ≡ some n → Sound (old_after st f)
    by_number n true p e = empty st.over refl (e ∙ ap some (eqb-true n 14 p))
    by_number n false p e = as_now (λ q. eqb-false n 14 p (ap (λ o. get_or o 0) (sym e ∙ q)))

    go : (o : Option ℕ) → refusal st f ≡ o → Sound (old_after st f)
    go none e = as_now (λ q. none-ne-some 14 (sym e ∙ q))
    go (some n) e = by_number n (eqb n 14) refl e

old_run_sound : (fs : List (List ℕ)) {st : State} → Sound st → Sound (old_run fs st)
unfolding old_run
old_run_sound [] h = h
old_run_sound (f ∷ fs) h = old_run_sound fs (old_sound h f)

-- A field of an old run that is refused with 14 now was accepted and left all but the count.
pub old_empty : OldEmpty
old_empty fs f o e = only-counted (old_run_sound fs begin_sound) f e o
