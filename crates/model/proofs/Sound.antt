-- The invariant of a run: the current set is valid, its identifiers are below the next fresh one, and that one and the totals of what
-- folding added stay within their limits.
use mathlib.Core.Path.{◌≡◌, refl, sym, ◌∙◌, ap, subst}
use mathlib.Core.List.{List, [], ◌∷◌}
use mathlib.Core.Bool.{Bool, true, false, cond, true≢false}
use mathlib.Core.Option
use mathlib.Core.Option.{Option, none, some, none-ne-some}
use Prim.Native.Nat.{ℕ, zero, suc, ◌+◌, ◌-◌, ◌*◌, ◌<◌, ◌≤◌}
use native.Mathlib.Decide.{dec_lt}
use native.Mathlib.Omega.{arith}
use borrow.Author.Tests.{ltb-false}
use lib.Dec.{ltb}
use lib.ListN.{length, get_or, get_or-eq_default}
use Rattle.whole.specs.Tab.{length-tab, get_d_tab}
use Rattle.rational.specs.Sum as Sum
use Rattle.rational.specs.Sum.{All}
use Rattle.rational.proofs.Sum.{All-imp}
use Rattle.model.specs.Limits.{max_dimension, max_factors, max_span, max_total, record_identifiers, first_fresh, last_fresh, last_field}
use Rattle.model.specs.Set.{Zonotope, span}
use Rattle.model.specs.Valid.{is_too_wide}
use Rattle.model.specs.Field.{start, meaning}
use Rattle.model.specs.Run.{State, begin, no_set, current, tag, body, kind_of, meant, refusal, misplaced, after, run}
use Rattle.model.specs.Run.{with_folds, accepted_by, refused_at}
use Rattle.model.proofs.Radii.{blank-at, radius_past, folded_in}
use Rattle.model.proofs.Folds.{folds_join}
use Rattle.model.proofs.Tests.{any_false, tab-all}
use Rattle.model.proofs.Shape.{Valid}
use Rattle.model.proofs.Held.{Held, held, held_valid}
use Rattle.model.proofs.Accepted.{AcceptedField, no_refusal, first-starts}
use Rattle.model.proofs.ByKind.{starts, Leaves, leaves}

pub record Sound (st : State) : Type 0 where
  -- the current set is valid as a record; there is none before the first accepted field
  pub valid : 0 < st.count → Valid record_identifiers (current st)
  pub there : 0 < st.count → st.set ≡ some (current st)
  pub not_yet : st.count ≡ 0 → st.set ≡ none
  -- the next fresh identifier is above every identifier of the current set
  pub below : All (◌< st.next) (current st).identifiers
  -- each accepted field takes at most twelve fresh identifiers, and no more than 4,097 are accepted
  pub from_first : first_fresh ≤ st.next
  pub twelve-each : st.next ≤ first_fresh + max_factors * st.count
  pub count_in : st.count ≤ last_field + 1
  -- a total for each of the most coordinates: the first accepted field folds nothing, each later one adds at most the largest span
  pub six_totals : length st.folded ≡ max_dimension
  pub spans_most : (i : ℕ) → get_or st.folded i 0 ≤ max_span * (st.count - 1)

-- A run begins soundly.
pub begin_sound : Sound begin
begin_sound = record {
  valid = λ l. absurd (omega arith);
  there = λ l. absurd (omega arith);
  not_yet = λ e. refl;
  below = Sum.none;
  from_first = omega arith;
  twelve-each = omega arith;
  count_in = omega arith;
  six_totals = length-tab max_dimension (λ i. 0);
  spans_most = λ i. omega (arith, blank-at max_dimension i);
}

-- ---- what folding adds in one field
-- a total grows by it
with_folds-six : (totals r : List ℕ) → length (with_folds totals r) ≡ max_dimension
unfolding with_folds
with_folds-six totals r = length-tab max_dimension _

pub with_folds-at : (totals r : List ℕ) (i : ℕ) → i < max_dimension → get_or (with_folds totals r) i 0 ≡ get_or totals i 0 + get_or r i 0
unfolding with_folds
with_folds-at totals r i l = get_d_tab max_dimension _ 0 i l

with_folds-most : (totals r : List ℕ) (i : ℕ) → get_or (with_folds totals r) i 0 ≤ get_or totals i 0 + get_or r i 0
with_folds-most totals r i = go (dec_lt i max_dimension)
  where
    go : Dec (i < max_dimension) → get_or (with_folds totals r) i 0 ≤ get_or totals i 0 + get_or r i 0
    go (yes l) = omega (arith, with_folds-at totals r i l)
    go (no l) =
        let past = get_or-eq_default (with_folds totals r) 0 {n = i} (omega (arith, with_folds-six totals r)) in omega arith

-- no more than the span of the result
folds-narrow : {next : ℕ} {s : Zonotope} (r : List ℕ) → Held next s → (i : ℕ) → get_or r i 0 ≤ get_or s.radii.folded i 0
    → get_or r i 0 ≤ max_span
unfolding span is_too_wide
folds-narrow {s = s} r h i e = go (dec_lt i s.dimension)
  where
    go : Dec (i < s.dimension) → get_or r i 0 ≤ max_span
    go (yes l) = omega (
      arith,
      e,
      folded_in s.radii i,
      ltb-false max_span (span s i) (tab-all s.dimension (λ i. i) (any_false (λ i. ltb max_span (span s i)) _ h.narrow) i l),
    )
    go (no l) = omega (arith, e, folded_in s.radii i, radius_past h.shaped.radii-long i (omega arith))

start_folds_nothing : (b : List ℕ) (next : ℕ) (s : Zonotope) → (meaning start b next s).folds ≡ []
unfolding meaning
start_folds_nothing b next s = refl

module _ {st : State} (h : Sound st) where
  pub holds : 0 < st.count → Held st.next (current st)
  holds l = held st.next (h.valid l) h.below

  -- the next fresh identifier stays within its limits
  pub next_in : st.next ≤ last_fresh
  next_in = let a = h.twelve-each in let b = h.count_in in omega arith

  -- a set that is there is the current one
  pub set_valid : (s : Zonotope) → st.set ≡ some s → Valid record_identifiers s × All (◌< st.next) s.identifiers
  set_valid s e = go st.count refl where
    same : current st ≡ s
    same = ap (λ o. Option.get_or o no_set) e

    go : (n : ℕ) → st.count ≡ n → Valid record_identifiers s × All (◌< st.next) s.identifiers
    go zero q = absurd (none-ne-some s (sym (h.not_yet q) ∙ e))
    go (suc n) q = let v = subst (Valid record_identifiers) same (h.valid (omega arith)) in
        (v, subst (λ u. All (◌< st.next) u.identifiers) same h.below)

  -- a field that is no start set is accepted only where there is a set, and that is held
  pub current-held : (f : List ℕ) → AcceptedField st f → starts (kind_of (tag f)) ≡ false → Held st.next (current st)
  current-held f a e = go st.count refl where
    go : (n : ℕ) → st.count ≡ n → Held st.next (current st)
    go zero q = absurd (true≢false (sym (ap starts (first-starts f (subst (λ n. misplaced n f ≡ false) q a.placed) a.whole)) ∙ e))
    go (suc n) q = holds (omega arith)

  -- what an accepted field leaves
  pub accepted_leaves : (f : List ℕ) → AcceptedField st f → Leaves st.next (meant st f)
  accepted_leaves f a = leaves (kind_of (tag f)) (body f) st.next (current st) h.from_first (current-held f a) a.passed

  -- a field adds at most the largest span to a total, the first one nothing
  folds_few : (f : List ℕ) → AcceptedField st f → (i : ℕ) → get_or (meant st f).folds i 0 + max_span * (st.count - 1) ≤ max_span * st.count
  folds_few f a i = go st.count refl
    where
      joined : get_or (meant st f).folds i 0 ≤ get_or (meant st f).result.radii.folded i 0
      joined = omega (arith, folds_join (kind_of (tag f)) (body f) st.next (current st) i)

      go : (n : ℕ) → st.count ≡ n → get_or (meant st f).folds i 0 + max_span * (n - 1) ≤ max_span * n
      go zero q =
          let k = first-starts f (subst (λ n. misplaced n f ≡ false) q a.placed) a.whole in
          let e : (meant st f).folds ≡ [] = ap (λ k. (meaning k (body f) st.next (current st)).folds) k
          ∙ start_folds_nothing (body f) st.next (current st) in
          omega (arith, ap (λ r. get_or r i 0) e)
      go (suc n) q = omega (arith, folds-narrow (meant st f).folds (accepted_leaves f a).holds i joined)

  accepted_sound : (f : List ℕ) → AcceptedField st f
      → Sound (accepted_by st (meant st f))
  accepted_sound f a =
      let l = accepted_leaves f a in
      let low = h.from_first in
      let high = h.twelve-each in
      let n = a.numbered in
      let more = l.no_less in
      let most = l.at_most in
      record {
        valid = λ _. held_valid l.holds (omega arith);
        there = λ _. refl;
        not_yet = λ e. absurd (omega arith);
        below = All-imp (λ k i. i.1) l.holds.identifiers_in;
        from_first = omega arith;
        twelve-each = omega arith;
        count_in = omega arith;
        six_totals = with_folds-six st.folded (meant st f).folds;
        spans_most = λ i. omega (arith, with_folds-most st.folded (meant st f).folds i, h.spans_most i, folds_few f a i);
      }

  -- a refused field leaves what there was
  refused_sound : Sound (refused_at st)
  refused_sound = record {
    valid = h.valid;
    there = h.there;
    not_yet = h.not_yet;
    below = h.below;
    from_first = h.from_first;
    twelve-each = h.twelve-each;
    count_in = h.count_in;
    six_totals = h.six_totals;
    spans_most = h.spans_most;
  }

-- Every field keeps a state sound, accepted or refused.
pub after_sound : {st : State} → Sound st → (f : List ℕ) → Sound (after st f)
unfolding after
after_sound {st} h f = go st.over (refusal st f) refl refl where
  go : (b : Bool) (o : Option ℕ) → st.over ≡ b → refusal st f ≡ o → Sound (cond b st (elim o [
    | none ↦ accepted_by st (meant st f)
    | some
        n ↦ refused_at st
  ]))
  go true o p q = h
  go false none p q = accepted_sound h f (no_refusal st f p q)
  go false (some n) p q = refused_sound h

-- So does every list of fields.
pub run_sound : (fs : List (List ℕ)) {st : State} → Sound st → Sound (run fs st)
unfolding run
run_sound [] h = h
run_sound (f ∷ fs) h = run_sound fs (after_sound h f)

-- ---- over a whole run
-- In every run, the current set, where there is one, is valid and has identifiers below the next fresh one.
pub run_valid : (fs : List (List ℕ)) (s : Zonotope) → (run fs begin).set ≡ some s
    → Valid record_identifiers s × All (◌< (run fs begin).next) s.identifiers
run_valid fs s e = set_valid (run_sound fs begin_sound) s e

-- In every run the totals of what folding added fit.
pub run_totals : (fs : List (List ℕ)) (i : ℕ) → get_or (run fs begin).folded i 0 ≤ max_total
run_totals fs i = let h = run_sound fs begin_sound in omega (arith, h.spans_most i, h.count_in)

-- In every run, the next fresh identifier stays from 65,536 up to the last that leaves room for twelve more.
pub run-next : (fs : List (List ℕ)) → (first_fresh ≤ (run fs begin).next) × ((run fs begin).next ≤ last_fresh)
run-next fs = let h = run_sound fs begin_sound in (h.from_first, next_in h)
