-- The six places of an answer's ends, and what is answered by what a field comes to.
use Rattle.std.specs.Prelude.{◌≡◌, List, Bool, false, cond, ℕ, ◌+◌, ◌<◌, ltb, length, ℤ, pos}
use Rattle.std.proofs.Math.Path.{sym}
use Rattle.std.proofs.Common.{◌∙◌, ap, arith, lt-ltb, le-ltb}
use Rattle.std.proofs.Math.Decide.{dec_lt}
use Rattle.whole.specs.Tab.{tab, length-tab, get_d_tab, get_d_tab_past, tab_cong}
use Rattle.model.specs.Set.{at}
use Rattle.model.specs.Operations.{low, high, box}
use Rattle.verdicts.specs.Six.{six}
use Rattle.zonotope.specs.declared.PolyZonotope.{PolyZonotope}
use Rattle.zonotope.specs.Record.{view}
use Rattle.model.specs.Field.{describe}
use Rattle.fields.specs.declared.Kind.{Kind}
use Rattle.fields.specs.Kinds.{meant}
use Rattle.fields.specs.declared.Found.{Found}
use Rattle.fields.specs.declared.Effect.{Effect}
use Rattle.states.specs.declared.State.{State}
use Rattle.states.specs.declared.Answer.{Answer}
use Rattle.states.specs.declared.Outcome.TheVariants.{Inside}
use Rattle.states.specs.Answer.{parts}
use Rattle.advance.specs.declared.Advanced.{Advanced}
use Rattle.advance.specs.Totals.{folded_from, grown}
use Rattle.advance.specs.Concluded.{left_by, accepted_so}

-- the first n are a table's, the others 0
six_table : (n : ℕ) (f : ℕ → ℤ) → six n f ≡ tab 6 (at (tab n f))
six_table n f = tab_cong 6 _ _ (λ i l. go i (dec_lt i n))
  where
    go : (i : ℕ) → Dec (i < n) → cond (ltb i n) (f i) (pos 0) ≡ at (tab n f) i
    go i (yes h) = rw (lt-ltb i n h) (sym (get_d_tab n f (pos 0) i h))
    go i (no h) = rw (le-ltb i n (omega arith)) (sym (get_d_tab_past n f (pos 0) i (omega arith)))

-- a set's box
module _ (s : PolyZonotope) where
  box_sides : s.dimension ≡ length (box (view s)).lows
  unfolding box view
  box_sides = sym (length-tab s.dimension _)

  box-lows : six s.dimension (low (view s)) ≡ tab 6 (at (box (view s)).lows)
  unfolding box view
  box-lows = six_table s.dimension (low (view s))

  box-highs : six s.dimension (high (view s)) ≡ tab 6 (at (box (view s)).highs)
  unfolding box view
  box-highs = six_table s.dimension (high (view s))

-- an answer with these ends
pub box-answer : (field bytes : ℕ) (s : PolyZonotope) {l h : List ℤ} → l ≡ six s.dimension (low (view s))
    → h ≡ six s.dimension (high (view s)) → ◌≡◌ {A = Answer} (record {
      field = field;
      bytes = bytes;
      outcome = Inside;
      sides = s.dimension;
      low = l;
      high = h;
    }) (parts field bytes Inside (box (view s)))
box-answer field bytes s e f = λ i. record {
  field = field;
  bytes = bytes;
  outcome = Inside;
  sides = box_sides s i;
  low = (e ∙ box-lows s) i;
  high = (f ∙ box-highs s) i;
}

-- the same answer and state
pub advanced_by : {a b : Answer} {x y : State} {w v : Bool} → a ≡ b → x ≡ y → w ≡ v
    → ◌≡◌ {A = Advanced} (record { answer = a; state = x; worked = w }) (record { answer = b; state = y; worked = v })
advanced_by e f g = λ i. record { answer = e i; state = f i; worked = g i }

-- a state with these totals
pub left_is : (st : State) (k : Kind) (m : Effect) {t : List ℕ}
    → t ≡ grown st.folded (folded_from (describe (meant k)).anew st) m.set.radii.folded
    → ◌≡◌ {A = State} (record { set = m.set; next = m.next; count = st.count + 1; over = false; folded = t }) (left_by st k m)
left_is st k m e = ap (λ (t : List ℕ). record { set = m.set; next = m.next; count = st.count + 1; over = false; folded = t }) e

-- by what an accepted field comes to
pub accepted_as_found : (st : State) (bytes : ℕ) (k : Kind) (m : Effect) {f : Found} → m.found ≡ f
    → accepted_so f st bytes k m ≡ accepted_so m.found st bytes k m
accepted_as_found st bytes k m e = ap (λ (f : Found). accepted_so f st bytes k m) (sym e)
