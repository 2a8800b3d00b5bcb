-- The totals of what folding added, after an accepted field.
use Rattle.std.specs.Prelude.{◌≡◌, refl, List, [], Bool, true, false, cond, ℕ, ◌+◌, ◌-◌, ◌<◌, ◌≤◌, length}
use Rattle.std.proofs.Common.{sym, ◌∙◌, ap, subst}
use native.Mathlib.Omega.{arith}
use Rattle.std.proofs.Math.ListN.{get_or}
use Rattle.whole.specs.Tab.{tab, get_d_tab, tab_cong, tab_get_d}
use Rattle.model.specs.Limits.{max_total}
use Rattle.model.specs.Set.{Zonotope, blank}
use Rattle.model.specs.Field.{Kind, meaning, describe}
use Rattle.model.specs.Run.{current, with_folds}
use Rattle.model.proofs.Radii.{blank-at}
use Rattle.model.proofs.Folds.{folded_before, folds_join}
use Rattle.model.proofs.ByKind.{starts}
use Rattle.model.proofs.Kind.{laws}
use Rattle.zonotope.specs.declared.PolyZonotope.{PolyZonotope}
use Rattle.zonotope.specs.Record.{view, pack}
use Rattle.zonotope.specs.Counts.{InLimits}
use Rattle.answers.specs.Accepted.{AcceptedRecord, own_record}
use Rattle.states.specs.declared.State.{State}
use Rattle.states.specs.State.{viewed}
use Rattle.advance.specs.Running.{Running, current_is}

-- the folded parts from which a field's folds are counted: none where they are made anew, else those of the set before
abbrev pub folded_from : Bool → State → List ℕ
folded_from anew st = cond anew (blank 6) st.set.radii.folded

-- the totals, where folded parts grew from these to those
abbrev pub grown : List ℕ → List ℕ → List ℕ → List ℕ
grown totals from to = tab 6 (λ i. get_or totals i 0 + (get_or to i 0 - get_or from i 0))

abbrev pub Rising : List ℕ → List ℕ → Type 0
Rising from to = (i : ℕ) → i < 6 → get_or from i 0 ≤ get_or to i 0

abbrev pub Few : List ℕ → Type 0
Few totals = (i : ℕ) → get_or totals i 0 ≤ max_total

-- a set that an accepted field can leave
pub record Leavable (st : State) (anew : Bool) (s : PolyZonotope) : Type 0 where
  pub limits : InLimits s
  pub rising : Rising (folded_from anew st) s.radii.folded
  pub few : Few st.folded

-- whether the parts were made anew is known
module _ (st : State) {anew known : Bool} (e : anew ≡ known) (s : PolyZonotope) where
  pub rising_from : Leavable st anew s → Rising (folded_from known st) s.radii.folded × Few st.folded
  rising_from l = (subst (λ b. Rising (folded_from b st) s.radii.folded) e l.rising, l.few)

  pub grown-from : grown st.folded (folded_from known st) s.radii.folded ≡ grown st.folded (folded_from anew st) s.radii.folded
  grown-from = ap (λ b. grown st.folded (folded_from b st) s.radii.folded) (sym e)

-- ---- they are the definition's
-- an accepted record has the folded parts of its set
record_folded : (s : PolyZonotope) → AcceptedRecord s → (i : ℕ) → i < 6
    → get_or s.radii.folded i 0 ≡ get_or (view s).radii.folded i 0
unfolding pack
record_folded s a i l =
    ap (λ (x : PolyZonotope). get_or x.radii.folded i 0) (sym (own_record s a))
    ∙ get_d_tab 6 (λ i. get_or (view s).radii.folded i 0) 0 i l

module _ (st : State) (run : Running st) where
  from-blank : (i : ℕ) → i < 6 → get_or (folded_from true st) i 0 ≡ 0
  from-blank i l = blank-at 6 i

  from-set : 0 < st.count → (i : ℕ) → i < 6 → get_or (folded_from false st) i 0 ≡ get_or (current (viewed st)).radii.folded i 0
  from-set h i l =
      record_folded st.set (run.set h) i l
      ∙ ap (λ (u : Zonotope). get_or u.radii.folded i 0) (sym (current_is st h))

  -- folding starts from the same parts
  from_is : (k : Kind) → (starts k ≡ false → 0 < st.count) → (i : ℕ) → i < 6
      → get_or (folded_from (describe k).anew st) i 0 ≡ get_or (folded_before k (current (viewed st))) i 0
  from_is k there i l = go (describe k).anew refl
    where
      go : (a : Bool) → (describe k).anew ≡ a
          → get_or (folded_from a st) i 0 ≡ get_or (cond a [] (current (viewed st)).radii.folded) i 0
      go true e = from-blank i l
      go false e = from-set (there ((laws k).goes_on e)) i l

  module _ (k : Kind) (b : List ℕ) (there : starts k ≡ false → 0 < st.count) where
    abbrev result : PolyZonotope
    result = pack (meaning k b st.next (current (viewed st))).result

    result_folded : (i : ℕ) → i < 6 → get_or result.radii.folded i 0
        ≡ get_or (folded_from (describe k).anew st) i 0 + get_or (meaning k b st.next (current (viewed st))).folds i 0
    unfolding pack
    result_folded i l = omega (
      arith,
      get_d_tab 6 (λ i. get_or (meaning k b st.next (current (viewed st))).result.radii.folded i 0) 0 i l,
      folds_join k b st.next (current (viewed st)) i,
      from_is k there i l,
    )

    pub result-rises : Rising (folded_from (describe k).anew st) result.radii.folded
    result-rises i l = omega (arith, result_folded i l)

    pub grown_is : grown st.folded (folded_from (describe k).anew st) result.radii.folded
        ≡ with_folds st.folded (meaning k b st.next (current (viewed st))).folds
    unfolding with_folds
    grown_is = tab_cong 6 _ _ (λ i l. omega (arith, result_folded i l))

-- a field that folds nothing leaves them
pub nothing-more : (totals : List ℕ) → length totals ≡ 6 → with_folds totals [] ≡ totals
unfolding with_folds
nothing-more totals six = tab_cong 6 _ _ (λ i l. omega arith) ∙ tab_get_d 6 totals 0 six
