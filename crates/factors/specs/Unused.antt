-- Which factors occur, and terms and identifiers without the others, as arrays hold them.
use mathlib.Core.List.{List, [], map}
use Rattle.std.specs.Prelude.{Bool, true, false, ◌≡◌, ℕ, ◌+◌, ◌*◌, ◌/◌, ◌%◌, ◌<◌, ◌≤◌, ℤ}
use Rattle.std.proofs.Math.Path.{sym, ap}
use Rattle.std.proofs.Common.{◌∙◌}
use borrow.Author.Tests.{lt-ltb, le-ltb}
use Rattle.std.proofs.Math.Dec.{ltb}
use Rattle.std.proofs.Math.ListN.{length, get_or, get_or-map}
use Rattle.whole.specs.Tab.{tab, get_d_tab, tab_cong, map-tab}
use Rattle.model.specs.Set.{Term}
use Rattle.model.specs.Valid.{occurs}
use Rattle.model.specs.Finish.{keep_at, keep_exponents}
use Rattle.rows.specs.Rows.{exponent_row, term_of, terms}
use Rattle.fold.specs.Marks.{at}
use Rattle.whole.specs.Tests.{any_found, any_none}
use Rattle.std.proofs.lemmas.List.{length-map}
use Rattle.fold.specs.Chosen.{chosen}
use Rattle.factors.specs.Kept.{kept_cong, kept-tab}
use Rattle.factors.specs.Squeeze.{rows_array}

-- ---- which factors occur
-- the factor at place j of twelve
module _ (e heads : List ℕ) (s : List ℤ) (n j : ℕ) (h : j < 12) where
  exponent-at : (k : ℕ) → get_or (exponent_row e (get_or heads k 0)) j 0 ≡ get_or e (get_or heads k 0 * 12 + j) 0
  exponent-at k = get_d_tab 12 (λ i. get_or e (get_or heads k 0 * 12 + i) 0) 0 j h

  pub occurs_some : (k : ℕ) → k < n → 0 < get_or e (get_or heads k 0 * 12 + j) 0 → occurs (terms e heads s n) j ≡ true
  unfolding terms
  occurs_some k l g =
      any_found (λ t. ltb 0 (get_or t.exponents j 0)) n (λ k. term_of e s (get_or heads k 0) k) k l
      (ap (ltb 0) (exponent-at k) ∙ lt-ltb 0 _ g)

  pub occurs_none : ((k : ℕ) → k < n → get_or e (get_or heads k 0 * 12 + j) 0 ≤ 0) → occurs (terms e heads s n) j ≡ false
  unfolding terms
  occurs_none g =
      any_none (λ t. ltb 0 (get_or t.exponents j 0)) n (λ k. term_of e s (get_or heads k 0) k)
      (λ k l. ap (ltb 0) (exponent-at k) ∙ le-ltb 0 _ (g k l))

-- ---- without the others
-- the twelve places of an array of identifiers
abbrev pub twelve : List ℕ → List ℕ
twelve ids = tab 12 (λ j. get_or ids j 0)

-- the exponents of terms in rows of 12, as a record holds them
abbrev no_term : Term
no_term = record { exponents = []; coefficients = [] }

abbrev pub exponents_array : List Term → List ℕ
exponents_array ts = tab 480 (λ x. get_or (get_or ts (x / 12) no_term).exponents (x % 12) 0)

-- what is left of the factors of the terms ts
pub record WithoutUnused (ts : List Term) (ids : List ℕ) (count : ℕ) (ids' exponents : List ℕ) : Type 0 where
  pub count_is : count ≡ length (keep_at (occurs ts) 0 (twelve ids))
  pub identifiers_are : ids' ≡ twelve (keep_at (occurs ts) 0 (twelve ids))
  pub exponents_are : exponents ≡ exponents_array (map (keep_exponents (occurs ts)) ts)

-- rows of exponents are the exponents of terms
rows-exponents : (p : ℕ → Bool) (n : ℕ) (t : ℕ → Term) →
    rows_array (λ i. keep_at p 0 (t i).exponents) n ≡ exponents_array (map (keep_exponents p) (tab n t))
rows-exponents p n t =
    let of : Term → List ℕ = λ u. u.exponents in
    let ts = map (keep_exponents p) (tab n t) in
    let rows : tab n (λ i. keep_at p 0 (t i).exponents) ≡ map of ts =
    sym (ap (map of) (map-tab (keep_exponents p) n t) ∙ map-tab of n (λ i. keep_exponents p (t i))) in
    tab_cong 480 _ _
    (λ x h.
    ap (λ (l : List ℕ). get_or l (x % 12) 0)
    (ap (λ (l : List (List ℕ)). get_or l (x / 12) []) rows ∙ get_or-map of ts (x / 12) no_term))

module _ (e heads : List ℕ) (s : List ℤ) (n : ℕ) (used : List Bool) (u : used ≡ tab 12 (occurs (terms e heads s n))) where
  used-at : (i : ℕ) → i < 12 → at used i ≡ occurs (terms e heads s n) i
  used-at i h = ap (λ (l : List Bool). at l i) u ∙ get_d_tab 12 (occurs (terms e heads s n)) false i h

  -- what was squeezed by the places of the marks
  pub without_unused : (ids : List ℕ) {count : ℕ} {places ids' exponents : List ℕ} → count ≡ length places → places ≡ chosen (at used) 12 →
      ids' ≡ twelve (map (λ j. get_or ids j 0) places) →
      exponents ≡ rows_array (λ k. map (λ j. get_or e (get_or heads k 0 * 12 + j) 0) places) n →
      WithoutUnused (terms e heads s n) ids count ids' exponents
  unfolding terms
  without_unused ids {places = places} c l p q =
      let o = occurs (terms e heads s n) in
      let kept : (f : ℕ → ℕ) → map f places ≡ keep_at o 0 (tab 12 f) =
      λ f. ap (map f) l ∙ sym (kept-tab (at used) 12 f) ∙ kept_cong (at used) o 12 f used-at in
      let id : ℕ → ℕ = λ j. get_or ids j 0 in
      record {
        count_is = c ∙ sym (length-map places id) ∙ ap length (kept id);
        identifiers_are = p ∙ ap twelve (kept id);
        exponents_are =
            q
            ∙ ap (λ (l : List (List ℕ)). tab 480 (λ x. get_or (get_or l (x / 12) []) (x % 12) 0))
            (tab_cong n _ _ (λ k h. kept (λ j. get_or e (get_or heads k 0 * 12 + j) 0)))
            ∙ rows-exponents o n (λ k. term_of e s (get_or heads k 0) k);
      }
