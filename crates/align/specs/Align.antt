-- Exponents written for more factors, one after the other, as a loop does.
use Rattle.std.specs.Prelude.{◌≡◌, refl, List, [], ◌∷◌, Bool, true, false, ◌&&◌, ltb, set, drop}
use Rattle.std.proofs.Common.{sym, ◌∙◌, ap, ap₂, true≢false, add-one}
use Prim.Native.Nat.{ℕ, suc, ◌+◌, ◌*◌, ◌<◌, ◌≤◌}
use Rattle.std.proofs.Math.Decide.{dec_lt}
use native.Mathlib.Omega.{arith}
use Rattle.std.proofs.Math.Dec.{eqb}
use Rattle.std.proofs.Math.ListN.{length, get_or, drop_of_length-le}
use Rattle.std.proofs.Math.Seq.{drop-cons}
use borrow.Author.Tests.{lt-ltb, le-ltb, ltb-true, eqb-true, eq-eqb, ne_eqb}
use Rattle.whole.specs.Tab.{length-tab, get_d_tab}
use Rattle.whole.specs.Write.{write, write_again}
use Rattle.model.specs.Operations.{align}
use Rattle.model.proofs.Tests.{and_true, true_and}
use Rattle.arrays.specs.Rows.{row}
use Rattle.align.specs.Listed.{listed}

-- whether factor i of ks is factor k of ms
abbrev pub meet : List ℕ → List ℕ → ℕ → ℕ → Bool
meet ks ms i k = ltb i (length ks) && (ltb k (length ms) && eqb (get_or ms k 0) (get_or ks i 0))

-- its test on two arrays
pub meet-here : (p n i k : ℕ) (ids all : List ℕ) → i < p
    → ltb k n && eqb (get_or all k 0) (get_or ids i 0) ≡ meet (listed p ids) (listed n all) i k
meet-here p n i k ids all h =
    rw (length-tab p (λ j. get_or ids j 0), length-tab n (λ j. get_or all j 0), lt-ltb i p h, get_d_tab p (λ j. get_or ids j 0) 0 i h)
    (go (dec_lt k n))
  where
    go : Dec (k < n) → ltb k n && eqb (get_or all k 0) (get_or ids i 0) ≡ ltb k n && eqb (get_or (listed n all) k 0) (get_or ids i 0)
    go (yes l) = rw (get_d_tab n (λ j. get_or all j 0) 0 k l)
    go (no l) = rw (le-ltb k n (omega arith))

pub meet_past : (p i k : ℕ) (ids ms : List ℕ) → p ≤ i → false ≡ meet (listed p ids) ms i k
meet_past p i k ids ms h = rw (length-tab p (λ j. get_or ids j 0), le-ltb i p h)

-- column k of row t of exponents xs, for the first p of `ids`, written for the first n of `all`; 0 past its end
abbrev pub aligned_at : List ℕ → ℕ → List ℕ → ℕ → List ℕ → ℕ → ℕ → ℕ
aligned_at xs p ids n all t k = get_or (align (listed p ids) (row 12 0 xs t p) (listed n all)) k 0

-- ---- a row, column by column
module _ (ks es ms : List ℕ) where
  -- what is left of the row, where i exponents are written in the first k columns
  abbrev rest : ℕ → ℕ → List ℕ
  rest i k = align (drop i ks) (drop i es) (drop k ms)

  -- the row from column k on is that
  pub record Aligning (i k : ℕ) : Type 0 where
    pub left : (j : ℕ) → get_or (align ks es ms) (k + j) 0 ≡ get_or (rest i k) j 0

  pub aligning_start : Aligning 0 0
  aligning_start = record { left = λ j. let e : 0 + j ≡ j = omega arith in ap (λ x. get_or (align ks es ms) x 0) e }

  -- as many exponents as factors
  module _ (long : length es ≡ length ks) where
    -- column k is the next factor's
    met : (i k : ℕ) → meet ks ms i k ≡ true → rest i k ≡ get_or es i 0 ∷ rest (suc i) (suc k)
    unfolding align
    met i k t =
        let a = and_true (ltb i (length ks)) (ltb k (length ms) && eqb (get_or ms k 0) (get_or ks i 0)) t in
        let b = and_true (ltb k (length ms)) (eqb (get_or ms k 0) (get_or ks i 0)) a.1 in
        let l : i < length ks = ltb-true _ _ a.0 in
        let m : k < length ms = ltb-true _ _ b.0 in
        let e : get_or ms k 0 ≡ get_or ks i 0 = eqb-true _ _ b.1 in
        rw (drop-cons ks i 0 l, drop-cons es i 0 (omega arith), drop-cons ms k 0 m, e, eq-eqb (get_or ks i 0) (get_or ks i 0) refl)

    -- past the last column; past the last factor; at another factor
    missed_end : (i k : ℕ) → length ms ≤ k → (rest i k ≡ []) × (rest i (suc k) ≡ [])
    unfolding align
    missed_end i k h =
        let g : length ms ≤ suc k = omega arith in
        (rw (drop_of_length-le ms h), rw (drop_of_length-le ms g))

    missed_all : (i k : ℕ) → k < length ms → length ks ≤ i → rest i k ≡ 0 ∷ rest i (suc k)
    unfolding align
    missed_all i k h g = rw (drop-cons ms k 0 h, drop_of_length-le ks g)

    missed_here : (i k : ℕ) → k < length ms → i < length ks → (get_or ms k 0 ≡ get_or ks i 0 → ⊥) → rest i k ≡ 0 ∷ rest i (suc k)
    unfolding align
    missed_here i k h g f =
        rw (drop-cons ks i 0 g, drop-cons es i 0 (omega arith), drop-cons ms k 0 h, ne_eqb (get_or ks i 0) (get_or ms k 0) (λ q. f (sym q)))

    -- column k is 0, and the row goes on as it would without it
    abbrev Zero : ℕ → ℕ → ℕ → Type 0
    Zero i k j = (get_or (rest i k) 0 0 ≡ 0) × (get_or (rest i k) (suc j) 0 ≡ get_or (rest i (suc k)) j 0)

    missed : (i k : ℕ) → meet ks ms i k ≡ false → (j : ℕ) → Zero i k j
    missed i k t j = go (dec_lt k (length ms)) (dec_lt i (length ks))
      where
        head : rest i k ≡ 0 ∷ rest i (suc k) → Zero i k j
        head e = (ap (λ l. get_or l 0 0) e, ap (λ l. get_or l (suc j) 0) e)

        go : Dec (k < length ms) → Dec (i < length ks) → Zero i k j
        go (no h) g =
            let e = missed_end i k (omega arith) in
            (ap (λ l. get_or l 0 0) e.0, ap (λ l. get_or l (suc j) 0) e.0 ∙ sym (ap (λ l. get_or l j 0) e.1))
        go (yes h) (no g) = head (missed_all i k h (omega arith))
        go (yes h) (yes g) = head (missed_here i k h g
            (λ q. true≢false (sym (true_and (lt-ltb _ _ g) (true_and (lt-ltb _ _ h) (eq-eqb _ _ q))) ∙ t)))

    module _ (i k : ℕ) (a : Aligning i k) where
      here : get_or (align ks es ms) k 0 ≡ get_or (rest i k) 0 0
      here = let e : k ≡ k + 0 = omega arith in ap (λ x. get_or (align ks es ms) x 0) e ∙ a.left 0

      later : (j : ℕ) → get_or (align ks es ms) (k + 1 + j) 0 ≡ get_or (rest i k) (suc j) 0
      later j = let e : k + 1 + j ≡ k + suc j = omega arith in ap (λ x. get_or (align ks es ms) x 0) e ∙ a.left (suc j)

      -- a factor that stands in column k: its exponent is written there
      pub aligning_met : meet ks ms i k ≡ true → (get_or es i 0 ≡ get_or (align ks es ms) k 0) × Aligning (i + 1) (k + 1)
      aligning_met t =
          let e = met i k t in (
            sym (here ∙ ap (λ l. get_or l 0 0) e),
            record {
              left = λ j. later j ∙ ap (λ l. get_or l (suc j) 0) e
                  ∙ ap₂ (λ x y. get_or (rest x y) j 0) (sym (add-one i)) (sym (add-one k));
            },
          )

      -- none does: 0 is written there
      pub aligning_missed : meet ks ms i k ≡ false → (0 ≡ get_or (align ks es ms) k 0) × Aligning i (k + 1)
      aligning_missed t = (
        sym (here ∙ (missed i k t 0).0),
        record { left = λ j. later j ∙ (missed i k t j).1 ∙ ap (λ x. get_or (rest i x) j 0) (sym (add-one k)) },
      )

-- ---- a row of an array
module _ (xs : List ℕ) (p : ℕ) (ids : List ℕ) (n : ℕ) (all : List ℕ) (t : ℕ) where
  abbrev ks : List ℕ
  ks = listed p ids

  abbrev es : List ℕ
  es = row 12 0 xs t p

  abbrev ms : List ℕ
  ms = listed n all

  long : length es ≡ length ks
  long = length-tab p _ ∙ sym (length-tab p _)

  pub met_within : (i k : ℕ) → meet ks ms i k ≡ true → i < p
  met_within i k m = omega (arith, length-tab p (λ j. get_or ids j 0), ltb-true i (length ks) (and_true _ _ m).0)

  module _ (e₀ e : List ℕ) (to i k : ℕ) (so_far : e ≡ write e₀ to (aligned_at xs p ids n all t) k) (a : Aligning ks es ms i k) where
    -- the two arms of the loop
    pub put_met : meet ks ms i k ≡ true
        → (set e (to + k) (get_or xs (t * 12 + i) 0) ≡ write e₀ to (aligned_at xs p ids n all t) (k + 1)) × Aligning ks es ms (i + 1) (k + 1)
    put_met m =
        let h = aligning_met ks es ms long i k a m in
        let v = get_d_tab p (λ j. get_or xs (t * 12 + j) 0) 0 i (met_within i k m) in
        (write_again e₀ to _ e k _ so_far (sym v ∙ h.0), h.1)

    pub put_missed : meet ks ms i k ≡ false
        → (set e (to + k) 0 ≡ write e₀ to (aligned_at xs p ids n all t) (k + 1)) × Aligning ks es ms i (k + 1)
    put_missed m =
        let h = aligning_missed ks es ms long i k a m in
        (write_again e₀ to _ e k 0 so_far h.0, h.1)
