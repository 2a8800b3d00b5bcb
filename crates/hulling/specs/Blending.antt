-- The rows of a blend, as they are written from the rows of the sum: its terms, in wide form.
use Rattle.std.specs.Prelude.{◌≡◌, cond, ℕ, ◌+◌, ◌*◌, ◌%◌, ◌<◌, ◌≤◌, eqb, length, get_or, ℤ, pos, ◌*ℤ◌}
use Rattle.std.proofs.Math.Path.{sym, ap, ap₂}
use Rattle.std.proofs.Common.{◌∙◌}
use mathlib.Core.List.{List, [], ◌∷◌, ◌++◌, map, map-append}
use native.Mathlib.Omega.{arith}
use Rattle.whole.specs.Tab.{tab, tab_cong, get_d_tab, map-tab}
use Rattle.whole.specs.Write.{write, write-length, write-at, write-before}
use Rattle.rational.specs.Sum.{All}
use Rattle.rational.proofs.Sum.{All-++}
use Rattle.model.specs.Set.{Term, at}
use Rattle.model.specs.Hull.{blend}
use Rattle.rows.specs.Rows.{exponent_row, number_row, term_of, rows_of}
use Rattle.raw.specs.Append.{term-same}
use Rattle.align.specs.Runs.{tab-++}
use Rattle.finish.specs.Wide.{wide_term}
use Rattle.hulling.specs.WideTerms.{half, turned_half, turned, blend_wide, wide-blend, wide_blends, wide_turns}

-- place x of exponents in rows of 12, with p in column n
abbrev pub power_at : List ℕ → ℕ → ℕ → ℕ → ℕ
power_at e n p x = cond (eqb (x % 12) n) p (get_or e x 0)

-- place x of numbers from row r on, times h
abbrev pub times_at : ℤ → List ℤ → ℕ → ℕ → ℤ
times_at h c r x = h *ℤ at c (r * 6 + x)

-- a row for the blending factor alone, from z; each row without it; each row with it
abbrev alone_of : List ℕ → List ℕ → ℕ → List ℕ
alone_of z f₀ n = write f₀ (0 * 12) (power_at z n 1) (1 * 12)

abbrev without_of : List ℕ → List ℕ → List ℕ → ℕ → ℕ → List ℕ
without_of z e f₀ n rows = write (alone_of z f₀ n) (1 * 12) (power_at e n 0) (rows * 12)

abbrev pub exponent_runs : List ℕ → List ℕ → List ℕ → ℕ → ℕ → List ℕ
exponent_runs z e f₀ n rows = write (without_of z e f₀ n rows) ((rows + 1) * 12) (power_at e n 1) (rows * 12)

-- half the difference of the centres; each row halved; again the first set's; and the second's turned round
abbrev pub difference_of : List ℤ → List ℤ → List ℤ
difference_of d w₀ = write w₀ (0 * 6) (times_at half d 0) (1 * 6)

abbrev pub halves_of : List ℤ → List ℤ → List ℤ → ℕ → List ℤ
halves_of d c w₀ rows = write (difference_of d w₀) (1 * 6) (times_at half c 0) (rows * 6)

abbrev pub firsts_of : List ℤ → List ℤ → List ℤ → ℕ → ℕ → List ℤ
firsts_of d c w₀ own rest = write (halves_of d c w₀ (own + rest)) ((own + rest + 1) * 6) (times_at half c 0) (own * 6)

abbrev pub number_runs : List ℤ → List ℤ → List ℤ → ℕ → ℕ → List ℤ
number_runs d c w₀ own rest = write (firsts_of d c w₀ own rest) ((own + rest + 1 + own) * 6) (times_at turned_half c own) (rest * 6)

-- ---- a place of a row
power-row : (n : ℕ) (x : List ℕ) (p t k : ℕ) → k < 12 → power_at x n p (t * 12 + k) ≡ cond (eqb k n) p (get_or (exponent_row x t) k 0)
power-row n x p t k h =
    let m : (t * 12 + k) % 12 ≡ k = omega arith in
    ap₂ (λ (i y : ℕ). cond (eqb i n) p y) m (sym (get_d_tab 12 (λ k. get_or x (t * 12 + k) 0) 0 k h))

-- of row t after row r
times_row : (h : ℤ) (c : List ℤ) (r t j : ℕ) → j < 6 → times_at h c r (t * 6 + j) ≡ h *ℤ at (number_row c (r + t)) j
times_row h c r t j l =
    let i : r * 6 + (t * 6 + j) ≡ (r + t) * 6 + j = omega arith in
    ap (h *ℤ◌) (ap (at c) i ∙ sym (get_d_tab 6 (λ j. at c ((r + t) * 6 + j)) (pos 0) j l))

module _ (z e f₀ : List ℕ) (d c w₀ : List ℤ) (n own rest : ℕ) where
  abbrev rows : ℕ
  rows = own + rest

  abbrev exponents : List ℕ
  exponents = exponent_runs z e f₀ n rows

  abbrev numbers : List ℤ
  numbers = number_runs d c w₀ own rest

  -- row t of the result
  abbrev result : ℕ → Term
  result t = term_of exponents numbers t t

  module _ (le : 1932 ≤ length f₀) (lw : 966 ≤ length w₀) (few : rows ≤ 80) where
    alone_long : length (alone_of z f₀ n) ≡ length f₀
    alone_long = write-length f₀ (0 * 12) (power_at z n 1) (1 * 12)

    without_long : length (without_of z e f₀ n rows) ≡ length f₀
    without_long = write-length _ (1 * 12) (power_at e n 0) (rows * 12) ∙ alone_long

    difference_long : length (difference_of d w₀) ≡ length w₀
    difference_long = write-length w₀ (0 * 6) (times_at half d 0) (1 * 6)

    halves_long : length (halves_of d c w₀ rows) ≡ length w₀
    halves_long = write-length _ (1 * 6) (times_at half c 0) (rows * 6) ∙ difference_long

    firsts-long : length (firsts_of d c w₀ own rest) ≡ length w₀
    firsts-long = write-length _ ((rows + 1) * 6) (times_at half c 0) (own * 6) ∙ halves_long

    -- ---- the row for the blending factor alone
    alone : result 0 ≡ blend_wide n 1 half (term_of z d 0 0)
    alone = term-same
        (tab_cong 12 _ _ (λ k h.
        write-before _ _ _ 0 _ _ (omega arith)
        ∙ write-before _ _ _ 0 _ _ (omega arith)
        ∙ write-at f₀ (0 * 12) (power_at z n 1) 0 (1 * 12) k (omega arith) (omega arith)
        ∙ ap (power_at z n 1) (omega arith)
        ∙ power-row n z 1 0 k h))
        (tab_cong 6 _ _ (λ j h.
        let i : j ≡ 0 * 6 + j = omega arith in
        write-before _ _ _ (pos 0) _ _ (omega arith)
        ∙ write-before _ _ _ (pos 0) _ _ (omega arith)
        ∙ write-before _ _ _ (pos 0) _ _ (omega arith)
        ∙ write-at w₀ (0 * 6) (times_at half d 0) (pos 0) (1 * 6) j (omega arith) (omega arith)
        ∙ ap (times_at half d 0) i
        ∙ times_row half d 0 0 j h))

    -- ---- a row without it
    without : (t : ℕ) → t < rows → result (1 + t) ≡ blend_wide n 0 half (term_of e c t t)
    without t m = term-same
        (tab_cong 12 _ _ (λ k h.
        let i : (1 + t) * 12 + k ≡ 1 * 12 + (t * 12 + k) = omega arith in
        write-before _ _ _ 0 _ _ (omega arith)
        ∙ ap (λ x. get_or (without_of z e f₀ n rows) x 0) i
        ∙ write-at _ (1 * 12) (power_at e n 0) 0 (rows * 12) (t * 12 + k) (omega arith) (omega (arith, alone_long))
        ∙ power-row n e 0 t k h))
        (tab_cong 6 _ _ (λ j h.
        let i : (1 + t) * 6 + j ≡ 1 * 6 + (t * 6 + j) = omega arith in
        write-before _ _ _ (pos 0) _ _ (omega arith)
        ∙ write-before _ _ _ (pos 0) _ _ (omega arith)
        ∙ ap (at (halves_of d c w₀ rows)) i
        ∙ write-at _ (1 * 6) (times_at half c 0) (pos 0) (rows * 6) (t * 6 + j) (omega arith) (omega (arith, difference_long))
        ∙ times_row half c 0 t j h
        ∙ ap (λ x. half *ℤ at (number_row c x) j) (omega arith)))

    -- ---- a row with it
    with-power : (t : ℕ) → t < rows
        → exponent_row exponents (1 + (rows + t)) ≡ tab 12 (λ k. cond (eqb k n) 1 (get_or (exponent_row e t) k 0))
    with-power t m = tab_cong 12 _ _ (λ k h.
        let i : (1 + (rows + t)) * 12 + k ≡ (rows + 1) * 12 + (t * 12 + k) = omega arith in
        ap (λ x. get_or exponents x 0) i
        ∙ write-at _ ((rows + 1) * 12) (power_at e n 1) 0 (rows * 12) (t * 12 + k) (omega arith) (omega (arith, without_long))
        ∙ power-row n e 1 t k h)

    -- of the first set
    with_first : (t : ℕ) → t < own → result (1 + (rows + t)) ≡ blend_wide n 1 half (term_of e c t t)
    with_first t m = term-same (with-power t (omega arith))
        (tab_cong 6 _ _ (λ j h.
        let i : (1 + (rows + t)) * 6 + j ≡ (rows + 1) * 6 + (t * 6 + j) = omega arith in
        write-before _ _ _ (pos 0) _ _ (omega arith)
        ∙ ap (at (firsts_of d c w₀ own rest)) i
        ∙ write-at _ ((rows + 1) * 6) (times_at half c 0) (pos 0) (own * 6) (t * 6 + j) (omega arith) (omega (arith, halves_long))
        ∙ times_row half c 0 t j h
        ∙ ap (λ x. half *ℤ at (number_row c x) j) (omega arith)))

    -- of the second, turned round
    with_second : (t : ℕ) → t < rest → result (1 + (rows + (own + t))) ≡ blend_wide n 1 turned_half (term_of e c (own + t) (own + t))
    with_second t m = term-same (with-power (own + t) (omega arith))
        (tab_cong 6 _ _ (λ j h.
        let i : (1 + (rows + (own + t))) * 6 + j ≡ (rows + 1 + own) * 6 + (t * 6 + j) = omega arith in
        ap (at numbers) i
        ∙ write-at _ ((rows + 1 + own) * 6) (times_at turned_half c own) (pos 0) (rest * 6) (t * 6 + j) (omega arith)
        (omega (arith, firsts-long))
        ∙ times_row turned_half c own t j h))

    -- ---- together they are the terms of the blend
    module _ (v : Term) (A B : List Term) (of-alone : term_of z d 0 0 ≡ wide_term v)
        (of-first : tab own (λ t. term_of e c t t) ≡ map wide_term A)
        (of-second : tab rest (λ t. term_of e c (own + t) (own + t)) ≡ map wide_term B) (v-long : length v.exponents ≡ n)
        (A-long : All (λ t. length t.exponents ≡ n) A) (B-long : All (λ t. length t.exponents ≡ n) B) where
      both : tab rows (λ t. term_of e c t t) ≡ map wide_term (A ++ B)
      both = tab-++ own rest (λ t. term_of e c t t) ∙ ap₂ ◌++◌ of-first of-second ∙ sym (map-append wide_term A B)

      -- rows that are each so made of another, of which the terms are known
      made : (g : Term → Term) (m : ℕ) (y x : ℕ → Term) (ts : List Term) → ((t : ℕ) → t < m → y t ≡ g (x t))
          → tab m x ≡ map wide_term ts → tab m y ≡ map g (map wide_term ts)
      made g m y x ts is e = tab_cong m y (λ t. g (x t)) is ∙ sym (map-tab g m x) ∙ ap (map g) e

      row_alone : tab 1 result ≡ map wide_term (blend 1 v ∷ [])
      unfolding tab
      row_alone = tab_cong 1 result (λ _. wide_term (blend 1 v)) (λ x h.
          let i : x ≡ 0 = omega arith in
          ap result i ∙ alone ∙ ap (blend_wide n 1 half) of-alone ∙ sym (wide-blend n 1 v v-long))

      rows_without : tab rows (λ x. result (1 + x)) ≡ map wide_term (map (blend 0) (A ++ B))
      rows_without =
          made (blend_wide n 0 half) rows _ (λ t. term_of e c t t) (A ++ B) without both
          ∙ sym (wide_blends n 0 (All-++ A-long B-long))

      rows-with : tab rows (λ x. result (1 + (rows + x))) ≡ map wide_term (map (blend 1) (A ++ map turned B))
      rows-with =
          tab-++ own rest (λ x. result (1 + (rows + x)))
          ∙ ap₂ ◌++◌
          (made (blend_wide n 1 half) own _ (λ t. term_of e c t t) A with_first of-first ∙ sym (wide_blends n 1 A-long))
          (made (blend_wide n 1 turned_half) rest _ (λ t. term_of e c (own + t) (own + t)) B with_second of-second
          ∙ sym (wide_turns n 1 B-long))
          ∙ sym (map-append wide_term (map (blend 1) A) (map (blend 1) (map turned B)))
          ∙ ap (map wide_term) (sym (map-append (blend 1) A (map turned B)))

      pub blend-rows : rows_of exponents numbers (1 + (rows + rows))
          ≡ map wide_term (blend 1 v ∷ (map (blend 0) (A ++ B) ++ map (blend 1) (A ++ map turned B)))
      unfolding rows_of
      blend-rows =
          tab-++ 1 (rows + rows) result
          ∙ ap₂ ◌++◌ row_alone
          (tab-++ rows rows (λ x. result (1 + x))
          ∙ ap₂ ◌++◌ rows_without rows-with
          ∙ sym (map-append wide_term (map (blend 0) (A ++ B)) (map (blend 1) (A ++ map turned B))))
