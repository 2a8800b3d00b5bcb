-- The rows that the own terms and the used pairs fill hold the raw terms of the definition, in wide form.
use mathlib.Core.List.{List, [], ◌∷◌, ◌++◌, map, map-append}
use Rattle.std.specs.Prelude.{◌≡◌, refl, ℕ, zero, suc, ◌+◌, ◌*◌, ◌/◌, ◌%◌, ◌<◌, ◌≤◌, ℤ, pos, length, get_or}
use Rattle.std.proofs.Math.Path.{sym, ap₂}
use Rattle.std.proofs.Common.{◌∙◌, ap, add-zero, zero-add, arith}
use Rattle.whole.specs.Tab.{tab, tab_cong, map-tab, get_d_tab}
use Rattle.whole.specs.Write.{write}
use Rattle.rows.specs.Rows.{rows_of, Small}
use Rattle.model.specs.Pairs.{pair_codes}
use Rattle.model.specs.Set.{Term, Zonotope, at, longer, plus_ℕ}
use Rattle.model.specs.Step.{Step, dot, own, squared, paired, pairs, raw, raw_linear, raw_square, raw_pair}
use Rattle.zonotope.specs.Record.{view}
use Rattle.zonotope.specs.declared.PolyZonotope.{PolyZonotope}
use Rattle.forms.specs.Tables.{row_of}
use Rattle.forms.specs.Filling.{first-at}
use Rattle.forms.specs.Numbers.{six, both_table, line_table, column_table, table_limit, raw_limit, product_small, term-number, pair-number}
use Rattle.forms.specs.Numbers.{square_number}
use Rattle.raw.specs.Accepted.{InSpan}
use Rattle.raw.specs.Unused.{term_at, counts_in, centre-row, exponent-row, coefficient_row}
use Rattle.raw.specs.Append.{wide_term, Bounded, KeptFrom, term-same, rows-first, kept-after}
use Rattle.raw.specs.Kept.{Kept, kept_to}
use Rattle.raw.specs.Pairs.{used}
use Rattle.raw.specs.PairOrder.{pairs-used}
use Rattle.raw.specs.PairRows.{pair_number, pair_exponent, pair_row_of, number_square, number-pair, Added}

-- r rows hold the raw terms of any step with these tables, whatever its constant c
pub record RawTerms (lines both : List ℤ) (s : PolyZonotope) (e₀ : List ℕ) (w₀ : List ℤ) (r : ℕ) (e : List ℕ) (w : List ℤ) : Type 0 where
  pub inside : r ≤ 860
  pub rows : (c a q : List ℤ) → both ≡ both_table q → lines ≡ line_table a (both_table q) s.centre
      → Kept (rows_of e w r) (map wide_term (raw (six c a q) (view s)).terms)
  pub numbers : Bounded raw_limit (r * 6) w
  pub later-exponents : KeptFrom 0 (r * 12) e₀ e
  pub later-numbers : KeptFrom (pos 0) (r * 6) w₀ w

-- a sum of exponents is that of its places
longer-at : (u v : List ℕ) (k : ℕ) → get_or (longer ◌+◌ u v) k 0 ≡ get_or u k 0 + get_or v k 0
unfolding longer
longer-at [] v k = sym (zero-add (get_or v k 0))
longer-at (x ∷ xs) [] k = sym (add-zero (get_or (x ∷ xs) k 0))
longer-at (x ∷ xs) (y ∷ ys) zero = refl
longer-at (x ∷ xs) (y ∷ ys) (suc k) = longer-at xs ys k

module _ (a q : List ℤ) (s : PolyZonotope) (ok : InSpan s) (c : List ℤ) where
  abbrev P : Step
  P = six c a q

  abbrev z : Zonotope
  z = view s

  abbrev lines : List ℤ
  lines = line_table a (both_table q) s.centre

  abbrev both : List ℤ
  both = both_table q

  abbrev F : ℕ → ℤ
  F x = dot 6 (row_of s.coefficients (x / 6)) (row_of lines (x % 6))

  below : (t : ℕ) → t < s.terms → t < 40
  below t h = omega (arith, counts_in s ok)

  own_row : (t : ℕ) → t < s.terms
      → ◌≡◌ {A = Term} (record { exponents = tab 12 (λ k. get_or s.exponents (t * 12 + k) 0); coefficients = tab 6 (λ j. F (t * 6 + j)) })
      (wide_term (own P z (term_at s t)))
  own_row t h =
      term-same (tab_cong 12 _ _ (exponent-row s ok t (below t h)))
      (tab_cong 6 _ _
      (λ j l.
      let e : (t * 6 + j) / 6 ≡ t = omega arith in
      let f : (t * 6 + j) % 6 ≡ j = omega arith in
      ap₂ (λ (x y : ℕ). dot 6 (row_of s.coefficients x) (row_of lines y)) e f
      ∙ term-number c a q s.centre z (centre-row s ok) j l s.coefficients t (term_at s t).coefficients
      (coefficient_row s ok t (below t h))
      ∙ sym (get_d_tab 6 (raw_linear P z (term_at s t).coefficients) (pos 0) j l)))

  exponents_added : (i j : ℕ) → i < 40 → j < 40 → (k : ℕ) → k < 12
      → pair_exponent s.exponents i j k ≡ get_or (plus_ℕ (term_at s i).exponents (term_at s j).exponents) k 0
  exponents_added i j hi hj k l =
      ap₂ ◌+◌ (exponent-row s ok i hi k l) (exponent-row s ok j hj k l)
      ∙ sym (longer-at (term_at s i).exponents (term_at s j).exponents k)

  square_row : (t : ℕ) → t < s.terms → pair_row_of both s.coefficients s.exponents (40 * t + t) ≡ wide_term (squared P z (term_at s t))
  square_row t h =
      let b = below t h in
      let e : (40 * t + t) / 40 ≡ t = omega arith in
      let f : (40 * t + t) % 40 ≡ t = omega arith in
      ap₂ (λ (x y : ℕ). record {
        exponents = tab 12 (pair_exponent s.exponents x y);
        coefficients =
            tab 6 (pair_number (column_table both s.coefficients x) s.coefficients x y);
      }) e f
      ∙ term-same (tab_cong 12 _ _ (exponents_added t t b b))
      (tab_cong 6 _ _
      (λ i l.
      number_square (column_table both s.coefficients t) s.coefficients t t i refl
      ∙ square_number c a q s.coefficients z i t (term_at s t).coefficients l (coefficient_row s ok t b)
      ∙ sym (get_d_tab 6 (raw_square P z (term_at s t).coefficients) (pos 0) i l)))

  pair_row : (u t : ℕ) → u < t → t < s.terms
      → pair_row_of both s.coefficients s.exponents (40 * u + t) ≡ wide_term (paired P z (term_at s u) (term_at s t))
  pair_row u t m h =
      let b = below t h in
      let d : u < 40 = omega arith in
      let e : (40 * u + t) / 40 ≡ u = omega arith in
      let f : (40 * u + t) % 40 ≡ t = omega arith in
      ap₂ (λ (x y : ℕ). record {
        exponents = tab 12 (pair_exponent s.exponents x y);
        coefficients =
            tab 6 (pair_number (column_table both s.coefficients x) s.coefficients x y);
      }) e f
      ∙ term-same (tab_cong 12 _ _ (exponents_added u t d b))
      (tab_cong 6 _ _
      (λ i l.
      number-pair (column_table both s.coefficients u) s.coefficients u t i (λ n. omega arith)
      ∙ pair-number c a q s.coefficients z i u t (term_at s u).coefficients (term_at s t).coefficients l (coefficient_row s ok u d)
      (coefficient_row s ok t b)
      ∙ sym (get_d_tab 6 (raw_pair P z (term_at s u).coefficients (term_at s t).coefficients) (pos 0) i l)))

  own-rows : (e₀ : List ℕ) (w₀ : List ℤ) → s.terms * 12 ≤ length e₀ → s.terms * 6 ≤ length w₀
      → rows_of (write e₀ 0 (λ x. get_or s.exponents x 0) (s.terms * 12)) (write w₀ 0 F (s.terms * 6)) s.terms
      ≡ map wide_term (map (own P z) (tab s.terms (term_at s)))
  own-rows e₀ w₀ le lw =
      rows-first e₀ w₀ s.terms (λ x. get_or s.exponents x 0) F le lw
      ∙ tab_cong s.terms _ (λ t. wide_term (own P z (term_at s t))) own_row
      ∙ sym (ap (map wide_term) (map-tab (own P z) s.terms (term_at s)) ∙ map-tab wide_term s.terms (λ t. own P z (term_at s t)))

  all-rows : (rows : List Term) → rows ≡ map wide_term (map (own P z) (tab s.terms (term_at s)))
      → rows ++ map (pair_row_of both s.coefficients s.exponents) (used s.terms (pair_codes 40)) ≡ map wide_term (raw P z).terms
  unfolding raw view
  all-rows rows h =
      ap₂ (λ (x y : List Term). x ++ y) h
      (pairs-used P z s.terms (counts_in s ok).2 (term_at s) wide_term (pair_row_of both s.coefficients s.exponents) square_row
      pair_row)
      ∙ sym (map-append wide_term (map (own P z) (tab s.terms (term_at s))) (pairs P z (tab s.terms (term_at s))))

-- ---- the stage: own terms, then pairs
-- the own terms' numbers, from the lines
abbrev pub own_number : List ℤ → PolyZonotope → ℕ → ℤ
own_number lines s x = dot 6 (row_of s.coefficients (x / 6)) (row_of lines (x % 6))

pub own_bounded : (lines : List ℤ) (s : PolyZonotope) → InSpan s → (w₀ w₁ : List ℤ) → 5160 ≤ length w₀ → w₁ ≡
    write w₀ 0 (own_number lines s) (s.terms * 6)
    → Small 1048576 s.coefficients → Small table_limit lines → Bounded raw_limit (s.terms * 6) w₁
own_bounded lines s ok w₀ w₁ lw numbers hc hl = rw numbers (record {
  bounded = λ x h.
      rw (first-at w₀ (own_number lines s) (pos 0) (s.terms * 6) x h (omega (arith, counts_in s ok)))
      (product_small s.coefficients lines hc hl (x / 6) (x % 6));
})

module _ (lines both : List ℤ) (s : PolyZonotope) (ok : InSpan s) (e₀ e₁ e : List ℕ) (w₀ w₁ w : List ℤ) (r : ℕ)
    (le : 10320 ≤ length e₀) (lw : 5160 ≤ length w₀)
    (exponents : e₁ ≡ write e₀ 0 (λ x. get_or s.exponents x 0) (s.terms * 12))
    (numbers : w₁ ≡ write w₀ 0 (own_number lines s) (s.terms * 6)) where
  pub raw-terms : Added both s.coefficients s.exponents s.terms e₁ w₁ r e w → RawTerms lines both s e₀ w₀ r e w
  raw-terms t = let o = t.least in let i = t.inside in record {
    inside = omega (arith, counts_in s ok);
    rows = λ c a q eb el. kept_to t.rows
        (ap (λ (b : List ℤ). rows_of e₁ w₁ s.terms ++ map (pair_row_of b s.coefficients s.exponents) (used s.terms (pair_codes 40))) eb
        ∙ all-rows a q s ok c (rows_of e₁ w₁ s.terms)
        (ap₂ (λ (x : List ℕ) (y : List ℤ). rows_of x y s.terms) exponents
        (numbers ∙ ap (λ (ls : List ℤ). write w₀ 0 (own_number ls s) (s.terms * 6)) el)
        ∙ own-rows a q s ok c e₀ w₀ (omega (arith, counts_in s ok)) (omega (arith, counts_in s ok))));
    numbers = t.numbers;
    later-exponents = record {
      place = λ x l. t.later-exponents.place x l ∙ ap (λ (y : List ℕ). get_or y x 0) exponents
          ∙ (kept-after 0 e₀ 0 (λ x. get_or s.exponents x 0) (s.terms * 12)).place x (omega arith);
    };
    later-numbers = record {
      place = λ x l. t.later-numbers.place x l ∙ ap (λ (y : List ℤ). at y x) numbers
          ∙ (kept-after (pos 0) w₀ 0 (own_number lines s) (s.terms * 6)).place x (omega arith);
    };
  }
