-- The image under the wide step is the image under the step, in wide form: rows of 12 exponents and 6 numbers, continued by zeros.
use mathlib.Core.List.{List, [], ◌∷◌, ◌++◌, map, map-append}
use Rattle.std.specs.Prelude.{◌≡◌, ℕ, zero, suc, ◌+◌, ◌/◌, ◌%◌, ◌<◌, ◌≤◌, ℤ, pos, get_or}
use Rattle.std.proofs.Math.Path.{refl, sym, ap₂}
use Rattle.std.proofs.Common.{◌∙◌, ap, arith}
use Rattle.whole.specs.Tab.{tab, tab_cong, get_d_tab}
use Rattle.model.specs.Set.{Term, Zonotope, at}
use Rattle.model.specs.Step.{Step, own, squared, paired, pairs, raw, raw_centre, raw_linear, raw_square, raw_pair, remainder}
use Rattle.forms.specs.Wide.{wide, StepShaped}
use Rattle.forms.specs.Same.{wide-centre, wide-term, wide_square, wide-pair, wide-remainder}
use Rattle.forms.specs.Past.{centre_none, term_none, square_none, pair_none, remainder_none}
use Rattle.raw.specs.Unused.{same_row}
use Rattle.raw.specs.Append.{wide_term, term-same}
use Rattle.raw.specs.Parts.{wide_vectors}

module _ (p : Step) (shaped : StepShaped p) (z : Zonotope) where
  abbrev W : Step
  W = wide p

  -- f are the six numbers of the wide step, g those of the step, which has none past its rows
  same_number : {A : Type 0} (d : A) (f g : ℕ → A) → ((i : ℕ) → i < 6 → f i ≡ g i) → ((i : ℕ) → p.rows ≤ i → g i ≡ d) → (i : ℕ) → i < 6 →
      f i ≡ get_or (tab p.rows g) i d
  same_number d f g same none i h = same i h ∙ same_row d g p.rows 6 (λ j l m. none j m) i h

  term-at : (g : List ℤ) (i : ℕ) → i < 6 → at (tab 6 (raw_linear W z g)) i ≡ at (tab p.rows (raw_linear p z g)) i
  term-at g i h =
      get_d_tab 6 (raw_linear W z g) (pos 0) i h
      ∙ same_number (pos 0) (raw_linear W z g) (raw_linear p z g) (λ j l. wide-term p shaped j l z g) (λ j l. term_none p shaped j l z g) i h

  same-own : (t : Term) → wide_term (own W z t) ≡ wide_term (own p z t)
  same-own t = term-same refl (tab_cong 6 _ _ (term-at t.coefficients))

  same-squared : (t : Term) → wide_term (squared W z t) ≡ wide_term (squared p z t)
  same-squared t =
      term-same refl
      (tab_cong 6 _ _ (λ i h.
      get_d_tab 6 (raw_square W z t.coefficients) (pos 0) i h
      ∙ same_number (pos 0) (raw_square W z t.coefficients) (raw_square p z t.coefficients)
      (λ j l. wide_square p shaped j l z t.coefficients) (λ j l. square_none p shaped j l z t.coefficients) i h))

  same-paired : (t u : Term) → wide_term (paired W z t u) ≡ wide_term (paired p z t u)
  same-paired t u =
      term-same refl
      (tab_cong 6 _ _ (λ i h.
      get_d_tab 6 (raw_pair W z t.coefficients u.coefficients) (pos 0) i h
      ∙ same_number (pos 0) (raw_pair W z t.coefficients u.coefficients) (raw_pair p z t.coefficients u.coefficients)
      (λ j l. wide-pair p shaped j l z t.coefficients u.coefficients)
      (λ j l. pair_none p shaped j l z t.coefficients u.coefficients) i h))

  same_map : (f g : Term → Term) → ((t : Term) → wide_term (f t) ≡ wide_term (g t)) → (ts : List Term) → map wide_term (map f ts) ≡
      map wide_term (map g ts)
  same_map f g h [] = refl
  same_map f g h (t ∷ ts) = ap₂ ◌∷◌ (h t) (same_map f g h ts)

  same-pairs : (ts : List Term) → map wide_term (pairs W z ts) ≡ map wide_term (pairs p z ts)
  unfolding pairs
  same-pairs [] = refl
  same-pairs (t ∷ ts) =
      ap₂ ◌∷◌ (same-squared t)
      (map-append wide_term (map (paired W z t) ts) (pairs W z ts)
      ∙ ap₂ (λ (x y : List Term). x ++ y) (same_map (paired W z t) (paired p z t) (same-paired t) ts) (same-pairs ts)
      ∙ sym (map-append wide_term (map (paired p z t) ts) (pairs p z ts)))

  pub same-terms : map wide_term (raw W z).terms ≡ map wide_term (raw p z).terms
  unfolding raw
  same-terms =
      map-append wide_term (map (own W z) z.terms) (pairs W z z.terms)
      ∙ ap₂ (λ (x y : List Term). x ++ y) (same_map (own W z) (own p z) same-own z.terms) (same-pairs z.terms)
      ∙ sym (map-append wide_term (map (own p z) z.terms) (pairs p z z.terms))

  pub same-centre : (i : ℕ) → i < 6 → at (raw W z).centre i ≡ at (raw p z).centre i
  unfolding raw
  same-centre i h =
      get_d_tab 6 (raw_centre W z) (pos 0) i h
      ∙ same_number (pos 0) (raw_centre W z) (raw_centre p z) (λ j l. wide-centre p shaped j l z) (λ j l. centre_none p shaped j l z) i h

  -- with what S gains
  pub same-remainder : (gain : ℕ → ℕ) → ((i : ℕ) → p.rows ≤ i → gain i ≡ 0) → (i : ℕ) → i < 6
      → get_or (tab 6 (λ j. remainder W z j + gain j)) i 0 ≡ get_or (tab p.rows (λ j. remainder p z j + gain j)) i 0
  same-remainder gain past i h =
      get_d_tab 6 (λ j. remainder W z j + gain j) 0 i h
      ∙ same_number 0 (λ j. remainder W z j + gain j) (λ j. remainder p z j + gain j)
      (λ j l. ap (◌+ gain j) (wide-remainder p shaped j l z)) (λ j l. ap₂ ◌+◌ (remainder_none p shaped j l z) (past j l)) i h

  same-vectors : (f g : List ℤ → List ℤ) → ((v : List ℤ) (j : ℕ) → j < 6 → at (f v) j ≡ at (g v) j) → (vs : List (List ℤ)) (t j : ℕ) → j < 6
      → at (get_or (map f vs) t []) j ≡ at (get_or (map g vs) t []) j
  same-vectors f g h [] t j l = refl
  same-vectors f g h (v ∷ vs) zero j l = h v j l
  same-vectors f g h (v ∷ vs) (suc t) j l = same-vectors f g h vs t j l

  pub same_generators : wide_vectors (raw W z).generators ≡ wide_vectors (raw p z).generators
  unfolding raw
  same_generators =
      tab_cong 144 _ _ (λ x h. same-vectors (λ g. tab 6 (raw_linear W z g)) (λ g. tab p.rows (raw_linear p z g)) term-at z.generators
      (x / 6) (x % 6) (omega arith))
