-- The blend of two accepted records before rounding, in rows: those of the definition, in wide form.
use Rattle.std.specs.Prelude.{◌≡◌, get_or, take, drop, replicate, ℤ, pos, ◌+ℤ◌, ◌*ℤ◌}
use Rattle.std.proofs.Math.Path.{refl, sym, ap, ap₂}
use Rattle.std.proofs.Common.{subst, ◌∙◌, arith, take_at, drop_at}
use mathlib.Core.List.{List, [], ◌∷◌, ◌++◌, map, map-append}
use Prim.Native.Nat.{ℕ, ◌+◌, ◌*◌, ◌<◌, ◌≤◌}
use Rattle.std.proofs.Math.ListN.{length, length-map, length-append}
use Rattle.std.proofs.lemmas.List.{length-replicate}
use Rattle.std.proofs.Math.IntN.{neg_ℤ}
use Rattle.whole.specs.Ring.{one-*ℤ, neg_ℤ-*ℤ}
use Rattle.whole.specs.Size.{abs_add, abs_neg}
use Rattle.whole.specs.Write.{write, write-all}
use Rattle.whole.specs.Tab.{tab, tab_cong, length-tab, get_d_tab}
use Rattle.rational.specs.Sum.{All, none, more}
use Rattle.model.specs.Set.{Term, Zonotope, at}
use Rattle.model.specs.Operations.{union, align, aligned, joined}
use Rattle.model.specs.Hull.{halved, blend, opposite, blended}
use Rattle.model.proofs.Vectors.{plus_ℤ-at, at_map}
use Rattle.model.proofs.SumShape.{align-length}
use Rattle.zonotope.specs.declared.PolyZonotope.{PolyZonotope}
use Rattle.zonotope.specs.Record.{view}
use Rattle.rows.specs.Rows.{term_of, rows_of, Small}
use Rattle.fold.specs.Marks.{same_at}
use Rattle.forms.specs.Tables.{tab_small}
use Rattle.raw.specs.Append.{term-same}
use Rattle.align.specs.declared.Identifiers.{Identifiers}
use Rattle.align.specs.Runs.{tab-++}
use Rattle.align.specs.Examined.{Examined, counts, centre-wide, centre_small}
use Rattle.align.specs.Sum.{Common, Terms}
use Rattle.finish.specs.Wide.{wide_term, wide_vector}
use Rattle.hulling.specs.WideTerms.{half, turned, half_at}
use Rattle.hulling.specs.Blending.{times_at, exponent_runs, number_runs, blend-rows}
use Rattle.hulling.specs.Sizes.{blend_limit}

-- f and w hold, in their first rows, the terms of the blend of s and u, of which s has `own` terms and u `rest`; `centre` is its centre
pub record Blended (s u : Zonotope) (own rest : ℕ) (f : List ℕ) (w centre : List ℤ) : Type 0 where
  pub few : own + rest ≤ 80
  pub terms : (next : ℕ) → rows_of f w (1 + ((own + rest) + (own + rest))) ≡ map wide_term (blended next s u).terms
  pub centre_is : (next : ℕ) → centre ≡ wide_vector (blended next s u).centre
  pub numbers_small : Small blend_limit w
  pub centre_small : Small blend_limit centre

-- ---- the terms of both
-- rows of both one after the other, taken apart
split_rows : (own rest : ℕ) (x : ℕ → Term) (A B : List Term) → length A ≡ own → tab (own + rest) x ≡ map wide_term (A ++ B)
    → (tab own x ≡ map wide_term A) × (tab rest (λ t. x (own + t)) ≡ map wide_term B)
split_rows own rest x A B l e =
    let y : ℕ → Term = λ t. x (own + t) in
    let both : tab own x ++ tab rest y ≡ map wide_term A ++ map wide_term B = sym (tab-++ own rest x) ∙ e ∙ map-append wide_term A B in
    let first-long = length-tab own x in
    let A-long = length-map A wide_term ∙ l in (
      sym (take_at _ (tab rest y) own first-long) ∙ ap (take own) both ∙ take_at _ (map wide_term B) own A-long,
      sym (drop_at (tab own x) _ own first-long) ∙ ap (drop own) both ∙ drop_at (map wide_term A) _ own A-long,
    )

-- a term of s over the factors ms
abbrev aligned_to : List ℕ → Zonotope → Term → Term
aligned_to ms s t = record { exponents = align s.identifiers t.exponents ms; coefficients = t.coefficients }

aligned-long : (ms : List ℕ) (s : Zonotope) → All (λ t. length t.exponents ≡ length ms) (aligned ms s)
aligned-long ms s = every s.terms
  where
    every : (ts : List Term) → All (λ (t : Term). length t.exponents ≡ length ms) (map (aligned_to ms s) ts)
    every [] = none
    every (t ∷ ts) = more (align-length s.identifiers t.exponents ms) (every ts)

aligned-opposite : (ms : List ℕ) (u : Zonotope) → aligned ms (opposite u) ≡ map turned (aligned ms u)
unfolding opposite
aligned-opposite ms u = every u.terms
  where
    every : (ts : List Term) → map (aligned_to ms u) (map turned ts) ≡ map turned (map (aligned_to ms u) ts)
    every [] = refl
    every (t ∷ ts) = ap (turned (aligned_to ms u t) ∷◌) (every ts)

-- ---- the difference of the centres
abbrev pub difference_from : List ℤ → List ℤ → List ℤ
difference_from p q = tab 6 (λ i. get_or p i (pos 0) +ℤ neg_ℤ (pos 1) *ℤ get_or q i (pos 0))

minus : (x : ℤ) → neg_ℤ (pos 1) *ℤ x ≡ neg_ℤ x
minus x = neg_ℤ-*ℤ (pos 1) x ∙ ap neg_ℤ (one-*ℤ x)

module _ (a b : PolyZonotope) (x : Examined a) (y : Examined b) where
  abbrev s : Zonotope
  s = view a

  abbrev u : Zonotope
  u = view b

  -- it is the centre of the difference
  difference_at : (i : ℕ) → i < 6
      → get_or a.centre i (pos 0) +ℤ neg_ℤ (pos 1) *ℤ get_or b.centre i (pos 0) ≡ at s.centre i +ℤ neg_ℤ (at u.centre i)
  difference_at i l = ap₂ ◌+ℤ◌ (centre-wide a x i l) (minus (get_or b.centre i (pos 0)) ∙ ap neg_ℤ (centre-wide b y i l))

  difference_wide : difference_from a.centre b.centre ≡ wide_vector (joined s (opposite u)).centre
  unfolding joined opposite
  difference_wide = tab_cong 6 _ _ (λ i l.
      difference_at i l
      ∙ ap (at s.centre i +ℤ◌) (sym (at_map neg_ℤ refl u.centre i))
      ∙ sym (plus_ℤ-at s.centre (map neg_ℤ u.centre) i))

  pub difference_small : Small 2097152 (difference_from a.centre b.centre)
  difference_small = tab_small 2097152 6 _ (λ i l.
      rw (difference_at i l)
      (omega (
        arith,
        abs_add (at s.centre i) (neg_ℤ (at u.centre i)),
        abs_neg (at u.centre i),
        centre_small a x i,
        centre_small b y i,
      )))

  -- ---- all rows
  module _ (all : Identifiers) (o : Common (joined s u) all) {e₀ e : List ℕ} {c₀ c : List ℤ} {r : ℕ}
      (t : Terms (joined s u) e₀ e c₀ c r) (f₀ : List ℕ) (w₀ d : List ℤ) (le : 1932 ≤ length f₀) (lw : 966 ≤ length w₀)
      (ed : d ≡ difference_from a.centre b.centre) where
    abbrev ms : List ℕ
    ms = union s.identifiers u.identifiers

    abbrev f : List ℕ
    f = exponent_runs (replicate 12 0) e f₀ all.count (a.terms + b.terms)

    abbrev w : List ℤ
    w = number_runs d c w₀ a.terms b.terms

    -- the term of the blending factor alone, but for that factor
    abbrev apart : Term
    apart = record { exponents = replicate (length ms) 0; coefficients = (joined s (opposite u)).centre }

    first-many : length (aligned ms s) ≡ a.terms
    unfolding view
    first-many = length-map s.terms _ ∙ length-tab a.terms _

    second-many : length (aligned ms u) ≡ b.terms
    unfolding view
    second-many = length-map u.terms _ ∙ length-tab b.terms _

    factors_are : length ms ≡ all.count
    unfolding joined
    factors_are = sym (ap length o.identifiers) ∙ length-tab all.count _

    rows-many : r ≡ a.terms + b.terms
    unfolding rows_of joined
    rows-many =
        sym (length-tab r _) ∙ ap length t.rows ∙ length-map (joined s u).terms wide_term
        ∙ length-append (aligned ms s) (aligned ms u) ∙ ap₂ ◌+◌ first-many second-many

    parts : (tab a.terms (λ k. term_of e c k k) ≡ map wide_term (aligned ms s))
        × (tab b.terms (λ k. term_of e c (a.terms + k) (a.terms + k)) ≡ map wide_term (aligned ms u))
    unfolding rows_of joined
    parts =
        split_rows a.terms b.terms (λ k. term_of e c k k) (aligned ms s) (aligned ms u) first-many
        (ap (λ (n : ℕ). tab n (λ k. term_of e c k k)) (sym rows-many) ∙ t.rows)

    alone : term_of (replicate 12 0) d 0 0 ≡ wide_term apart
    alone = term-same
        (tab_cong 12 _ _ (λ k l. same_at 0 12 (0 * 12 + k) ∙ sym (same_at 0 (length ms) k)))
        (tab_cong 6 _ _ (λ j l.
        let i : 0 * 6 + j ≡ j = omega arith in
        ap₂ at (ed ∙ difference_wide) i ∙ get_d_tab 6 (at apart.coefficients) (pos 0) j l))

    long_in : (v : Zonotope) → All (λ (t : Term). length t.exponents ≡ all.count) (aligned ms v)
    long_in v = subst (λ (n : ℕ). All (λ (t : Term). length t.exponents ≡ n) (aligned ms v)) factors_are (aligned-long ms v)

    pub blended-rows : (next : ℕ)
        → rows_of f w (1 + ((a.terms + b.terms) + (a.terms + b.terms))) ≡ map wide_term (blended next s u).terms
    unfolding blended joined opposite
    blended-rows next =
        blend-rows (replicate 12 0) e f₀ d c w₀ all.count a.terms b.terms le lw
        (omega (arith, (counts a x).terms_few, (counts b y).terms_few)) apart (aligned ms s) (aligned ms u) alone parts.0 parts.1
        (length-replicate {A = ℕ} (length ms) 0 ∙ factors_are) (long_in s) (long_in u)
        ∙ ap (λ (ts : List Term). map wide_term (blend 1 apart
        ∷ (map (blend 0) (aligned ms s ++ aligned ms u) ++ map (blend 1) (aligned ms s ++ ts)))) (sym (aligned-opposite ms u))

-- ---- the centre
pub halved-wide : (v : List ℤ) → write (replicate 6 (pos 0)) (0 * 6) (times_at half (wide_vector v) 0) (1 * 6) ≡ wide_vector (halved v)
halved-wide v =
    write-all (replicate 6 (pos 0)) (times_at half (wide_vector v) 0) (pos 0) 6 refl
    ∙ tab_cong 6 _ _ (λ i l.
    let e : 0 * 6 + i ≡ i = omega arith in
    ap (half *ℤ◌) (ap (at (wide_vector v)) e ∙ get_d_tab 6 (at v) (pos 0) i l) ∙ sym (half_at v i))

pub blended-centre : (next : ℕ) (s u : Zonotope) → (blended next s u).centre ≡ halved (joined s u).centre
unfolding blended
blended-centre next s u = refl
