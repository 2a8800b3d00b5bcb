-- The rows, the centre and the radii that are written for two examined records are those of the model's sum.
use Rattle.std.specs.Prelude.{◌≡◌, refl, ℕ, ◌+◌, ◌*◌, ◌<◌, ◌≤◌, length, get_or, ℤ, pos, nat_abs, ◌*ℤ◌}
use Rattle.std.proofs.Math.Path.{sym, ap₂}
use Rattle.std.proofs.Common.{◌∙◌, ap, subst, arith}
use mathlib.Core.List.{List, ◌++◌, map, map-append}
use Rattle.std.proofs.Math.IntN.{◌+ℤ◌}
use Rattle.whole.specs.Tab.{tab, tab_cong, map-tab, length-tab}
use Rattle.whole.specs.Ring.{one-*ℤ}
use Rattle.whole.specs.Size.{abs_add}
use Rattle.model.specs.Limits.{max_span}
use Rattle.model.specs.Set.{Term, Zonotope, at, radius, plus_ℕ}
use Rattle.model.proofs.Radii.{radius-plus}
use Rattle.model.specs.Operations.{union, align, aligned, joined, renumbered}
use Rattle.model.proofs.Vectors.{plus_ℤ-at, plus_ℕ-at}
use Rattle.zonotope.specs.declared.PolyZonotope.{PolyZonotope}
use Rattle.arrays.specs.Rows.{row}
use Rattle.zonotope.specs.Record.{wide_parts_of, firsts, first_parts, view}
use Rattle.rows.specs.Rows.{exponent_row, number_row, term_of, rows_of, Small}
use Rattle.align.specs.declared.Identifiers.{Identifiers}
use Rattle.align.specs.declared.Sum.{Sum}
use Rattle.align.specs.Listed.{listed}
use Rattle.align.specs.Align.{aligned_at}
use Rattle.align.specs.Runs.{flat, flat-at, tab-++, twice, row_first, row-second, after_both}
use Rattle.align.specs.Examined.{Examined, counts, term_row, generator_row, terms-held, generators_held, centre-wide}
use Rattle.align.specs.Examined.{centre_small, radii-wide, radii_small}
use Rattle.align.specs.Radii.{added_parts, added_radii}
use Rattle.align.specs.Numbers.{numbers, numbers-first, numbers-second, numbers_small, numbers-kept}
use Rattle.align.specs.Sum.{wide_vector, wide_term, named, summed, exponents_of, Factors, Common, Terms, Generators, Joined}

-- ---- the terms of a set, written for the factors ms
aligned_term : List ℕ → List ℕ → Term → Term
aligned_term ks ms t = record { exponents = align ks t.exponents ms; coefficients = t.coefficients }

aligned-wide : (ms : List ℕ) (s : Zonotope) (h : ℕ) (f : ℕ → Term) → s.terms ≡ tab h f
    → map wide_term (aligned ms s) ≡ tab h (λ t. wide_term (aligned_term s.identifiers ms (f t)))
unfolding aligned_term
aligned-wide ms s h f e =
    let g : Term → Term = aligned_term s.identifiers ms in
    ap (λ l. map wide_term (map g l)) e ∙ ap (map wide_term) (map-tab g h f) ∙ map-tab wide_term h (λ t. g (f t))

-- row r of two lists, as a term
wide_row : (ms : List ℕ) (all : Identifiers) → listed all.count all.numbers ≡ ms
    → (E : List ℕ) (C : List ℤ) (r t p : ℕ) (es ks : List ℕ) (v : List ℤ)
    → exponent_row E r ≡ tab 12 (aligned_at es p ks all.count all.numbers t) → number_row C r ≡ wide_vector v
    → term_of E C r r ≡ wide_term (aligned_term (listed p ks) ms (record { exponents = row 12 0 es t p; coefficients = v }))
unfolding aligned_term
wide_row ms all o E C r t p es ks v q w =
    ap₂ (λ (k : List ℕ) (l : List ℤ). record { exponents = k; coefficients = l })
    (q ∙ ap (λ ms. tab 12 (λ k. get_or (align (listed p ks) (row 12 0 es t p) ms) k 0)) o) w

-- ---- the sum of two records
module _ (a b : PolyZonotope) (x : Examined a) (y : Examined b) where
  -- the terms
  module _ (ids : List ℕ) (all : Identifiers) (o : Common (summed a b ids) all) (e₀ : List ℕ) (c₀ : List ℤ) (e-long : 960 ≤ length e₀)
      (c-long : 480 ≤ length c₀) (z : Small max_span c₀) where
    abbrev xs : ℕ → ℕ → ℕ
    xs = exponents_of a a.identifiers all

    abbrev ys : ℕ → ℕ → ℕ
    ys = exponents_of b ids all

    abbrev exponents : List ℕ
    exponents = twice e₀ (flat 12 xs) (a.terms * 12) (flat 12 ys) (b.terms * 12)

    abbrev coefficients : List ℤ
    coefficients = numbers c₀ a.coefficients a.terms b.coefficients b.terms

    e_fits : a.terms * 12 + b.terms * 12 ≤ length e₀
    e_fits = omega (arith, (counts a x).terms_few, (counts b y).terms_few)

    c_fits : a.terms * 6 + b.terms * 6 ≤ length c₀
    c_fits = omega (arith, (counts a x).terms_few, (counts b y).terms_few)

    terms-joined : rows_of exponents coefficients (a.terms + b.terms) ≡ map wide_term (summed a b ids).terms
    unfolding rows_of joined view
    terms-joined =
        let ms = union (listed a.factors a.identifiers) (listed b.factors ids) in
        tab-++ a.terms b.terms (λ k. term_of exponents coefficients k k)
        ∙ ap₂ ◌++◌
        (tab_cong a.terms _ _ (λ t l.
        wide_row ms all o.identifiers exponents coefficients t t a.factors a.exponents a.identifiers (term_row a t)
        (row_first 12 0 e₀ (flat 12 xs) (flat 12 ys) a.terms b.terms xs ys e_fits (λ t j l m. flat-at xs t j m) t l)
        (numbers-first c₀ (terms-held a x) (terms-held b y) c_fits t l)))
        (tab_cong b.terms _ _ (λ t l.
        wide_row ms all o.identifiers exponents coefficients (a.terms + t) t b.factors b.exponents ids (term_row b t)
        (row-second 12 0 e₀ (flat 12 xs) (flat 12 ys) a.terms b.terms xs ys e_fits (λ t j l m. flat-at ys t j m) t l)
        (numbers-second c₀ (terms-held a x) (terms-held b y) c_fits t l)))
        ∙ sym (map-append wide_term (aligned ms (view a)) (aligned ms (named (listed b.factors ids) (view b)))
        ∙ ap₂ ◌++◌ (aligned-wide ms (view a) a.terms _ refl)
        (aligned-wide ms (named (listed b.factors ids) (view b)) b.terms _ refl))

    pub joins_terms : (e : List ℕ) (c : List ℤ) → e ≡ exponents → c ≡ coefficients
        → Terms (summed a b ids) e₀ e c₀ c (a.terms + b.terms)
    joins_terms e c p q = record {
      rows = ap₂ (λ k l. rows_of k l (a.terms + b.terms)) p q ∙ terms-joined;
      few = omega (arith, (counts a x).terms_few, (counts b y).terms_few);
      small = subst (Small max_span) (sym q) (numbers_small c₀ (terms-held a x) (terms-held b y) c_fits z);
      exponents-kept = λ k l.
          ap (λ w. get_or w k 0) p ∙ after_both e₀ (flat 12 xs) (flat 12 ys) 0 (a.terms * 12) (b.terms * 12) k (omega arith);
      numbers-kept = λ k l. ap (λ w. get_or w k (pos 0)) q ∙ numbers-kept c₀ (terms-held a x) (terms-held b y) c_fits k l;
    }

  -- the generators
  module _ (g₀ : List ℤ) (g-long : 288 ≤ length g₀) (z : Small max_span g₀) where
    abbrev vectors : List ℤ
    vectors = numbers g₀ a.vectors a.generators b.vectors b.generators

    g_fits : a.generators * 6 + b.generators * 6 ≤ length g₀
    g_fits = omega (arith, (counts a x).generators_few, (counts b y).generators_few)

    generators_joined : (ids : List ℕ)
        → tab (a.generators + b.generators) (number_row vectors) ≡ map wide_vector (summed a b ids).generators
    unfolding joined view
    generators_joined ids =
        tab-++ a.generators b.generators (number_row vectors)
        ∙ ap₂ ◌++◌ (tab_cong a.generators _ _ (numbers-first g₀ (generators_held a x) (generators_held b y) g_fits))
        (tab_cong b.generators _ _ (numbers-second g₀ (generators_held a x) (generators_held b y) g_fits))
        ∙ sym (map-append wide_vector (tab a.generators (generator_row a)) (tab b.generators (generator_row b))
        ∙ ap₂ ◌++◌ (map-tab wide_vector a.generators (generator_row a)) (map-tab wide_vector b.generators (generator_row b)))

    pub joins_generators : (ids : List ℕ) (g : List ℤ) → g ≡ vectors → Generators (summed a b ids) g₀ g (a.generators + b.generators)
    joins_generators ids g q = record {
      rows = ap (λ l. tab (a.generators + b.generators) (number_row l)) q ∙ generators_joined ids;
      few = omega (arith, (counts a x).generators_few, (counts b y).generators_few);
      small = subst (Small max_span) (sym q) (numbers_small g₀ (generators_held a x) (generators_held b y) g_fits z);
      kept = λ k l. ap (λ w. get_or w k (pos 0)) q ∙ numbers-kept g₀ (generators_held a x) (generators_held b y) g_fits k l;
    }

  -- centre and radii
  module _ (ids : List ℕ) where
    pub joins_centre : tab 6 (λ i. get_or a.centre i (pos 0) +ℤ pos 1 *ℤ get_or b.centre i (pos 0)) ≡ wide_vector (summed a b ids).centre
    unfolding joined
    joins_centre = tab_cong 6 _ _ (λ i l. ap₂ ◌+ℤ◌ (centre-wide a x i l) (one-*ℤ (get_or b.centre i (pos 0)) ∙ centre-wide b y i l)
        ∙ sym (plus_ℤ-at (view a).centre (view b).centre i))

    -- a part of both, added
    parts_add : (p q p' q' : List ℕ) → ((i : ℕ) → i < 6 → get_or p i 0 ≡ get_or p' i 0) → ((i : ℕ) → i < 6 → get_or q i 0 ≡ get_or q' i 0)
        → added_parts p q ≡ firsts 6 (plus_ℕ p' q')
    parts_add p q p' q' d e = tab_cong 6 _ _ (λ i l. ap₂ ◌+◌ (d i l) (e i l) ∙ sym (plus_ℕ-at p' q' i))

    pub joins_radii : wide_parts_of (added_radii a.radii b.radii) ≡ first_parts 6 (summed a b ids).radii
    unfolding joined
    joins_radii =
        let v = radii-wide a x in
        let w = radii-wide b y in
        λ i. record {
          carried = parts_add a.radii.carried b.radii.carried (view a).radii.carried (view b).radii.carried v.carried
              w.carried i;
          rounded = parts_add a.radii.rounded b.radii.rounded (view a).radii.rounded (view b).radii.rounded v.rounded
              w.rounded i;
          folded = parts_add a.radii.folded b.radii.folded (view a).radii.folded (view b).radii.folded v.folded
              w.folded i;
          given = parts_add a.radii.given b.radii.given (view a).radii.given (view b).radii.given v.given w.given i;
        }

    pub joins_centre_small : (i : ℕ) → nat_abs (at (summed a b ids).centre i) ≤ 2 * max_span
    unfolding joined
    joins_centre_small i = rw (plus_ℤ-at (view a).centre (view b).centre i)
        (omega (arith, abs_add (at (view a).centre i) (at (view b).centre i), centre_small a x i, centre_small b y i))

    pub joins_radii_small : (i : ℕ) → radius (summed a b ids) i ≤ 2 * max_span
    unfolding joined
    joins_radii_small i = omega (arith, radius-plus (view a).radii (view b).radii i, radii_small a x i, radii_small b y i)

-- ---- which sum it is
-- what is promised of a sum is promised of an equal one
pub common_of : {m n : Zonotope} {all : Identifiers} → m ≡ n → Common n all → Common m all
common_of {all = all} e o = subst (λ m. Common m all) (sym e) o

pub joined_of : {m n : Zonotope} {all : Identifiers} {s : Sum} {e₀ e : List ℕ} {c₀ c g₀ g : List ℤ} → m ≡ n
    → Joined m all s e₀ e c₀ c g₀ g → Joined n all s e₀ e c₀ c g₀ g
joined_of {all = all} {s = s} {e₀ = e₀} {e = e} {c₀ = c₀} {c = c} {g₀ = g₀} {g = g} q j = subst (λ m. Joined m all s e₀ e c₀ c g₀ g) q j

-- with its own identifiers, the second set's factors are shared
pub tied-sum : (a b : PolyZonotope) → summed a b b.identifiers ≡ joined (view a) (view b)
unfolding view
tied-sum a b = refl

-- with the identifiers next, next + 1 .. they are its own
pub independent-sum : (a b : PolyZonotope) (next : ℕ) (ids : List ℕ) → listed b.factors ids ≡ tab b.factors (λ j. next + j)
    → summed a b ids ≡ joined (view a) (renumbered next (view b))
unfolding renumbered view
independent-sum a b next ids e =
    ap (λ ks. joined (view a) (named ks (view b)))
    (e ∙ ap (λ n. tab n (λ j. next + j)) (sym (length-tab b.factors (λ i. get_or b.identifiers i 0))))

-- the identifiers of either
pub factors_of : (a b : PolyZonotope) (ids : List ℕ) {m : Zonotope} (all : Identifiers) → summed a b ids ≡ m
    → listed all.count all.numbers ≡ union (listed a.factors a.identifiers) (listed b.factors ids) → Factors m all
unfolding joined view
factors_of a b ids {m} all q e =
    let k : listed all.count all.numbers ≡ m.identifiers = e ∙ ap (λ (n : Zonotope). n.identifiers) q in
    record { identifiers = k; number = sym (length-tab all.count (λ i. get_or all.numbers i 0)) ∙ ap length k }
