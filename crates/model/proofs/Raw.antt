-- The raw numbers of a step: what the raw image comes to is a quadratic function of what the set comes to.
use mathlib.Core.Path.{◌≡◌, sym, ◌∙◌, ap, ap₂}
use mathlib.Core.List.{List, [], ◌∷◌, ◌++◌, map}
use Prim.Native.Nat.{ℕ, ◌<◌}
use lib.IntN.{ℤ, pos}
use Rattle.whole.specs.Round.{scale}
use Rattle.whole.specs.Tab.{tab, get_d_tab}
use Rattle.rational.specs.Rational.{ℚ, ◌+ℚ◌, ◌*ℚ◌, ι}
use Rattle.rational.proofs.Ring.{ring, +ℚ-assoc, zero-*ℚ}
use Rattle.rational.proofs.Pinned.{ι-+, ι-*}
use Rattle.rational.specs.Sum.{sum}
use Rattle.rational.proofs.Sum.{sum_cong}
use Rattle.model.specs.Set.{Term, Zonotope, at}
use Rattle.model.specs.Step.{Step, linear_at, quadratic_at, raw_centre, raw_linear, raw_square, raw_pair, own, paired, pairs, raw}
use Rattle.model.specs.Points.{Vector, monomial, value_at}
use Rattle.model.specs.Motion.{places}
use Rattle.model.proofs.RawUnits.{in_raw_units}
use Rattle.model.proofs.Parts.{Part, term_part, term_parts, generator_parts, spread, spread-++, term_parts-++, monomial-+}
use Rattle.model.proofs.Parts.{terms-spread, generators_spread}
use Rattle.model.proofs.Forms.{bilinear_ℚ, bilinear-linear, both, both-linear, square, quadratic, about, about-linear}
use Rattle.model.proofs.WholeForms.{ι-dot, ι-bilinear}
use Rattle.model.proofs.PartMaps.{through, term_parts-map, generator_parts-map, spread-map, coordinates, spread_cons, linear_nil}
use Rattle.model.proofs.PartMaps.{linear_cons, linear-spread}

-- row i of A and form i of Q
abbrev pub linear_row : Step → ℕ → Vector
linear_row p i j = ι (linear_at p i j)

abbrev pub form_of : Step → ℕ → ℕ → Vector
form_of p i j l = ι (quadratic_at p i j l)

module _ (p : Step) (i : ℕ) where
  -- Q_i(u, v), Q_i(u, v) + Q_i(v, u), 4096·A_i·x + Q_i(x, x), and of that what is linear in u about k
  abbrev pub bilinear_of : Vector → Vector → ℚ
  bilinear_of u v = bilinear_ℚ (places p.columns) (form_of p i) u v

  abbrev both_of : Vector → Vector → ℚ
  both_of u v = both (places p.columns) (form_of p i) u v

  abbrev pub quadratic_of : Vector → ℚ
  quadratic_of x = quadratic (places p.columns) (form_of p i) (ι (pos 4096)) (linear_row p i) x

  abbrev pub about_of : Vector → Vector → ℚ
  about_of k u = about (places p.columns) (form_of p i) (ι (pos 4096)) (linear_row p i) k u

  module _ (s : Zonotope) where
    -- ---- the raw numbers over ℚ
    ι-centre : ι (raw_centre p s i) ≡ ι (pos scale) *ℚ ι (at p.constant i) +ℚ quadratic_of (coordinates s.centre)
    unfolding raw_centre quadratic
    ι-centre = simp (ι-+, ι-*, ι-dot, ι-bilinear)

    ι-linear : (g : List ℤ) → ι (raw_linear p s g i) ≡ about_of (coordinates s.centre) (coordinates g)
    unfolding raw_linear about both
    ι-linear g = simp (ι-+, ι-*, ι-dot, ι-bilinear)

    ι-square : (g : List ℤ) → ι (raw_square p s g i) ≡ bilinear_of (coordinates g) (coordinates g)
    unfolding raw_square
    ι-square g = simp ι-bilinear

    ι-pair : (g h : List ℤ) → ι (raw_pair p s g h i) ≡ both_of (coordinates g) (coordinates h)
    unfolding raw_pair both
    ι-pair g h = simp (ι-+, ι-bilinear)

    module _ (below : i < p.rows) where
      at_row : (f : ℕ → ℤ) → ι (at (tab p.rows f) i) ≡ ι (f i)
      at_row f = ap ι (get_d_tab p.rows f (pos 0) i below)

      -- terms and generators alike
      abbrev raised : List ℤ → List ℤ
      raised g = tab p.rows (raw_linear p s g)

      linear-parts : (ps : List Part) → spread (map (through raised) ps) i ≡ about_of (coordinates s.centre) (spread ps)
      linear-parts ps =
          spread-map raised ps i
          ∙ sum_cong _ _ ps (λ a. ap (◌*ℚ a.times) (at_row (raw_linear p s a.vector) ∙ ι-linear a.vector))
          ∙ sym (linear-spread (about-linear (places p.columns) (form_of p i) (ι (pos 4096)) (linear_row p i) (coordinates s.centre))
          ps)

      module _ (α : Vector) where
        abbrev monomial_of : Term → ℚ
        monomial_of t = monomial α s.identifiers t.exponents

        abbrev terms_of : List Term → List Part
        terms_of ts = term_parts α s.identifiers ts

        -- a term with each of a list
        cross-parts : (t : Term) (ts : List Term)
            → spread (terms_of (map (paired p s t) ts)) i ≡ both_of (coordinates t.coefficients) (spread (terms_of ts)) *ℚ monomial_of t
        unfolding term_parts spread sum
        cross-parts t [] =
            sym (ap (◌*ℚ monomial_of t) (linear_nil (both-linear (places p.columns) (form_of p i) (coordinates t.coefficients)))
            ∙ zero-*ℚ (monomial_of t))
        cross-parts t (u ∷ ts) =
            ap₂ ◌+ℚ◌ (ap₂ ◌*ℚ◌ (at_row (raw_pair p s t.coefficients u.coefficients) ∙ ι-pair t.coefficients u.coefficients)
            (monomial-+ α s.identifiers t.exponents u.exponents)) (cross-parts t ts)
            ∙ regroup _ (monomial_of t) (monomial_of u) _
            ∙ ap (◌*ℚ monomial_of t) (sym (linear_cons (both-linear (places p.columns) (form_of p i) (coordinates t.coefficients))
            (term_part α s.identifiers u) (terms_of ts)))
          where
            regroup : (a m n b : ℚ) → a *ℚ (m *ℚ n) +ℚ b *ℚ m ≡ (a *ℚ n +ℚ b) *ℚ m
            regroup a m n b = simp ring

        -- each term with itself, and each pair of terms once
        pair_parts : (ts : List Term) → spread (terms_of (pairs p s ts)) i ≡ bilinear_of (spread (terms_of ts)) (spread (terms_of ts))
        unfolding pairs term_parts spread sum
        pair_parts [] = sym (linear_nil (bilinear-linear (places p.columns) (form_of p i) (spread [])))
        pair_parts (t ∷ ts) =
            ap₂ ◌+ℚ◌ (ap₂ ◌*ℚ◌ (at_row (raw_square p s t.coefficients) ∙ ι-square t.coefficients)
            (monomial-+ α s.identifiers t.exponents t.exponents))
            (ap (λ l. spread l i) (term_parts-++ α s.identifiers (map (paired p s t) ts) (pairs p s ts))
            ∙ spread-++ (terms_of (map (paired p s t) ts)) (terms_of (pairs p s ts)) i ∙ ap₂ ◌+ℚ◌ (cross-parts t ts) (pair_parts ts))
            ∙ sym (+ℚ-assoc _ _ _)
            ∙ sym (ap (λ v. bilinear_of v v) (spread_cons (term_part α s.identifiers t) (terms_of ts))
            ∙ square (places p.columns) (form_of p i) (coordinates t.coefficients) (monomial_of t) (spread (terms_of ts)))

        -- the value of the raw image, by what the set's terms and its generators come to
        pub raw-value : (bs : List ℚ)
            → let K = coordinates s.centre in let T = spread (terms_of s.terms) in
            let G = spread (generator_parts s.generators bs) in
            value_at (in_raw_units (raw p s)) α bs i
            ≡ ι (pos scale) *ℚ ι (at p.constant i) +ℚ quadratic_of K +ℚ (about_of K T +ℚ bilinear_of T T) +ℚ about_of K G
        unfolding value_at raw
        raw-value bs =
            ap₂ ◌+ℚ◌ (ap₂ ◌+ℚ◌ (at_row (raw_centre p s) ∙ ι-centre)
            (terms-spread α s.identifiers (map (own p s) s.terms ++ pairs p s s.terms) i
            ∙ ap (λ l. spread l i) (term_parts-++ α s.identifiers (map (own p s) s.terms) (pairs p s s.terms))
            ∙ spread-++ (terms_of (map (own p s) s.terms)) (terms_of (pairs p s s.terms)) i
            ∙ ap₂ ◌+ℚ◌ (ap (λ l. spread l i) (term_parts-map raised α s.identifiers s.terms) ∙ linear-parts (terms_of s.terms))
            (pair_parts s.terms)))
            (generators_spread (map raised s.generators) bs i
            ∙ ap (λ l. spread l i) (generator_parts-map raised s.generators bs) ∙ linear-parts (generator_parts s.generators bs))
