-- Laws of the body of a set: positions in it, and the record that is filled from it.
use Rattle.std.specs.Prelude.{◌≡◌, refl, List, [], map, ℕ, zero, suc, ◌+◌, ◌*◌, ◌/◌, ◌%◌, ◌<◌, ◌≤◌, replicate, ℤ, nat_abs}
use Rattle.std.proofs.Common.{sym, ◌∙◌}
use Rattle.std.proofs.Math.Path.{ap}
use native.Mathlib.Omega.{arith}
use Rattle.std.proofs.Math.ListN.{get_or}
use Rattle.whole.specs.Tab.{tab, length-tab, tab_cong}
use Rattle.model.specs.Set.{Term, at, blank}
use Rattle.model.specs.Bytes.{byte, number, words}
use Rattle.model.proofs.Radii.{blank-at}
use Rattle.zonotope.specs.declared.PolyZonotope.{PolyZonotope}
use Rattle.zonotope.specs.Record.{firsts, pack, no_term}
use Rattle.bodies.specs.declared.counts.SetCounts.{SetCounts}
use Rattle.bodies.specs.Rows.{row_below}
use Rattle.bodies.specs.Set.{SetLaid, set_of}
use Rattle.bodies.specs.Set.{centre_from, terms_from, term_bytes, generators_from, radii_from}

-- ---- positions
pub exponents-within : (k : SetCounts) (body : ℕ) → SetLaid k body → (t : ℕ) → t < k.terms → terms_from k + t * term_bytes k + k.factors ≤ body
exponents-within k body h t l = omega (arith, row_below (term_bytes k) t k.terms l, h.long)

-- ---- the record
-- a part of an entry of a table is the entry of a table of parts
part_of : {A B : Type 0} (g : A → B) (n : ℕ) (f : ℕ → A) (d : A) (i : ℕ) → get_or (tab n (λ t. g (f t))) i (g d) ≡ g (get_or (tab n f) i d)
unfolding tab
part_of g zero f d i = refl
part_of g (suc n) f d zero = refl
part_of g (suc n) f d (suc i) = part_of g n (λ t. f (suc t)) d i

-- a part of the radii that is 0 for each coordinate
six-zeros : replicate {A = ℕ} 6 0 ≡ tab 6 (λ i. 0)
unfolding tab
six-zeros = refl

no_part : (n : ℕ) → replicate {A = ℕ} 6 0 ≡ firsts 6 (blank n)
no_part n = six-zeros ∙ tab_cong 6 _ _ (λ i l. sym (blank-at n i))

module _ (b : List ℕ) (k : SetCounts) where
  -- the rows of the body, by their positions
  abbrev pub exponent_rows : List (List ℕ)
  exponent_rows = tab k.terms (λ t. tab k.factors (λ j. byte b (terms_from k + t * term_bytes k + j)))

  abbrev pub coefficient_rows : List (List ℤ)
  coefficient_rows = tab k.terms (λ t. words b (terms_from k + k.factors + t * term_bytes k) k.dimension)

  abbrev pub generator_rows : List (List ℤ)
  generator_rows = tab k.generators (λ g. words b (generators_from k + g * (4 * k.dimension)) k.dimension)

  abbrev term_of : ℕ → Term
  term_of t = record {
    exponents = tab k.factors (λ j. byte b (terms_from k + t * term_bytes k + j));
    coefficients = words b (terms_from k + t * term_bytes k + k.factors) k.dimension;
  }

  -- the arrays of the record of a body's set
  pub packed : {ids : List ℕ} {c : List ℤ} {e : List ℕ} {g v : List ℤ} {r : List ℕ}
      → ids ≡ tab 12 (λ i. get_or (tab k.factors (λ j. number 4 b (4 + 4 * j))) i 0)
      → c ≡ tab 6 (at (words b (centre_from k) k.dimension))
      → e ≡ tab 480 (λ x. get_or (get_or exponent_rows (x / 12) []) (x % 12) 0)
      → g ≡ tab 240 (λ x. at (get_or coefficient_rows (x / 6) []) (x % 6))
      → v ≡ tab 144 (λ x. at (get_or generator_rows (x / 6) []) (x % 6))
      → r ≡ tab 6 (λ j. get_or (map nat_abs (words b (radii_from k) k.dimension)) j 0)
      → ◌≡◌ {A = PolyZonotope} (record {
        dimension = k.dimension;
        factors = k.factors;
        terms = k.terms;
        generators = k.generators;
        identifiers = ids;
        centre = c;
        exponents = e;
        coefficients = g;
        vectors = v;
        radii = record { carried = replicate 6 0; rounded = replicate 6 0; folded = replicate 6 0; given = r };
      }) (pack (set_of b k))
  unfolding pack
  packed e₁ e₂ e₃ e₄ e₅ e₆ = rw (
    e₁,
    e₂,
    e₃ ∙ tab_cong 480 _ _ (λ x l. ap (λ u. get_or u (x % 12) 0) (part_of (λ t. t.exponents) k.terms term_of no_term (x / 12))),
    e₄
        ∙ tab_cong 240 _ _ (λ x l. ap (λ u. at u (x % 6))
        (ap (λ u. get_or u (x / 6) []) (tab_cong k.terms _ _ (λ t m. ap (λ i. words b i k.dimension) (moved t)))
        ∙ part_of (λ t. t.coefficients) k.terms term_of no_term (x / 6))),
    e₅,
    e₆,
    no_part k.dimension,
    length-tab k.factors (λ i. number 4 b (4 + 4 * i)),
    length-tab k.terms term_of,
    length-tab k.generators (λ g. words b (generators_from k + g * (4 * k.dimension)) k.dimension),
  )
    where
      moved : (t : ℕ) → terms_from k + k.factors + t * term_bytes k ≡ terms_from k + t * term_bytes k + k.factors
      moved t = omega arith
