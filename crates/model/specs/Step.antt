-- The polynomial step x' = c + Ax + Q(x, x), as Proposition 13 of source document 001 with a coarser and simpler remainder.
use Rattle.std.specs.Prelude.{List, [], ◌∷◌, ◌++◌, map, ℕ, ◌+◌, ◌*◌, ◌/◌, get_or, ℤ, pos, nat_abs, ◌+ℤ◌, ◌*ℤ◌}
use Rattle.whole.specs.Round.{scale, round, inexact}
use Rattle.whole.specs.Sum.{sum_ℕ, upto_ℕ, upto_ℤ}
use Rattle.whole.specs.Tab.{tab}
use Rattle.model.specs.Limits.{max_terms, max_generators}
use Rattle.model.specs.Set.{Term, Zonotope, at, radius, term_sizes, independent_size, plus_ℕ, blank}
use Rattle.model.specs.Finish.{finish}

-- from `columns` coordinates to `rows`: c, then A by rows, then Q by forms and rows, each as one list. A and Q are in 1/4096
pub record Step : Type 0 where
  pub rows : ℕ
  pub columns : ℕ
  pub constant : List ℤ
  pub linear : List ℤ
  pub quadratic : List ℤ

-- A_ij, and Q_ijl
abbrev pub linear_at : Step → ℕ → ℕ → ℤ
linear_at p i j = at p.linear (i * p.columns + j)

abbrev pub quadratic_at : Step → ℕ → ℕ → ℕ → ℤ
quadratic_at p i j l = at p.quadratic ((i * p.columns + j) * p.columns + l)

-- the sum over j < n of a_j·x_j, and over j, l < n of q_jl·u_j·v_l
unfoldable pub dot : ℕ → (ℕ → ℤ) → (ℕ → ℤ) → ℤ
dot n a x = upto_ℤ (λ j. a j *ℤ x j) n

unfoldable pub bilinear : ℕ → (ℕ → ℕ → ℤ) → (ℕ → ℤ) → (ℕ → ℤ) → ℤ
bilinear n q u v = dot n u (λ j. dot n (q j) v)

-- ---- 1. raw numbers
-- an image before rounding, in 1/16,777,216 of a unit in the last place; its remainder is S, by coordinate
pub record RawImage : Type 0 where
  pub dimension : ℕ
  pub identifiers : List ℕ
  pub centre : List ℤ
  pub terms : List Term
  pub generators : List (List ℤ)
  pub remainders : List ℕ

module _ (p : Step) (s : Zonotope) where
  -- A_i·g, and Q_i(g, h)
  abbrev pub along : ℕ → List ℤ → ℤ
  along i g = dot p.columns (linear_at p i) (at g)

  abbrev pub form : ℕ → List ℤ → List ℤ → ℤ
  form i g h = bilinear p.columns (quadratic_at p i) (at g) (at h)

  -- coordinate i of the centre k: 16,777,216·c + 4096·Ak + Q(k, k)
  unfoldable pub raw_centre : ℕ → ℤ
  raw_centre i = pos scale *ℤ at p.constant i +ℤ (pos 4096 *ℤ along i s.centre +ℤ form i s.centre s.centre)

  -- of a term or generator g: 4096·Ag + Q(k, g) + Q(g, k)
  unfoldable pub raw_linear : List ℤ → ℕ → ℤ
  raw_linear g i = pos 4096 *ℤ along i g +ℤ (form i s.centre g +ℤ form i g s.centre)

  -- of a term with itself: Q(g, g); of a pair: Q(g, h) + Q(h, g)
  unfoldable pub raw_square : List ℤ → ℕ → ℤ
  raw_square g i = form i g g

  unfoldable pub raw_pair : List ℤ → List ℤ → ℕ → ℤ
  raw_pair g h i = form i g h +ℤ form i h g

  -- a term keeps its exponents; a pair adds them
  abbrev pub own : Term → Term
  own t = record { exponents = t.exponents; coefficients = tab p.rows (raw_linear t.coefficients) }

  abbrev pub squared : Term → Term
  squared t = record { exponents = plus_ℕ t.exponents t.exponents; coefficients = tab p.rows (raw_square t.coefficients) }

  abbrev pub paired : Term → Term → Term
  paired t u = record {
    exponents = plus_ℕ t.exponents u.exponents;
    coefficients = tab p.rows (raw_pair t.coefficients u.coefficients);
  }

  -- (1,1), (1,2) .. (2,2), (2,3) ..
  unfoldable pub pairs : List Term → List Term
  pairs [] = []
  pairs (t ∷ ts) = squared t ∷ (map (paired t) ts ++ pairs ts)

  -- S, what the independent part contributes to coordinate i, with D the terms' sizes, w the radii, r the generators' sizes and the radii:
  -- the sum over j of |4096·A_j + sum over l of (Q_jl + Q_lj)·k_l|·w_j, plus that over j, l of |Q_jl|·(D_j·r_l + r_j·D_l + r_j·r_l)
  abbrev pub slope : ℕ → ℕ → ℤ
  slope i j = pos 4096 *ℤ linear_at p i j +ℤ upto_ℤ (λ l. (quadratic_at p i j l +ℤ quadratic_at p i l j) *ℤ at s.centre l) p.columns

  unfoldable pub remainder : ℕ → ℕ
  remainder i =
      upto_ℕ (λ j. nat_abs (slope i j) * radius s j) p.columns
      + upto_ℕ (λ j. upto_ℕ (λ l. nat_abs (quadratic_at p i j l)
      * (term_sizes s j * independent_size s l + independent_size s j * term_sizes s l + independent_size s j * independent_size s l))
      p.columns) p.columns

  -- the image in raw units
  unfoldable pub raw : RawImage
  raw = record {
    dimension = p.rows;
    identifiers = s.identifiers;
    centre = tab p.rows raw_centre;
    terms = map own s.terms ++ pairs s.terms;
    generators = map (λ g. tab p.rows (raw_linear g)) s.generators;
    remainders = tab p.rows remainder;
  }

-- ---- 2. each raw number is rounded
-- how many numbers of coordinate i are not rounded exactly
unfoldable pub inexact_at : RawImage → ℕ → ℕ
inexact_at r i =
    inexact (at r.centre i)
    + sum_ℕ (λ t. inexact (at t.coefficients i)) r.terms
    + sum_ℕ (λ g. inexact (at g i)) r.generators

-- what is carried: S rounded up
unfoldable pub carried_at : RawImage → ℕ → ℕ
carried_at r i = (get_or r.remainders i 0 + 16777215) / scale

-- what rounding adds: half of the count rounded up
unfoldable pub rounded_at : RawImage → ℕ → ℕ
rounded_at r i = (inexact_at r i + 1) / 2

unfoldable pub rounded : RawImage → Zonotope
rounded r = record {
  dimension = r.dimension;
  identifiers = r.identifiers;
  centre = map round r.centre;
  terms = map (λ t. record { exponents = t.exponents; coefficients = map round t.coefficients }) r.terms;
  generators = map (map round) r.generators;
  radii = record {
    carried = tab r.dimension (carried_at r);
    rounded = tab r.dimension (rounded_at r);
    folded = blank r.dimension;
    given = blank r.dimension;
  };
}

-- ---- 3. the result is finished
-- what becomes of an image in raw units
abbrev pub settled : List ℕ → RawImage → Zonotope
settled weights r = finish weights max_terms max_generators (rounded r)

unfoldable pub step : List ℕ → Step → Zonotope → Zonotope
step weights p s = settled weights (raw p s)
