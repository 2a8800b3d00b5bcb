-- The ranged step: a step whose entries of A and Q are known within half-widths. With half-widths of 0 it is the step (`ZeroWidths` in
-- Precision.antt).
use Rattle.std.specs.Prelude.{List, ℕ, ◌+◌, ◌*◌, get_or}
use Rattle.whole.specs.Sum.{upto_ℕ}
use Rattle.whole.specs.Tab.{tab}
use Rattle.model.specs.Set.{Zonotope, span}
use Rattle.model.specs.Step.{Step, RawImage, remainder, raw, settled}

-- beside a step: the half-widths of A's entries by rows, then of Q's by forms and rows, each as one list, in 1/4096
pub record Widths : Type 0 where
  pub linear : List ℕ
  pub quadratic : List ℕ

-- with n columns
module _ (n : ℕ) (d : Widths) where
  -- w_ij, the half-width of A_ij, and w_ijl, that of Q_ijl
  abbrev pub linear_width : ℕ → ℕ → ℕ
  linear_width i j = get_or d.linear (i * n + j) 0

  abbrev pub quadratic_width : ℕ → ℕ → ℕ → ℕ
  quadratic_width i j l = get_or d.quadratic ((i * n + j) * n + l) 0

  -- what S of coordinate i gains, with M the spans of the set before the step:
  -- the sum over j of 4096·w_ij·M_j, plus that over j, l of w_ijl·M_j·M_l
  unfoldable pub gain : Zonotope → ℕ → ℕ
  gain s i =
      upto_ℕ (λ j. 4096 * (linear_width i j * span s j)) n
      + upto_ℕ (λ j. upto_ℕ (λ l. quadratic_width i j l * (span s j * span s l)) n) n

-- the step where S gains these numbers, by coordinate, before its one rounding up
abbrev pub gaining_raw : (ℕ → ℕ) → Step → Zonotope → RawImage
gaining_raw gains p s = let r = raw p s in record {
  dimension = r.dimension;
  identifiers = r.identifiers;
  centre = r.centre;
  terms = r.terms;
  generators = r.generators;
  remainders = tab p.rows (λ i. remainder p s i + gains i);
}

unfoldable pub gaining_step : List ℕ → (ℕ → ℕ) → Step → Zonotope → Zonotope
gaining_step weights gains p s = settled weights (gaining_raw gains p s)

-- the image under every step whose entries are within the half-widths
unfoldable pub ranged_step : List ℕ → Step → Widths → Zonotope → Zonotope
ranged_step weights p d s = gaining_step weights (gain p.columns d s) p s

-- before rounding
abbrev pub ranged_raw : Step → Widths → Zonotope → RawImage
ranged_raw p d s = gaining_raw (gain p.columns d s) p s
