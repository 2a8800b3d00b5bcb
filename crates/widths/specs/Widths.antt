-- Half-widths beside a step, and what they add to S of each coordinate, in the shape in which the code computes it.
use Rattle.std.specs.Prelude.{List, ◌≡◌, ℕ, ◌+◌, ◌*◌, ◌≤◌, length, get_or}
use Rattle.whole.specs.Sum.{upto_ℕ}
use Rattle.model.specs.Ranged.{Widths}
use Rattle.image.specs.Remainder.{Below}

-- the half-widths in lists
abbrev pub widths_of : List ℕ → List ℕ → Widths
widths_of da dq = record { linear = da; quadratic = dq }

-- what is asked of the half-widths of a step from n coordinates to m: as many as it has entries, and none that is too large
pub record WidthsAccepted (m n : ℕ) (da dq : List ℕ) : Type 0 where
  pub rows : m ≤ 6
  pub columns : n ≤ 6
  pub linears : length da ≡ m * n
  pub quadratics : length dq ≡ m * n * n
  pub linear_small : Below 32768 da
  pub quadratic_small : Below 32768 dq

-- from n coordinates, with M in `spans`
module _ (n : ℕ) (spans : List ℕ) where
  -- w·factor·M_l, for the half-width l places after `from`
  abbrev pub width_term : List ℕ → ℕ → ℕ → ℕ → ℕ
  width_term widths from factor l = get_or widths (from + l) 0 * (factor * get_or spans l 0)

  -- in a row of n half-widths
  abbrev pub row_gain : List ℕ → ℕ → ℕ → ℕ
  row_gain widths from factor = upto_ℕ (width_term widths from factor) n

  -- in row j of form i, and in the whole form
  abbrev pub form_row : List ℕ → ℕ → ℕ → ℕ
  form_row dq i j = row_gain dq ((i * n + j) * n) (get_or spans j 0)

  abbrev pub form_gain : List ℕ → ℕ → ℕ
  form_gain dq i = upto_ℕ (form_row dq i) n

  -- at coordinate i
  abbrev pub gain_at : List ℕ → List ℕ → ℕ → ℕ
  gain_at da dq i = row_gain da (i * n) 4096 + form_gain dq i
