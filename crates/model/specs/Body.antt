-- What the body of a field says, by its layout.
use Rattle.std.specs.Prelude.{List, map, ℕ, ◌+◌, ◌*◌, ℤ, nat_abs}
use Rattle.whole.specs.Tab.{tab}
use Rattle.model.specs.Set.{Zonotope, given_only}
use Rattle.model.specs.Step.{Step}
use Rattle.model.specs.Ranged.{Widths}
use Rattle.model.specs.Operations.{Halfspace}
use Rattle.model.specs.Bytes.{byte, number, long, words}

module _ (b : List ℕ) where
  -- ---- a set: n, p, h, q; p identifiers; centre; h terms, each p exponents and n words; q generators; radii
  abbrev pub dimension : ℕ
  dimension = byte b 0

  abbrev pub factors : ℕ
  factors = byte b 1

  abbrev pub term_count : ℕ
  term_count = byte b 2

  abbrev pub generator_count : ℕ
  generator_count = byte b 3

  abbrev pub centre_at : ℕ
  centre_at = 4 + 4 * factors

  abbrev pub term_at : ℕ → ℕ
  term_at t = centre_at + 4 * dimension + t * (factors + 4 * dimension)

  abbrev pub generator_at : ℕ → ℕ
  generator_at g = term_at term_count + g * (4 * dimension)

  abbrev pub radii_at : ℕ
  radii_at = generator_at generator_count

  abbrev pub set_length : ℕ
  set_length = radii_at + 4 * dimension

  -- the radii as they stand, before it is asked whether one is negative
  abbrev pub radius_words : List ℤ
  radius_words = words b radii_at dimension

  unfoldable pub given_set : Zonotope
  given_set = record {
    dimension = dimension;
    identifiers = tab factors (λ i. number 4 b (4 + 4 * i));
    centre = words b centre_at dimension;
    terms = tab term_count (λ t. record {
      exponents = tab factors (λ k. byte b (term_at t + k));
      coefficients = words b (term_at t + factors) dimension;
    });
    generators = tab generator_count (λ g. words b (generator_at g) dimension);
    radii = given_only dimension (map nat_abs radius_words);
  }

  -- ---- a step: m, n; c; A by rows; Q by forms, then rows
  abbrev pub step_rows : ℕ
  step_rows = byte b 0

  abbrev pub step_columns : ℕ
  step_columns = byte b 1

  abbrev pub linear_from : ℕ
  linear_from = 2 + 4 * step_rows

  abbrev pub quadratic_from : ℕ
  quadratic_from = linear_from + 4 * (step_rows * step_columns)

  abbrev pub step_length : ℕ
  step_length = quadratic_from + 4 * (step_rows * step_columns * step_columns)

  unfoldable pub given_step : Step
  given_step = record {
    rows = step_rows;
    columns = step_columns;
    constant = words b 2 step_rows;
    linear = words b linear_from (step_rows * step_columns);
    quadratic = words b quadratic_from (step_rows * step_columns * step_columns);
  }

  -- ---- a ranged step: a step, then the half-widths of A's entries and of Q's
  abbrev pub quadratic_widths_from : ℕ
  quadratic_widths_from = step_length + 4 * (step_rows * step_columns)

  abbrev pub ranged_length : ℕ
  ranged_length = quadratic_widths_from + 4 * (step_rows * step_columns * step_columns)

  -- the half-widths as they stand, before it is asked whether one is negative
  abbrev pub linear_width_words : List ℤ
  linear_width_words = words b step_length (step_rows * step_columns)

  abbrev pub quadratic_width_words : List ℤ
  quadratic_width_words = words b quadratic_widths_from (step_rows * step_columns * step_columns)

  unfoldable pub given_widths : Widths
  given_widths = record { linear = map nat_abs linear_width_words; quadratic = map nat_abs quadratic_width_words }

  -- ---- a disturbance: n, radii
  abbrev pub disturbance_words : List ℤ
  disturbance_words = words b 1 dimension

  unfoldable pub given_radii : List ℕ
  given_radii = map nat_abs disturbance_words

  -- ---- a reduction: the limits of terms and of generators
  abbrev pub term_count_limit : ℕ
  term_count_limit = byte b 0

  abbrev pub generator_count_limit : ℕ
  generator_count_limit = byte b 1

  -- ---- a check: n, count; each halfspace n words and its bound as 8 bytes
  abbrev pub halfspace_count : ℕ
  halfspace_count = byte b 1

  abbrev pub halfspace_at : ℕ → ℕ
  halfspace_at k = 2 + k * (4 * dimension + 8)

  unfoldable pub given_halfspaces : List Halfspace
  given_halfspaces = tab halfspace_count (λ k. record {
    normal = words b (halfspace_at k) dimension;
    bound = long b (halfspace_at k + 4 * dimension);
  })
