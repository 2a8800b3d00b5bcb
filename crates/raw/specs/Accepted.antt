-- What is asked of a set: that none of the causes of refusal holds that this crate needs.
use Rattle.std.specs.Prelude.{false, ◌≡◌, length}
use Rattle.model.specs.Limits.{record_identifiers}
use Rattle.model.specs.Valid.{bad_counts, bad_range, is_too_wide}
use Rattle.zonotope.specs.Record.{view, spare}
use Rattle.zonotope.specs.declared.PolyZonotope.{PolyZonotope}

-- its counts and exponents are in limits, unused places hold 0, and no coordinate's span is too wide
pub record InSpan (s : PolyZonotope) : Type 0 where
  pub counts : bad_counts (view s) ≡ false
  pub range : bad_range record_identifiers (view s) ≡ false
  pub unused : spare s ≡ false
  pub narrow : is_too_wide (view s) ≡ false

-- each array is as long as its type says
pub record RowsSized (s : PolyZonotope) : Type 0 where
  pub centre : length s.centre ≡ 6
  pub exponents : length s.exponents ≡ 480
  pub coefficients : length s.coefficients ≡ 240
  pub vectors : length s.vectors ≡ 144
