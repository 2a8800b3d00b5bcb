-- What is known of a call's arguments where no cause refuses them.
use Rattle.std.specs.Prelude.{◌≡◌, List, false, ◌||◌, ℕ, ◌≤◌, ltb, length}
use Rattle.std.proofs.Common.{◌∙◌, ltb-false}
use Rattle.std.proofs.Math.Option.{none}
use Rattle.whole.specs.Tab.{any}
use Rattle.whole.specs.Tests.{or_left, or_right}
use Rattle.model.specs.Limits.{max_terms, max_generators, max_disturbance}
use Rattle.model.specs.Field.{bad_dimension, differs}
use Rattle.model.specs.Run.{first_of}
use Rattle.model.specs.Library.{of_radii, of_limits, examine}
use Rattle.zonotope.specs.declared.PolyZonotope.{PolyZonotope}
use Rattle.zonotope.specs.Record.{view, given}
use Rattle.zonotope.specs.Shape.{Sized}
use Rattle.zonotope.specs.Valid.{valid, passed}
use Rattle.answers.specs.Order.{neither}
use Rattle.answers.specs.Accepted.{AcceptedRecord, equal}
use Rattle.summing.specs.Disturb.{Disturbable}
use Rattle.sums.specs.Causes.{before_disturbing, before_reducing}

-- ---- a set and radii
pub radii_in : (n : ℕ) (radii : List ℕ) (dimension : ℕ) → first_of (of_radii n radii dimension) ≡ none
    → (length radii ≡ dimension) × (any (ltb max_disturbance) radii ≡ false)
unfolding first_of
radii_in n radii dimension e =
    let a = passed (bad_dimension n) 4 e in
    let b = passed (differs (length radii) n) 3 a.1 in
    let c = passed (differs n dimension) 5 b.1 in
    (equal (length radii) n b.0 ∙ equal n dimension c.0, (passed (any (ltb max_disturbance) radii) 6 c.1).0)

pub disturbable : (s : PolyZonotope) (n : ℕ) (radii : List ℕ) → Sized s → before_disturbing n radii (given s) ≡ none → Disturbable s radii
unfolding view
disturbable s n radii z e =
    let first = neither (examine (given s)) (first_of (of_radii n radii (view s).dimension)) e in
    let r = radii_in n radii (view s).dimension first.1 in
    record { set = record { sized = z; passed = valid (given s) first.0 }; long = r.0; small = r.1 }

-- ---- a set and limits
pub limits_in : (h q : ℕ) → first_of (of_limits h q) ≡ none → (h ≤ 40) × (q ≤ 24)
unfolding first_of
limits_in h q e =
    let l = (passed (ltb max_terms h || ltb max_generators q) 4 e).0 in (
      ltb-false max_terms h (or_left (ltb max_terms h) (ltb max_generators q) l),
      ltb-false max_generators q (or_right (ltb max_terms h) (ltb max_generators q) l),
    )

pub limits_accepted : (s : PolyZonotope) (h q : ℕ) → Sized s → before_reducing h q (given s) ≡ none → AcceptedRecord s × (h ≤ 40) × (q ≤ 24)
limits_accepted s h q z e =
    let first = neither (examine (given s)) (first_of (of_limits h q)) e in
    let l = limits_in h q first.1 in
    (record { sized = z; passed = valid (given s) first.0 }, l.0, l.1)
