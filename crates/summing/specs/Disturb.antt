-- A disturbance of a record: the record of the disturbed set is the record with other given parts of its radii.
use Rattle.std.specs.Prelude.{◌≡◌, List, false, ltb, length}
use Rattle.std.proofs.Math.Path.{sym, ap, ap₂}
use Rattle.std.proofs.Common.{◌∙◌, zero-add, arith, ltb-false, ext_get_or}
use Prim.Native.Nat.{ℕ, ◌+◌, ◌<◌, ◌≤◌}
use Rattle.std.proofs.Math.Decide.{dec_lt}
use Rattle.std.proofs.Math.ListN.{get_or, get_or-eq_default}
use Rattle.whole.specs.Tab.{tab, any, length-tab, get_d_tab, tab_cong}
use Rattle.whole.specs.Write.{write, write-length, write-at, write-after}
use Rattle.model.specs.Limits.{max_disturbance}
use Rattle.model.specs.Set.{radius_of}
use Rattle.model.specs.Valid.{bad_counts, is_too_wide}
use Rattle.model.specs.Operations.{disturb}
use Rattle.model.proofs.Vectors.{plus_ℕ-at, longer-length}
use Rattle.model.proofs.Shape as Shape
use Rattle.zonotope.specs.declared.Radii.{Radii}
use Rattle.zonotope.specs.declared.PolyZonotope.{PolyZonotope}
use Rattle.zonotope.specs.Record.{view, pack}
use Rattle.zonotope.specs.Counts.{InLimits, countable}
use Rattle.whole.specs.Tests.{none_at, any_list}
use Rattle.zonotope.proofs.ViewPack.{view-pack}
use Rattle.align.specs.Examined.{radii-wide, radii_small}
use Rattle.answers.specs.Accepted.{AcceptedRecord, own_record}
use Rattle.zonotope.proofs.ViewPack.{view_shaped}
use Rattle.summing.specs.Summand.{for_sum}

-- an accepted record, and radii that may be added to its own
pub record Disturbable (s : PolyZonotope) (radii : List ℕ) : Type 0 where
  pub set : AcceptedRecord s
  pub long : length radii ≡ s.dimension
  pub small : any (ltb max_disturbance) radii ≡ false

-- ---- radii that are added from the first place on
pub added : (own radii : List ℕ) → length own ≡ 6 → length radii ≤ 6
    → write own 0 (λ i. get_or own i 0 + get_or radii i 0) (length radii) ≡ tab 6 (λ i. get_or own i 0 + get_or radii i 0)
added own radii e few =
    ext_get_or 0 (write own 0 f (length radii)) (tab 6 f) (write-length own 0 f (length radii) ∙ e ∙ sym (length-tab 6 f))
    (λ i h. let l : i < 6 = omega (arith, write-length own 0 f (length radii)) in go i (dec_lt i (length radii)) ∙ sym (get_d_tab 6 f 0 i l))
  where
    f : ℕ → ℕ
    f i = get_or own i 0 + get_or radii i 0

    go : (i : ℕ) → Dec (i < length radii) → get_or (write own 0 f (length radii)) i 0 ≡ f i
    go i (yes l) = ap (λ x. get_or (write own 0 f (length radii)) x 0) (sym (zero-add i))
        ∙ write-at own 0 f 0 (length radii) i l (omega arith)
    go i (no l) =
        let z : get_or radii i 0 ≡ 0 = get_or-eq_default radii 0 (omega arith) in
        write-after own 0 f 0 (length radii) i (omega arith) ∙ omega arith

-- radii with other given parts, and the record with other radii
abbrev pub with_given : Radii → List ℕ → Radii
with_given r g = record { carried = r.carried; rounded = r.rounded; folded = r.folded; given = g }

abbrev pub with_radii : PolyZonotope → Radii → PolyZonotope
with_radii s radii = record {
  dimension = s.dimension;
  factors = s.factors;
  terms = s.terms;
  generators = s.generators;
  identifiers = s.identifiers;
  centre = s.centre;
  exponents = s.exponents;
  coefficients = s.coefficients;
  vectors = s.vectors;
  radii = radii;
}

module _ (s : PolyZonotope) (radii : List ℕ) (h : Disturbable s radii) where
  few_radii : length radii ≤ 6
  unfolding view
  few_radii = let l = (countable (view s) h.set.passed.counts).dimension in omega (arith, h.long)

  radius_small : (i : ℕ) → get_or radii i 0 ≤ max_disturbance
  radius_small i = go (dec_lt i (length radii)) where
    go : Dec (i < length radii) → get_or radii i 0 ≤ max_disturbance
    go (yes l) =
        ltb-false max_disturbance (get_or radii i 0)
        (none_at (ltb max_disturbance) (length radii) (λ i. get_or radii i 0) (sym (any_list (ltb max_disturbance) 0 radii) ∙ h.small) i l)
    go (no l) = omega (arith, get_or-eq_default radii 0 {n = i} (omega arith))

  -- what adding the radii asks
  pub addable : (length radii ≤ 6) × ((i : ℕ) → i < 6 → get_or s.radii.given i 0 + get_or radii i 0 < 4294967296)
  unfolding radius_of
  addable =
      let x = for_sum s h.set in (few_radii, λ i l. omega (arith, radius_small i, (radii-wide s x).given i l, radii_small s x i))

  -- The record with the radii added is the record of the disturbed set.
  pub disturbed_record : with_radii s (with_given s.radii (tab 6 (λ i. get_or s.radii.given i 0 + get_or radii i 0)))
      ≡ pack (disturb radii (view s))
  unfolding pack disturb
  disturbed_record =
      let own = sym (own_record s h.set) in
      ap₂ with_radii own (λ k. with_given (own k).radii (tab_cong 6 _ _ (λ i l.
      ap (◌+ get_or radii i 0) ((radii-wide s (for_sum s h.set)).given i l) ∙ sym (plus_ℕ-at (view s).radii.given radii i)) k))

  disturbed-counts : bad_counts (disturb radii (view s)) ≡ false
  unfolding disturb bad_counts
  disturbed-counts = h.set.passed.counts

  disturbed_shape : Shape.Shaped (disturb radii (view s))
  unfolding disturb view
  disturbed_shape = record {
    centre-long = (view_shaped s).centre-long;
    radii-long = let l = (view_shaped s).radii-long in record {
      carried_long = l.carried_long;
      rounded-long = l.rounded-long;
      folded_long = l.folded_long;
      given-long = longer-length ◌+◌ _ radii (l.given-long ∙ sym h.long) ∙ l.given-long;
    };
    rows = (view_shaped s).rows;
    generators_long = (view_shaped s).generators_long;
  }

  -- the disturbed record is in the limits, and as wide as the disturbed set
  pub disturbed_limits : InLimits (pack (disturb radii (view s)))
  unfolding pack
  disturbed_limits = countable (disturb radii (view s)) disturbed-counts

  pub disturbed-width : is_too_wide (view (pack (disturb radii (view s)))) ≡ is_too_wide (disturb radii (view s))
  disturbed-width = ap is_too_wide (view-pack (disturb radii (view s)) disturbed_shape disturbed-counts)
