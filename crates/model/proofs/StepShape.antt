-- A step's raw and rounded image has the step's shape, and each of its terms has a factor. Past a set's coordinates no rounding is inexact.
use mathlib.Core.Path.{◌≡◌, refl, sym, ◌∙◌, ap, ap₂}
use mathlib.Core.List.{List, [], ◌∷◌, map}
use mathlib.Core.Bool.{Bool, true, false, ◌&&◌, true≢false}
use Prim.Native.Nat.{ℕ, ◌+◌, ◌≤◌}
use native.Mathlib.Omega.{arith}
use lib.Dec.{eqb}
use lib.ListN.{length, length-map, get_or-eq_default}
use lib.IntN.{ℤ, pos}
use borrow.Author.Tests.{eqb-false, ne_eqb}
use Rattle.whole.specs.Round.{round, exact, inexact}
use Rattle.whole.specs.Sum.{sum_by, sum_ℕ}
use Rattle.whole.specs.Tab.{all, length-tab}
use Rattle.rational.specs.Sum.{All, none, more}
use Rattle.rational.proofs.Sum.{All-imp, All-map, All-++}
use Rattle.model.specs.Set.{Term, Zonotope, at, longer, plus_ℕ}
use Rattle.model.specs.Valid.{factorless}
use Rattle.model.specs.Step.{Step, RawImage, own, paired, pairs, raw_centre, raw_linear, raw, inexact_at, rounded}
use Rattle.model.specs.Ranged.{gaining_raw}
use Rattle.model.proofs.Vectors.{longer-length}
use Rattle.model.proofs.Radii.{carried_only-long}
use Rattle.model.proofs.RawUnits.{in_raw_units}
use Rattle.model.proofs.Lists.{all_both}
use Rattle.model.proofs.Shape.{Row, Shaped}
use Rattle.model.proofs.Finished.{Ready}

-- the sum of exponents has a factor where the first row has one
plus-factor : (e f : List ℕ) → factorless e ≡ false → factorless (plus_ℕ e f) ≡ false
unfolding longer all
plus-factor [] f h = absurd (true≢false h)
plus-factor (x ∷ e) [] h = h
plus-factor (x ∷ e) (y ∷ f) h = go (eqb x 0) refl h (plus-factor e f) where
  go : (b : Bool) → eqb x 0 ≡ b → (b && factorless e) ≡ false → (factorless e ≡ false → factorless (plus_ℕ e f) ≡ false)
      → (eqb (x + y) 0 && factorless (plus_ℕ e f)) ≡ false
  go true q k ih = last (eqb (x + y) 0) (ih k) where
    last : (b : Bool) {c : Bool} → c ≡ false → (b && c) ≡ false
    last true e = e
    last false e = refl
  go false q k ih = let z = eqb-false x 0 q in rw (ne_eqb (x + y) 0 (λ e. z (omega arith)))

-- a term of p factors in n coordinates that has a factor
abbrev Factored : ℕ → ℕ → Term → Type 0
Factored p n t = Row p n t × (factorless t.exponents ≡ false)

module _ (p : Step) (s : Zonotope) {m n : ℕ} where
  own_factored : (t : Term) → Factored m n t → Factored m p.rows (own p s t)
  own_factored t h = (record { exponents-long = h.0.exponents-long; coefficients-long = length-tab _ _ }, h.1)

  paired_factored : (t u : Term) → Factored m n t → Factored m n u → Factored m p.rows (paired p s t u)
  paired_factored t u h k = (
    record {
      exponents-long =
          longer-length ◌+◌ t.exponents u.exponents (h.0.exponents-long ∙ sym k.0.exponents-long) ∙ h.0.exponents-long;
      coefficients-long = length-tab _ _;
    },
    plus-factor t.exponents u.exponents h.1,
  )

  pairs_factored : {ts : List Term} → All (Factored m n) ts → All (Factored m p.rows) (pairs p s ts)
  unfolding pairs
  pairs_factored none = none
  pairs_factored (more {a = t} h r) =
      more (
        record {
          exponents-long = longer-length ◌+◌ t.exponents t.exponents refl ∙ h.0.exponents-long;
          coefficients-long = length-tab _ _;
        },
        plus-factor t.exponents t.exponents h.1,
      )
      (All-++ (All-map (paired p s t) (All-imp (λ u k. paired_factored t u h k) r)) (pairs_factored r))

-- Rounding keeps the shape of an image, and an image that is ready for finishing so.
pub rounded_shaped : {r : RawImage} → Shaped (in_raw_units r) → Shaped (rounded r)
unfolding rounded
rounded_shaped {r} h = record {
  centre-long = length-map r.centre round ∙ h.centre-long;
  radii-long = record {
    carried_long = length-tab r.dimension _;
    rounded-long = length-tab r.dimension _;
    folded_long = length-tab r.dimension _;
    given-long = length-tab r.dimension _;
  };
  rows = All-map _ (All-imp (λ t p. record {
    exponents-long = p.exponents-long;
    coefficients-long = length-map t.coefficients round ∙ p.coefficients-long;
  }) h.rows);
  generators_long = All-map (map round) (All-imp (λ g e. length-map g round ∙ e) h.generators_long);
}

pub rounded-ready : {r : RawImage} → Ready (in_raw_units r) → Ready (rounded r)
unfolding rounded
rounded-ready h = record {
  shaped = rounded_shaped h.shaped;
  identifiers_rise = h.identifiers_rise;
  has_factors = All-map _ h.has_factors;
}

-- The image of a set that is ready for finishing, or finished, is ready in raw units.
pub raw-ready : (p : Step) {s : Zonotope} → Ready s → Ready (in_raw_units (raw p s))
unfolding raw
raw-ready p {s} r =
    let terms = all_both r.shaped.rows r.has_factors in
    let image = All-++ (All-map (own p s) (All-imp (own_factored p s) terms)) (pairs_factored p s terms) in
    record {
      shaped = record {
        centre-long = length-tab p.rows (raw_centre p s);
        radii-long = carried_only-long p.rows _ (length-tab p.rows _);
        rows = All-imp (λ t h. h.0) image;
        generators_long = All-map _ (All-imp (λ g h. length-tab p.rows (raw_linear p s g)) r.shaped.generators_long);
      };
      identifiers_rise = r.identifiers_rise;
      has_factors = All-imp (λ t h. h.1) image;
    }

-- so it is whatever its remainders gain
pub gaining_ready : (gains : ℕ → ℕ) (p : Step) {s : Zonotope} → Ready s → Ready (in_raw_units (gaining_raw gains p s))
unfolding raw
gaining_ready gains p {s} r =
    let h = raw-ready p r in
    record {
      shaped = record {
        centre-long = h.shaped.centre-long;
        radii-long = carried_only-long p.rows _ (length-tab p.rows _);
        rows = h.shaped.rows;
        generators_long = h.shaped.generators_long;
      };
      identifiers_rise = h.identifiers_rise;
      has_factors = h.has_factors;
    }

-- ---- past the coordinates nothing is rounded
sum_none : {A : Type 0} (f : A → ℕ) {l : List A} → All (λ a. f a ≡ 0) l → sum_ℕ f l ≡ 0
unfolding sum_by
sum_none f none = refl
sum_none f (more h t) = ap₂ ◌+◌ h (sum_none f t)

pub inexact_past : {r : RawImage} → Shaped (in_raw_units r) → (i : ℕ) → r.dimension ≤ i → inexact_at r i ≡ 0
unfolding inexact_at inexact exact
inexact_past {r} h i past =
    ap₂ ◌+◌ (ap₂ ◌+◌ (zero-at r.centre h.centre-long)
    (sum_none _ (All-imp (λ t p. zero-at t.coefficients p.coefficients-long) h.rows)))
    (sum_none _ (All-imp (λ g e. zero-at g e) h.generators_long))
  where
    zero-at : (v : List ℤ) → length v ≡ r.dimension → inexact (at v i) ≡ 0
    zero-at v e = ap inexact (get_or-eq_default v (pos 0) (omega arith))
