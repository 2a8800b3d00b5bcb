-- The blend of two sets before rounding has their shape, with one factor more, and each of its terms has a factor.
use mathlib.Core.Path.{◌≡◌, refl, sym, ◌∙◌, ap}
use mathlib.Core.List.{List, [], ◌∷◌, ◌++◌, map}
use mathlib.Core.Bool.{Bool, true, false, ◌&&◌, true≢false}
use Prim.Native.Nat.{ℕ, ◌+◌, ◌<◌}
use lib.Dec.{eqb}
use lib.ListN.{length, length-map, length-append, replicate, length-replicate}
use lib.IntN.{pos, ◌*ℤ◌}
use Rattle.whole.specs.Tab.{all, length-tab}
use Rattle.rational.specs.Sum.{All, none, more}
use Rattle.rational.proofs.Sum.{All-imp, All-map, All-++}
use Rattle.model.specs.Set.{Term, Zonotope}
use Rattle.model.specs.Valid.{factorless}
use Rattle.model.specs.Operations.{union, joined}
use Rattle.model.specs.Hull.{blend, opposite, blended}
use Rattle.model.proofs.Lists.{Rising, nothing, first}
use Rattle.model.proofs.Radii.{carried_only-long}
use Rattle.model.proofs.RawUnits.{in_raw_units}
use Rattle.model.proofs.Shape.{Row, Shaped}
use Rattle.model.proofs.Union.{union-all}
use Rattle.model.proofs.SumShape.{joined-ready}
use Rattle.model.proofs.Finished.{Ready}

-- ---- one more factor at the end
rising_last : {ms : List ℕ} {n : ℕ} → Rising ◌<◌ ms → All (◌< n) ms → Rising ◌<◌ (ms ++ (n ∷ []))
rising_last nothing none = first none nothing
rising_last (first h r) (more p t) = first (All-++ h (more p none)) (rising_last r t)

factor-first : (es fs : List ℕ) → factorless es ≡ false → factorless (es ++ fs) ≡ false
unfolding all
factor-first [] fs h = absurd (true≢false h)
factor-first (e ∷ es) fs h = go (eqb e 0) h (factor-first es fs)
  where
    go : (b : Bool) → (b && factorless es) ≡ false → (factorless es ≡ false → factorless (es ++ fs) ≡ false)
        → (b && factorless (es ++ fs)) ≡ false
    go true k ih = ih k
    go false k ih = refl

factor-last : (es fs : List ℕ) → factorless fs ≡ false → factorless (es ++ fs) ≡ false
unfolding all
factor-last [] fs h = h
factor-last (e ∷ es) fs h = go (eqb e 0) (factor-last es fs h)
  where
    go : (b : Bool) → factorless (es ++ fs) ≡ false → (b && factorless (es ++ fs)) ≡ false
    go true k = k
    go false k = refl

blend-rows : (k : ℕ) {p q n : ℕ} → p + 1 ≡ q → {ts : List Term} → All (Row p n) ts → All (Row q n) (map (blend k) ts)
blend-rows k e h = All-map (blend k) (All-imp (λ t r. record {
  exponents-long = length-append t.exponents (k ∷ []) ∙ ap (◌+ 1) r.exponents-long ∙ e;
  coefficients-long = length-map t.coefficients (pos 8388608 *ℤ◌) ∙ r.coefficients-long;
}) h)

opposite-ready : {u : Zonotope} → Ready u → Ready (opposite u)
unfolding opposite
opposite-ready {u} r = record {
  shaped = record {
    centre-long = length-map u.centre _ ∙ r.shaped.centre-long;
    radii-long = r.shaped.radii-long;
    rows = All-map _ (All-imp (λ t h. record {
      exponents-long = h.exponents-long;
      coefficients-long = length-map t.coefficients _ ∙ h.coefficients-long;
    }) r.shaped.rows);
    generators_long = r.shaped.generators_long;
  };
  identifiers_rise = r.identifiers_rise;
  has_factors = All-map _ r.has_factors;
}

-- The blend of two sets that are ready for finishing, or finished, has their shape; and is ready where the fresh factor is above theirs.
pub blended_shaped : (next : ℕ) {s u : Zonotope} → Ready s → Ready u → u.dimension ≡ s.dimension → Shaped (in_raw_units (blended next s u))
unfolding blended joined opposite
blended_shaped next {s} {u} a b e =
    let ms = union s.identifiers u.identifiers in
    let l = sym (length-append ms (next ∷ [])) in
    let sum = (joined-ready a b e).shaped in
    let difference = (joined-ready a (opposite-ready b) e).shaped in
    record {
      centre-long = length-map (joined s u).centre (pos 8388608 *ℤ◌) ∙ sum.centre-long;
      radii-long = carried_only-long s.dimension _ (length-tab s.dimension _);
      rows = more (record {
        exponents-long = length-append {A = ℕ} (replicate (length ms) 0) (1 ∷ []) ∙ ap (◌+ 1) (length-replicate {A = ℕ} (length ms) 0) ∙ l;
        coefficients-long = length-map (joined s (opposite u)).centre (pos 8388608 *ℤ◌) ∙ difference.centre-long;
      }) (All-++ (blend-rows _ l sum.rows) (blend-rows _ l difference.rows));
      generators_long = none;
    }

pub blended-ready : {next : ℕ} {s u : Zonotope} → Ready s → Ready u → u.dimension ≡ s.dimension → All (◌< next) s.identifiers
    → All (◌< next) u.identifiers → Ready (in_raw_units (blended next s u))
unfolding blended joined opposite all
blended-ready {next} {s} {u} a b e below above =
    let ms = union s.identifiers u.identifiers in
    let sum = joined-ready a b e in
    record {
      shaped = blended_shaped next a b e;
      identifiers_rise = rising_last sum.identifiers_rise (union-all below above);
      has_factors = more (factor-last (replicate (length ms) 0) (1 ∷ []) refl)
          (All-++ (All-map _ (All-imp (λ t h. factor-first t.exponents _ h) sum.has_factors))
          (All-map _ (All-imp (λ t h. factor-first t.exponents _ h) (joined-ready a (opposite-ready b) e).has_factors)));
    }
