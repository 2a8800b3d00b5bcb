-- The sum of two accepted records, in rows: before finishing it is a set in wide form.
use Rattle.std.specs.Prelude.{◌≡◌, refl, List, false, ℕ, ◌≤◌, ltb, length, replicate, ℤ, pos, Result}
use Rattle.std.proofs.Common.{sym, ◌∙◌, arith, ltb-false}
use Rattle.std.proofs.Math.Path.{ap}
use Rattle.std.proofs.Math.ListN.{get_or}
use Rattle.std.proofs.lemmas.List.{length-replicate}
use Rattle.whole.specs.Tab.{tab, length-tab, get_d_tab, tab_cong}
use Rattle.model.specs.Limits.{max_factors, standard_weights}
use Rattle.model.specs.Set.{Zonotope, at}
use Rattle.model.specs.Finish.{finish}
use Rattle.model.specs.Operations.{joined, renumbered, tied_sum}
use Rattle.model.specs.Field.{too_many}
use Rattle.model.proofs.Shape.{Shaped}
use Rattle.model.proofs.SumShape.{joined-ready, renumbered-ready, renumbered-dimension}
use Rattle.zonotope.specs.declared.PolyZonotope.{PolyZonotope}
use Rattle.zonotope.specs.Record.{view}
use Rattle.zonotope.specs.Counts.{countable}
use Rattle.align.specs.declared.Identifiers.{Identifiers}
use Rattle.align.specs.declared.Sum.{Sum}
use Rattle.align.specs.Sum.{Factors, Common, Space, Joined}
use Rattle.finish.specs.declared.Unfinished.{Unfinished}
use Rattle.zonotope.specs.declared.Cause.{Cause}
use Rattle.finish.specs.Held.{held}
use Rattle.finish.specs.Wide.{wide}
use Rattle.finish.specs.WideFinish.{Narrow}
use Rattle.answers.specs.Answer.{settled}
use Rattle.answers.specs.Accepted.{AcceptedRecord, ready}
use Rattle.answers.specs.Finishing.{parts_under, Finishable, zeros_small}
use Rattle.answers.proofs.Settled.{settled_held}
use Rattle.summing.specs.Summable.{Summable}
use Rattle.summing.specs.Wide.{small_in, small_mono}

-- the sum without its terms and generators, in n coordinates
abbrev pub unfinished_sum : ℕ → Identifiers → Sum → Unfinished
unfinished_sum n all s = record {
  dimension = n;
  factors = all.count;
  identifiers = tab 12 (λ i. get_or all.numbers i 0);
  centre = s.centre;
  radii = s.radii;
}

-- ---- the shape of a sum
module _ (a b : PolyZonotope) (h : Summable a b) where
  pub tied_shaped : Shaped (joined (view a) (view b))
  unfolding view
  tied_shaped = (joined-ready (ready a h.first) (ready b h.second) h.same).shaped

  pub independent_shaped : (next : ℕ) → Shaped (joined (view a) (renumbered next (view b)))
  unfolding view
  independent_shaped next =
      (joined-ready (ready a h.first) (renumbered-ready next (ready b h.second)) (renumbered-dimension next (view b) ∙ h.same)).shaped

-- ---- the sum m, in rows
module _ (m : Zonotope) (all : Identifiers) (s : Sum) {e₀ e : List ℕ} {c₀ c g₀ g : List ℤ} (j : Joined m all s e₀ e c₀ c g₀ g) where
  pub sum-wide : held (unfinished_sum m.dimension all s) e c s.terms g s.generators ≡ wide m
  unfolding wide
  sum-wide = λ k. record {
    dimension = m.dimension;
    identifiers = (tab_cong all.count _ _ (λ i l. get_d_tab 12 (λ i. get_or all.numbers i 0) 0 i (omega (arith, j.common.few)))
        ∙ j.common.identifiers) k;
    centre = j.centre k;
    terms = j.terms.rows k;
    generators = j.generators.rows k;
    radii = j.radii k;
  }

  factors_few : length m.identifiers ≤ 12
  factors_few = rw (sym j.common.identifiers, length-tab all.count (λ i. get_or all.numbers i 0)) j.common.few

  module _ (h : Shaped m) (d : m.dimension ≤ 6) where
    pub sum-narrow : Narrow m
    sum-narrow = record { shaped = h; coordinates = d; factors = factors_few }

    -- what finishing the sum's rows asks
    pub sum_finishable : length e ≡ 960 → length c ≡ 480 → length g ≡ 288
        → Finishable (unfinished_sum m.dimension all s) e c s.terms g s.generators
    sum_finishable p q r =
        let t = j.terms.few in
        let v = j.generators.few in
        record {
          rows_few = omega arith;
          exponents-long = omega arith;
          exponents_few = omega arith;
          numbers-long = omega arith;
          generators_few = v;
          generators_long = omega arith;
          numbers_small = small_mono (omega arith) j.terms.small;
          generators_small = small_mono (omega arith) j.generators.small;
          centre_small = rw j.centre (record {
            small = small_in (pos 0) (λ z. z) 6 (at m.centre) refl (λ i l. omega (arith, j.centre_small i));
          });
          radii_small = parts_under s.radii m.radii j.radii (λ i. omega (arith, j.radii_small i));
          widened = record { source = m; is = sum-wide; narrow = sum-narrow };
        }

-- ---- the work space, and the factors of both
pub work_space : Space (replicate 960 0) (replicate 480 (pos 0)) (replicate 288 (pos 0))
work_space = record {
  exponents-long = omega (arith, length-replicate {A = ℕ} 960 0);
  numbers-long = omega (arith, length-replicate 480 (pos 0));
  generators_long = omega (arith, length-replicate 288 (pos 0));
  numbers_small = zeros_small 480;
  generators_small = zeros_small 288;
}

module _ (s u : Zonotope) {all : Identifiers} (f : Factors (joined s u) all) where
  pub factors-many : ltb max_factors all.count ≡ too_many s u
  unfolding joined
  factors-many = ap (ltb max_factors) f.number

  pub factors_common : ltb max_factors all.count ≡ false → Common (joined s u) all
  factors_common e = record { few = ltb-false max_factors all.count e; identifiers = f.identifiers }

-- ---- the sum of a set and u, finished
module _ (a : PolyZonotope) (h : AcceptedRecord a) (u : Zonotope) (sh : Shaped (joined (view a) u)) (all : Identifiers) (s : Sum) {e₀ e : List ℕ}
    {c₀ c g₀ g : List ℤ} (j : Joined (joined (view a) u) all s e₀ e c₀ c g₀ g) where
  coordinates_few : a.dimension ≤ 6
  unfolding view
  coordinates_few = (countable (view a) h.passed.counts).dimension

  pub joined_finishable : length e ≡ 960 → length c ≡ 480 → length g ≡ 288
      → Finishable (unfinished_sum a.dimension all s) e c s.terms g s.generators
  unfolding joined view
  joined_finishable p q r = sum_finishable (joined (view a) u) all s j sh coordinates_few p q r

  pub joined_as : {r : Result PolyZonotope Cause} → r ≡ settled (finish standard_weights 40 24
      (held (unfinished_sum a.dimension all s) e c s.terms g s.generators))
      → r ≡ settled (tied_sum standard_weights (view a) u)
  unfolding joined view tied_sum
  joined_as p =
      settled_held standard_weights 40 24 (joined (view a) u)
      (sum-narrow (joined (view a) u) all s j sh coordinates_few) (sum-wide (joined (view a) u) all s j) p
