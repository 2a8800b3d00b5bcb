-- What a run holds: a valid set whose identifiers are below the next fresh one. Each operation leaves such a set where its result is not
-- too wide.
use mathlib.Core.Path.{◌≡◌, refl, ◌∙◌, ap, subst}
use mathlib.Core.List.{List, [], ◌∷◌}
use mathlib.Core.Bool.{false}
use Prim.Native.Nat.{ℕ, suc, ◌+◌, ◌<◌, ◌≤◌}
use native.Mathlib.Nat.{le_trans}
use native.Mathlib.Omega.{arith}
use lib.ListN.{length, length-append}
use borrow.Author.Tests.{ltb-false}
use Rattle.rational.specs.Sum.{All, none, more}
use Rattle.rational.proofs.Sum.{All-imp, All-++}
use Rattle.model.specs.Limits.{max_dimension, max_factors, max_terms, max_generators}
use Rattle.model.specs.Set.{Zonotope}
use Rattle.model.specs.Valid.{bad_counts, bad_order, is_too_wide}
use Rattle.model.specs.Finish.{finish}
use Rattle.model.specs.Step as Step
use Rattle.model.specs.Step.{rounded}
use Rattle.model.specs.Ranged.{gaining_step}
use Rattle.model.specs.Hull.{blended, hull}
use Rattle.model.specs.Operations.{union, joined, tied_sum, renumbered, independent_sum, disturb, reduce}
use Rattle.model.specs.Field.{too_many, too_many_blended}
use Rattle.model.proofs.Lists.{sublist_all, sublist_length, all_both}
use Rattle.model.proofs.Shape.{Shaped, Low, Counts, Ordered, Valid, counted, counts-false, ranged, ranges_false, in_order}
use Rattle.model.proofs.Shape.{order-false}
use Rattle.model.proofs.Finished.{Ready, ordered_ready, finished}
use Rattle.model.proofs.StepShape.{rounded-ready, gaining_ready}
use Rattle.model.proofs.HullShape.{blended-ready}
use Rattle.model.proofs.Union.{union-all}
use Rattle.model.proofs.SumShape.{joined-ready, renumbered-ready, renumbered-dimension, renumbered_in, disturbed_shaped}
use Rattle.model.proofs.Ranged.{nothing-gained}

pub record Held (next : ℕ) (s : Zonotope) : Type 0 where
  pub shaped : Shaped s
  pub counts : Counts s
  pub ordered : Ordered s
  pub exponents_in : All Low s.terms
  pub narrow : is_too_wide s ≡ false
  pub identifiers_in : All (λ k. (0 < k) × (k < next)) s.identifiers

-- ---- valid sets
pub held : {largest : ℕ} {s : Zonotope} (next : ℕ) → Valid largest s → All (◌< next) s.identifiers → Held next s
held {largest} {s} next v below = let r = ranged largest s v.ranges in record {
  shaped = v.shaped;
  counts = counted s v.counts;
  ordered = in_order s v.ordered;
  exponents_in = r.exponents_in;
  narrow = v.narrow;
  identifiers_in = All-imp (λ k h. (h.0.0, h.1)) (all_both r.identifiers_in below);
}

pub held_valid : {next largest : ℕ} {s : Zonotope} → Held next s → next ≤ suc largest → Valid largest s
held_valid h l = record {
  shaped = h.shaped;
  counts = counts-false h.counts;
  ranges = ranges_false (record {
    identifiers_in = All-imp (λ k i. (i.0, up_to i.1 l)) h.identifiers_in;
    exponents_in = h.exponents_in;
  });
  ordered = order-false h.ordered;
  narrow = h.narrow;
}
  where
    up_to : {k m n : ℕ} → k < m → m ≤ suc n → k ≤ n
    up_to p q = omega arith

pub held_up : {next later : ℕ} {s : Zonotope} → next ≤ later → Held next s → Held later s
held_up l h = record {
  shaped = h.shaped;
  counts = h.counts;
  ordered = h.ordered;
  exponents_in = h.exponents_in;
  narrow = h.narrow;
  identifiers_in = All-imp (λ k i. (i.0, le_trans i.1 l)) h.identifiers_in;
}

pub valid_ready : {largest : ℕ} {s : Zonotope} → Valid largest s → Ready s
valid_ready {s = s} v = ordered_ready v.shaped (in_order s v.ordered)

pub held-ready : {next : ℕ} {s : Zonotope} → Held next s → Ready s
held-ready h = ordered_ready h.shaped h.ordered

-- ---- finishing
-- what is asked of a set before it is finished: few coordinates and factors, identifiers below the next
pub record Begun (next : ℕ) (s : Zonotope) : Type 0 where
  pub ready : Ready s
  pub dimension_some : 0 < s.dimension
  pub dimension_few : s.dimension ≤ max_dimension
  pub factors_few : length s.identifiers ≤ max_factors
  pub identifiers_in : All (λ k. (0 < k) × (k < next)) s.identifiers

module _ (weights : List ℕ) {term_count_limit generator_count_limit next : ℕ} {s : Zonotope} where
  finish-held : term_count_limit ≤ max_terms → generator_count_limit ≤ max_generators → Begun next s
      → is_too_wide (finish weights term_count_limit generator_count_limit s) ≡ false → Held next (finish weights term_count_limit generator_count_limit s)
  finish-held l m b w =
      let f = finished weights term_count_limit generator_count_limit b.ready in
      let p = b.dimension_some in
      let q = b.dimension_few in
      let e = f.same-dimension in
      record {
        shaped = f.shaped;
        counts = record {
          dimension_some = omega arith;
          dimension_few = omega arith;
          factors_few = le_trans (sublist_length f.identifiers_among) b.factors_few;
          terms_few = le_trans f.terms_few l;
          generators_few = le_trans f.generators_few m;
        };
        ordered = f.ordered;
        exponents_in = f.exponents_in;
        narrow = w;
        identifiers_in = sublist_all f.identifiers_among b.identifiers_in;
      }

-- ---- the operations
module _ (weights : List ℕ) {next : ℕ} {s : Zonotope} (h : Held next s) where
  pub reduce-held : {term_count_limit generator_count_limit : ℕ} → term_count_limit ≤ max_terms → generator_count_limit ≤ max_generators
      → is_too_wide (reduce weights term_count_limit generator_count_limit s) ≡ false → Held next (reduce weights term_count_limit generator_count_limit s)
  unfolding reduce
  reduce-held l m w = finish-held weights l m (record {
    ready = held-ready h;
    dimension_some = h.counts.dimension_some;
    dimension_few = h.counts.dimension_few;
    factors_few = h.counts.factors_few;
    identifiers_in = h.identifiers_in;
  }) w

  -- a step, whatever its remainders gain
  pub gaining_held : (gains : ℕ → ℕ) (p : Step.Step) → 0 < p.rows → p.rows ≤ max_dimension
      → is_too_wide (gaining_step weights gains p s) ≡ false → Held next (gaining_step weights gains p s)
  unfolding gaining_step rounded Step.raw
  gaining_held gains p some few w = finish-held weights (omega arith) (omega arith) (record {
    ready = rounded-ready (gaining_ready gains p (held-ready h));
    dimension_some = some;
    dimension_few = few;
    factors_few = h.counts.factors_few;
    identifiers_in = h.identifiers_in;
  }) w

  pub step-held : (p : Step.Step) → 0 < p.rows → p.rows ≤ max_dimension → is_too_wide (Step.step weights p s) ≡ false
      → Held next (Step.step weights p s)
  step-held p some few w =
      let e : gaining_step weights (λ i. 0) p s ≡ Step.step weights p s = nothing-gained weights p s (λ i _. refl) in
      subst (Held next) e (gaining_held (λ i. 0) p some few (ap is_too_wide e ∙ w))

  pub sum-held : {u : Zonotope} → Ready u → u.dimension ≡ s.dimension
      → All (λ k. (0 < k) × (k < next)) u.identifiers → too_many s u ≡ false → is_too_wide (tied_sum weights s u) ≡ false
      → Held next (tied_sum weights s u)
  unfolding tied_sum joined
  sum-held r e i few w = finish-held weights (omega arith) (omega arith) (record {
    ready = joined-ready (held-ready h) r e;
    dimension_some = h.counts.dimension_some;
    dimension_few = h.counts.dimension_few;
    factors_few = ltb-false _ _ few;
    identifiers_in = union-all h.identifiers_in i;
  }) w

-- the second summand's fresh identifiers are next, next + 1 ..
pub independent_held : (weights : List ℕ) {next : ℕ} {s u : Zonotope} → Held next s → 0 < next → Ready u → u.dimension ≡ s.dimension
    → too_many s (renumbered next u) ≡ false → is_too_wide (independent_sum weights next s u) ≡ false
    → Held (next + length u.identifiers) (independent_sum weights next s u)
unfolding independent_sum
independent_held weights {next} {u = u} h some r e few w =
    sum-held weights (held_up (omega arith) h) (renumbered-ready next r) (renumbered-dimension next u ∙ e)
    (All-imp (λ k i. (le_trans some i.0, i.1)) (renumbered_in next u)) few w

-- the blending factor's identifier is next
pub hull-held : (weights : List ℕ) {next : ℕ} {s u : Zonotope} → Held next s → 0 < next → Ready u → u.dimension ≡ s.dimension
    → All (λ k. (0 < k) × (k < next)) u.identifiers → too_many_blended s u ≡ false → is_too_wide (hull weights next s u) ≡ false
    → Held (next + 1) (hull weights next s u)
unfolding hull rounded blended joined
hull-held weights {next} {s} {u} h some r e i few w = finish-held weights (omega arith) (omega arith) (record {
  ready = rounded-ready (blended-ready (held-ready h) r e (All-imp (λ k p. p.1) h.identifiers_in) (All-imp (λ k p. p.1) i));
  dimension_some = h.counts.dimension_some;
  dimension_few = h.counts.dimension_few;
  factors_few =
      let ms = union s.identifiers u.identifiers in
      omega (arith, length-append ms (next ∷ []), ltb-false max_factors (length ms + 1) few);
  identifiers_in = All-++ (All-imp (λ k p. (p.0, omega arith)) (union-all h.identifiers_in i)) (more (some, omega arith) none);
}) w

pub disturb-held : {next : ℕ} {s : Zonotope} → Held next s → (r : List ℕ) → length r ≡ s.dimension → is_too_wide (disturb r s) ≡ false
    → Held next (disturb r s)
unfolding disturb bad_counts bad_order
disturb-held {s = s} h r e w = record {
  shaped = disturbed_shaped r e h.shaped;
  counts = counted (disturb r s) (counts-false h.counts);
  ordered = in_order (disturb r s) (order-false h.ordered);
  exponents_in = h.exponents_in;
  narrow = w;
  identifiers_in = h.identifiers_in;
}
