-- The answer of finishing, from the set that is left in rows.
use Rattle.std.specs.Prelude.{◌≡◌, refl, Bool, true, false, cond, Option, Some, None, ltb, ℤ, pos}
use Rattle.std.proofs.Math.Path.{sym, ap, ap₂, fun_ext}
use Rattle.std.proofs.Common.{subst, ◌∙◌, arith, ltb-false}
use mathlib.Core.List.{List}
use Prim.Native.Nat.{ℕ, ◌+◌, ◌≤◌, ◌<◌}
use Rattle.std.proofs.Math.Decide.{dec_lt}
use Rattle.std.proofs.Math.ListN.{length, get_or, get_or-eq_default}
use Rattle.std.proofs.Math.IntN.{nat_abs}
use Rattle.whole.specs.Sum.{sum_by, sum_ℕ, sum-map}
use Rattle.whole.specs.Tab.{tab, any, length-tab}
use Rattle.rational.specs.Sum.{All, none, more}
use Rattle.rational.proofs.Sum.{All-imp}
use Rattle.model.specs.Limits.{max_span}
use Rattle.model.specs.Set.{Zonotope, at, radius, term_sizes, generator_sizes, span}
use Rattle.model.specs.Valid.{occurs, is_too_wide}
use Rattle.model.specs.Finish.{keep_exponents, drop_unused, finish}
use Rattle.model.proofs.Radii.{radius_past}
use Rattle.model.proofs.Tests.{any_false, tab-all}
use Rattle.zonotope.specs.Record.{pack}
use Rattle.zonotope.specs.declared.PolyZonotope.{PolyZonotope}
use Rattle.finish.specs.declared.Unfinished.{Unfinished}
use Rattle.finish.specs.declared.Reduced.{Reduced}
use Rattle.finish.specs.Wide.{wide_term, wide_coefficients, wide, wide_numbers}
use Rattle.finish.specs.Stages.{reduced, finish-reduced}
use Rattle.finish.specs.WideStages.{occurs-wide, occurs_past}
use Rattle.finish.specs.WideFinish.{Narrow, reduced-wide, reduced-narrow}
use Rattle.finish.specs.WideRecord.{span-wide}
use Rattle.finish.specs.Held.{held_by, Holds, Widened, finished_as}
use Rattle.finish.specs.Spans.{held_span, span-held}
use Rattle.finish.specs.Numbers.{narrowable, parts-narrow}
use Rattle.finish.specs.Packing.{Packable}

-- ---- past the set's own coordinates and factors a wide set holds nothing
sum_none : {A : Type 0} (f : A → ℕ) {l : List A} → All (λ a. f a ≡ 0) l → sum_ℕ f l ≡ 0
unfolding sum_by
sum_none f none = refl
sum_none f (more h t) = ap₂ ◌+◌ h (sum_none f t)

module _ (s : Zonotope) (n : Narrow s) where
  span_past : (i : ℕ) → s.dimension ≤ i → span s i ≡ 0
  unfolding span term_sizes generator_sizes
  span_past i h =
      let blank : (v : List ℤ) → length v ≡ s.dimension → nat_abs (at v i) ≡ 0 = λ v l.
      ap nat_abs (get_or-eq_default v (pos 0) (omega arith)) in
      let long = n.shaped.radii-long in
      ap₂ ◌+◌ (ap₂ ◌+◌ (ap₂ ◌+◌ (blank s.centre n.shaped.centre-long)
      (sum_none (λ t. nat_abs (at t.coefficients i)) (All-imp (λ t r. blank t.coefficients r.coefficients-long) n.shaped.rows)))
      (sum_none (λ g. nat_abs (at g i)) (All-imp blank n.shaped.generators_long)))
      (radius_past long i h)

  wide-span_past : (i : ℕ) → s.dimension ≤ i → i < 6 → span (wide s) i ≡ 0
  unfolding span term_sizes generator_sizes wide wide_numbers
  wide-span_past i h l =
      ap (λ (x : ℕ). nat_abs (at (wide s).centre i) + x + generator_sizes (wide s) i + radius (wide s) i)
      (sum-map 0 ◌+◌ (λ t. nat_abs (at t.coefficients i)) wide_term s.terms
      ∙ sym (sum-map 0 ◌+◌ (λ t. nat_abs (at t.coefficients i)) wide_coefficients s.terms))
      ∙ span-wide s i l
      ∙ span_past i h

  wide-occurs_past : (j : ℕ) → length s.identifiers ≤ j → occurs (wide s).terms j ≡ false
  unfolding wide
  wide-occurs_past j h =
      occurs-wide n.factors n.coordinates n.shaped.rows j ∙ occurs_past n.factors n.coordinates n.shaped.rows j h

-- ---- dropping factors doesn't change a span
span-kept : (m : Zonotope) (i : ℕ) → span (drop_unused m) i ≡ span m i
unfolding span term_sizes generator_sizes drop_unused
span-kept m i =
    ap (λ (x : ℕ). nat_abs (at m.centre i) + x + generator_sizes m i + radius m i)
    (sum-map 0 ◌+◌ (λ t. nat_abs (at t.coefficients i)) (keep_exponents (occurs m.terms)) m.terms)

too_wide-kept : (m : Zonotope) → is_too_wide (drop_unused m) ≡ is_too_wide m
unfolding is_too_wide drop_unused
too_wide-kept m = ap (λ (p : ℕ → Bool). any p (tab m.dimension (λ i. i))) (fun_ext (λ i. ap (ltb max_span) (span-kept m i)))

-- ---- spans that aren't too wide
span-within : (m : Zonotope) → is_too_wide m ≡ false → (i : ℕ) → i < m.dimension → span m i ≤ max_span
unfolding is_too_wide
span-within m f i h =
    ltb-false max_span (span m i) (tab-all m.dimension (λ i. i)
    (any_false (λ i. ltb max_span (span m i)) (tab m.dimension (λ i. i)) f) i h)

-- ---- the set that is left in rows, of one in wide form
module _ (weights : List ℕ) (h q : ℕ) {u : Unfinished} {k : Reduced} {e heads : List ℕ} {s g : List ℤ} {m : Zonotope}
    (v : Holds u k e heads s g (reduced weights h q m)) (w : Widened m) where
  -- the same set, in its own width
  abbrev left : Zonotope
  left = reduced weights h q w.source

  abbrev narrow_left : Narrow left
  narrow_left = reduced-narrow weights h q w.source w.narrow

  left_is : held_by u k e heads s g ≡ wide left
  left_is = v.is ∙ ap (reduced weights h q) w.is ∙ reduced-wide weights h q w.source w.narrow

  dimension_is : u.dimension ≡ left.dimension
  unfolding wide
  dimension_is = ap (λ (m : Zonotope). m.dimension) left_is

  factors_are : u.factors ≡ length left.identifiers
  unfolding wide
  factors_are = sym (length-tab u.factors (λ i. get_or u.identifiers i 0)) ∙ ap (λ (m : Zonotope). length m.identifiers) left_is

  pub dimension_few : u.dimension ≤ 6
  dimension_few = omega (arith, dimension_is, narrow_left.coordinates)

  module _ (f : is_too_wide (held_by u k e heads s g) ≡ false) where
    spans_within : (i : ℕ) → i < 6 → held_span u.radii k s g i ≤ max_span
    spans_within i l = subst (◌≤ max_span) (span-held u k e heads s g i l) (go (dec_lt i u.dimension)) where
      go : Dec (i < u.dimension) → span (held_by u k e heads s g) i ≤ max_span
      go (yes p) = span-within (held_by u k e heads s g) f i p
      go (no p) =
          omega (arith, ap (λ (m : Zonotope). span m i) left_is, wide-span_past left narrow_left i (omega (arith, dimension_is)) l)

    pub packable : Packable u k e heads s g
    packable = record {
      numbers = narrowable u.radii v.sized spans_within;
      radii = parts-narrow u.radii k s g spans_within;
      places-long = v.places-long;
      rows = v.rows;
      factors_few = omega (arith, factors_are, narrow_left.factors);
      factors_past = λ j l.
          ap (λ (m : Zonotope). occurs m.terms j) left_is ∙ wide-occurs_past left narrow_left j (omega (arith, factors_are));
    }

  finish-left : finish weights h q m ≡ drop_unused (held_by u k e heads s g)
  finish-left = finish-reduced weights h q m ∙ ap drop_unused (sym v.is)

  finish-wide_as : is_too_wide (finish weights h q m) ≡ is_too_wide (held_by u k e heads s g)
  finish-wide_as = ap is_too_wide finish-left ∙ too_wide-kept (held_by u k e heads s g)

  -- the two answers
  abbrev answer : Bool → Option PolyZonotope
  answer b = cond b None (Some (pack (finish weights h q m)))

  pub refused : is_too_wide (held_by u k e heads s g) ≡ true → None ≡ finished_as (finish weights h q m)
  refused f = sym (ap answer (finish-wide_as ∙ f))

  pub accepted : is_too_wide (held_by u k e heads s g) ≡ false → {r : PolyZonotope} → r ≡ pack (drop_unused (held_by u k e heads s g))
      → Some r ≡ finished_as (finish weights h q m)
  accepted f p = ap Some (p ∙ ap pack (sym finish-left)) ∙ sym (ap answer (finish-wide_as ∙ f))
