-- What a record means, by the places of its arrays.
use Rattle.std.specs.Prelude.{◌≡◌, refl, List, not, ◌&&◌, ◌||◌, ℕ, ◌+◌, ◌*◌, ◌<◌, ◌≤◌, ltb, length, get_or, ℤ, pos, nat_abs}
use Rattle.std.proofs.Common.{sym, ◌∙◌, ap, ap₂, mod-eq_of_lt, arith}
use Rattle.std.proofs.Math.Bool.{or_assoc}
use Rattle.std.proofs.Math.Nat.{div-eq_of_lt}
use Rattle.whole.specs.Sum.{monoid_ℕ, sum_ℕ, upto_cong}
use Rattle.whole.specs.Tab.{tab, any, all, get_d_tab, length-tab, tab_cong}
use Rattle.model.specs.Set.{at, radius, radius_of, span, term_sizes, generator_sizes, blank}
use Rattle.model.specs.Step.{RawImage, rounded}
use Rattle.model.proofs.Radii.{blank-at}
use Rattle.model.specs.Valid.{order, is_less, rises, is_zero, zeros, factorless, occurs, bad_range, bad_order, is_too_wide}
use Rattle.model.specs.Limits.{record_identifiers, max_span}
use Rattle.zonotope.specs.declared.PolyZonotope.{PolyZonotope}
use Rattle.arrays.specs.Rows.{row, column_sizes, span_at, identifier_out, sum-tab}
use Rattle.arrays.specs.Spare.{in_rows, spare_ℕ, spare_ℤ}
use Rattle.zonotope.specs.declared.Radii.{Radii}
use Rattle.zonotope.specs.Record.{view, parts_of, wide_parts_of, totals_of, anew, firsts, first_parts, spare, spare_parts}
use Rattle.zonotope.specs.Shape.{PartLengths, Sized}
use Rattle.zonotope.specs.Causes.{range_out, order_out}
use Rattle.whole.specs.Tests.{some_below, any-places, any_cong, all_cong, any_or}
use Rattle.arrays.specs.Ascent.{rises_of}

-- a number of a row's used part
pub row_at : (xs : List ℤ) (t n i : ℕ) → i < n → at (row 6 (pos 0) xs t n) i ≡ get_or xs (t * 6 + i) (pos 0)
row_at xs t n i h = get_d_tab n (λ i. get_or xs (t * 6 + i) (pos 0)) (pos 0) i h

-- the sizes at a coordinate, over the rows that f reads
column : {A : Type 0} (v : A → List ℤ) (xs : List ℤ) (n i rows : ℕ) (f : ℕ → A) → i < n
    → ((t : ℕ) → v (f t) ≡ row 6 (pos 0) xs t n) → sum_ℕ (λ a. nat_abs (at (v a) i)) (tab rows f) ≡ column_sizes xs i rows
column v xs n i rows f h e =
    sum-tab monoid_ℕ (λ a. nat_abs (at (v a) i)) rows f
    ∙ upto_cong 0 ◌+◌ _ _ rows (λ t l. ap (λ r. nat_abs (at r i)) (e t) ∙ ap nat_abs (row_at xs t n i h))

-- the radius of a coordinate
pub view-radius : (s : PolyZonotope) → s.dimension ≤ 6 → (i : ℕ) → i < s.dimension → radius (view s) i ≡ get_or (totals_of s.radii) i 0
unfolding view radius_of
view-radius s few i h =
    let part : (l : List ℕ) → get_or (firsts s.dimension l) i 0 ≡ get_or l i 0 = λ l. get_d_tab s.dimension (λ i. get_or l i 0) 0 i h in
    ap₂ ◌+◌ (ap₂ ◌+◌ (ap₂ ◌+◌ (part s.radii.carried) (part s.radii.rounded)) (part s.radii.folded)) (part s.radii.given)
    ∙ sym (get_d_tab 6 (radius_of (parts_of s.radii)) 0 i (omega arith))

-- the span of a coordinate
pub view-span : (s : PolyZonotope) → s.dimension ≤ 6 → (i : ℕ) → i < s.dimension
    → span (view s) i ≡ span_at s.centre s.coefficients s.vectors (totals_of s.radii) s.terms s.generators i
unfolding span view term_sizes generator_sizes
view-span s few i h =
    ap₂ ◌+◌ (ap₂ ◌+◌ (ap₂ ◌+◌ (ap nat_abs (get_d_tab s.dimension (λ i. get_or s.centre i (pos 0)) (pos 0) i h))
    (column (λ t. t.coefficients) s.coefficients s.dimension i s.terms _ h (λ t. refl)))
    (column (λ g. g) s.vectors s.dimension i s.generators _ h (λ t. refl)))
    (view-radius s few i h)

-- radii made anew, from what is carried and what rounding adds, are those of a rounded image
pub anew-rounded : (z : RawImage) {c d : List ℕ} → c ≡ firsts 6 (rounded z).radii.carried → d ≡ firsts 6 (rounded z).radii.rounded
    → wide_parts_of (anew c d) ≡ first_parts 6 (rounded z).radii
unfolding rounded
anew-rounded z p q =
    let none : blank 6 ≡ firsts 6 (blank z.dimension) = tab_cong 6 _ _ (λ i h. sym (blank-at z.dimension i)) in
    λ i. record { carried = p i; rounded = q i; folded = none i; given = none i }

-- ---- the causes of a refusal
-- 6, 7 and 8, as the tests by place decide them
pub view_range : (s : PolyZonotope)
    → bad_range record_identifiers (view s) ≡ range_out s
unfolding bad_range view
view_range s = ap (any identifier_out (tab s.factors (λ i. get_or s.identifiers i 0)) ||◌) (any-places _ s.terms _)

pub view-order : (s : PolyZonotope) → bad_order (view s) ≡ order_out s
unfolding bad_order view
view-order s =
    let a = not (rises ltb (tab s.factors (λ i. get_or s.identifiers i 0))) in
    let b = not (rises (λ u v. is_less (order u v)) (tab s.terms (λ t. row 12 0 s.exponents t s.factors))) in
    let c = some_below s.terms (λ t. factorless (row 12 0 s.exponents t s.factors)) in
    let d = some_below s.terms (λ t. zeros (row 6 (pos 0) s.coefficients t s.dimension)) in
    ap₂ ◌||◌ (ap₂ ◌||◌ (ap₂ ◌||◌ (ap (λ x. a || not x) (rises_of (λ u v. is_less (order u v)) (λ t. t.exponents) s.terms _))
    (any_or (λ t. factorless t.exponents) (λ t. zeros t.coefficients) _
    ∙ ap₂ ◌||◌ (any-places _ s.terms _) (any-places _ s.terms _))
    ∙ sym (or_assoc (a || b) c d))
    (any-places zeros s.generators _))
    (ap not (ap (λ n. all (occurs (view s).terms) (tab n (λ j. j))) (length-tab s.factors _)
    ∙ all_cong _ _ s.factors (λ j. j) (λ j l. any-places _ s.terms _
    ∙ any_cong _ _ s.terms (λ t. t) (λ t m. ap (ltb 0) (get_d_tab s.factors (λ i. get_or s.exponents (t * 12 + i) 0) 0 j l)))))

pub view-wide : (s : PolyZonotope) → s.dimension ≤ 6 → is_too_wide (view s) ≡ some_below s.dimension
    (λ i. ltb max_span (span_at s.centre s.coefficients s.vectors (totals_of s.radii) s.terms s.generators i))
unfolding is_too_wide view
view-wide s few = any_cong _ _ s.dimension (λ i. i) (λ i l. ap (ltb max_span) (view-span s few i l))

-- the centre is one row of 6
centre-row : (xs : List ℤ) (k : ℕ) → spare_ℤ xs 6 (in_rows 6 1 k) ≡ spare_ℤ xs 6 (λ i. ltb i k)
centre-row xs k =
    any_cong _ _ 6 (λ x. x) (λ x h. ap₂ (λ q r. not (ltb q 1 && ltb r k || is_zero (get_or xs x (pos 0)))) (div-eq_of_lt h) (mod-eq_of_lt h))

-- the unused places of arrays that have their lengths: of radii, and of a record
pub spare-parts : (r : Radii) (n : ℕ) → PartLengths r →
    spare_ℕ r.carried (length r.carried) (λ i. ltb i n)
    || spare_ℕ r.rounded (length r.rounded) (λ i. ltb i n)
    || spare_ℕ r.folded (length r.folded) (λ i. ltb i n)
    || spare_ℕ r.given (length r.given) (λ i. ltb i n) ≡ spare_parts r n
spare-parts r n z = rw (z.carried, z.rounded, z.folded, z.given)

pub spare-places : (s : PolyZonotope) → Sized s →
    spare_ℕ s.identifiers (length s.identifiers) (λ i. ltb i s.factors)
    || spare_ℤ s.centre (length s.centre) (in_rows 6 1 s.dimension)
    || spare_ℕ s.exponents (length s.exponents) (in_rows 12 s.terms s.factors)
    || spare_ℤ s.coefficients (length s.coefficients) (in_rows 6 s.terms s.dimension)
    || spare_ℤ s.vectors (length s.vectors) (in_rows 6 s.generators s.dimension)
    || spare_parts s.radii s.dimension ≡ spare s
unfolding spare
spare-places s z = rw (z.identifiers, z.centre, z.exponents, z.coefficients, z.vectors, centre-row s.centre s.dimension)
