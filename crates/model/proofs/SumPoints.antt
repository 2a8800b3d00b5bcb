-- The points of sums: a point of each summand gives a point of the tied sum, and, after renumbering, of the independent sum. An offset
-- gives a point of the disturbed set.
use mathlib.Core.Path.{◌≡◌, refl, sym, ◌∙◌, ap, ap₂}
use mathlib.Core.List.{List, ◌++◌}
use mathlib.Core.Bool.{true}
use Prim.Native.Nat.{ℕ, ◌+◌, ◌<◌}
use native.Mathlib.Omega.{arith}
use lib.Dec.{ltb}
use lib.ListN.{length, get_or, length-append}
use lib.IntN.{ℤ, pos}
use Rattle.rational.specs.Rational.{ℚ, ◌+ℚ◌, ◌*ℚ◌, ι}
use Rattle.rational.proofs.Ring.{ring, +ℚ-assoc}
use Rattle.rational.proofs.Pinned.{ι-+}
use Rattle.rational.specs.Bounds.{Within}
use Rattle.rational.proofs.Bounds.{within-+}
use Rattle.rational.specs.Near.{Near}
use Rattle.rational.proofs.Near.{near-+, near_as}
use Rattle.rational.specs.Sum.{All}
use Rattle.rational.proofs.Sum.{sum-++, sum-map, sum_cong, All-++, All-imp}
use Rattle.model.specs.Set.{Term, Zonotope, at, radius}
use Rattle.model.specs.Valid.{rises}
use Rattle.model.specs.Limits.{max_terms, max_generators}
use Rattle.model.specs.Operations.{union, align, aligned, joined, tied_sum, renumbered, independent_sum, disturb}
use Rattle.model.specs.Points.{Vector, monomial, terms_at, generators_at, value_at, Point, InRange}
use Rattle.model.specs.Precision.{Renumbers}
use Rattle.model.proofs.Vectors.{plus_ℤ-at}
use Rattle.model.proofs.Radii.{radius-plus, radius-disturbed}
use Rattle.model.proofs.Parts.{spread, spread-++, generator_parts, generator_parts-++, generators_spread}
use Rattle.model.proofs.Aligned.{Found, monomial-aligned, found_left, found_right}
use Rattle.model.proofs.Values.{same-values, renumbered_points}
use Rattle.model.proofs.FinishCovers.{finish_covers}

-- ---- what the sum comes to
aligned-terms : (α : Vector) (ms : List ℕ) (s : Zonotope) → Found s.identifiers ms → (i : ℕ)
    → terms_at α ms (aligned ms s) i ≡ terms_at α s.identifiers s.terms i
unfolding terms_at
aligned-terms α ms s f i =
    sum-map (λ t. ι (at t.coefficients i) *ℚ monomial α ms t.exponents)
    (λ t. record { exponents = align s.identifiers t.exponents ms; coefficients = t.coefficients }) s.terms
    ∙ sum_cong (λ t. ι (at t.coefficients i) *ℚ monomial α ms (align s.identifiers t.exponents ms))
    (λ t. ι (at t.coefficients i) *ℚ monomial α s.identifiers t.exponents) s.terms
    (λ t. ap (ι (at t.coefficients i) *ℚ◌) (sym (monomial-aligned α f t.exponents)))

pub terms-++ : (α : Vector) (ids : List ℕ) (k l : List Term) (i : ℕ) → terms_at α ids (k ++ l) i ≡ terms_at α ids k i +ℚ terms_at α ids l i
unfolding terms_at
terms-++ α ids k l i = sum-++ (λ t. ι (at t.coefficients i) *ℚ monomial α ids t.exponents) k l

generators-++ : (g h : List (List ℤ)) (b c : List ℚ) → length b ≡ length g → (i : ℕ)
    → generators_at (g ++ h) (b ++ c) i ≡ generators_at g b i +ℚ generators_at h c i
generators-++ g h b c e i =
    generators_spread (g ++ h) (b ++ c) i ∙ ap (λ ps. spread ps i) (generator_parts-++ g h b c e)
    ∙ spread-++ (generator_parts g b) (generator_parts h c) i ∙ sym (ap₂ ◌+ℚ◌ (generators_spread g b i) (generators_spread h c i))

-- centre and terms of the sum are the sums of those
abbrev pub main_at : Zonotope → Vector → ℕ → ℚ
main_at s α i = ι (at s.centre i) +ℚ terms_at α s.identifiers s.terms i

pub joined_main : (s u : Zonotope) → rises ltb s.identifiers ≡ true → (α : Vector) (i : ℕ)
    → main_at (joined s u) α i ≡ main_at s α i +ℚ main_at u α i
unfolding joined
joined_main s u r α i = let ms = union s.identifiers u.identifiers in
    ap₂ ◌+ℚ◌ (ap ι (plus_ℤ-at s.centre u.centre i) ∙ ι-+ (at s.centre i) (at u.centre i))
    (terms-++ α ms (aligned ms s) (aligned ms u) i
    ∙ ap₂ ◌+ℚ◌ (aligned-terms α ms s (found_left s.identifiers u.identifiers r) i)
    (aligned-terms α ms u (found_right s.identifiers u.identifiers) i))
    ∙ regroup (ι (at s.centre i)) (ι (at u.centre i)) (terms_at α s.identifiers s.terms i)
    (terms_at α u.identifiers u.terms i)
  where
    regroup : (a b c d : ℚ) → (a +ℚ b) +ℚ (c +ℚ d) ≡ (a +ℚ c) +ℚ (b +ℚ d)
    regroup a b c d = simp ring

-- the value of the sum is the sum of the values
pub joined-value : (s u : Zonotope) → rises ltb s.identifiers ≡ true → (α : Vector) (b c : List ℚ) → length b ≡ length s.generators
    → (i : ℕ) → value_at (joined s u) α (b ++ c) i ≡ value_at s α b i +ℚ value_at u α c i
unfolding value_at joined
joined-value s u r α b c e i =
    ap₂ ◌+ℚ◌ (joined_main s u r α i) (generators-++ s.generators u.generators b c e i)
    ∙ regroup (main_at s α i) (main_at u α i) (generators_at s.generators b i) (generators_at u.generators c i)
  where
    regroup : (a b c d : ℚ) → (a +ℚ b) +ℚ (c +ℚ d) ≡ (a +ℚ c) +ℚ (b +ℚ d)
    regroup a b c d = simp ring

-- radii add
pub added_radius : (m n : ℕ) {k : ℕ} → k ≡ m + n → ι (pos m) +ℚ ι (pos n) ≡ ι (pos k)
added_radius m n e = sym (ap (λ n. ι (pos n)) e ∙ ι-+ (pos m) (pos n))

-- a point of each summand, at the same factor values, gives a point of the sum
pub joined_points : {s u : Zonotope} {α x y : Vector} → rises ltb s.identifiers ≡ true → s.dimension ≡ u.dimension
    → Point s α x → Point u α y → Point (joined s u) α (λ i. x i +ℚ y i)
unfolding joined
joined_points {s} {u} {α} r e p q = record {
  numbers = p.numbers ++ q.numbers;
  one_each = length-append p.numbers q.numbers ∙ ap₂ ◌+◌ p.one_each q.one_each
      ∙ sym (length-append s.generators u.generators);
  in_range = All-++ p.in_range q.in_range;
  near = λ i h. near_as (near-+ (p.near i h) (q.near i (omega arith)))
      (sym (joined-value s u r α p.numbers q.numbers p.one_each i)) (added_radius (radius s i) (radius u i) (radius-plus
      s.radii u.radii i));
}

-- and of the finished sum
pub tied_point : (weights : List ℕ) {s u : Zonotope} {α x y : Vector} → InRange α → rises ltb s.identifiers ≡ true
    → s.dimension ≡ u.dimension → Point s α x → Point u α y → Point (tied_sum weights s u) α (λ i. x i +ℚ y i)
unfolding tied_sum
tied_point weights {s} {u} w r e p q = (finish_covers weights max_terms max_generators (joined s u)).keeps w (joined_points r e p q)

-- a point of each summand, at values of its own, gives a point of the independent sum at values γ: those of s below `next`, and from there
-- on those of u
pub independent_point : (weights : List ℕ) (next : ℕ) {s u : Zonotope} {α β γ x y : Vector} → InRange γ → rises ltb s.identifiers ≡ true
    → s.dimension ≡ u.dimension → All (◌< next) s.identifiers → ((k : ℕ) → k < next → γ k ≡ α k) → Renumbers next u.identifiers β γ
    → Point s α x → Point u β y → Point (independent_sum weights next s u) γ (λ i. x i +ℚ y i)
unfolding independent_sum renumbered
independent_point weights next {s} {u} w r d b a f p q =
    tied_point weights {s = s} {u = renumbered next u} w r d ((same-values (All-imp a b)).1 p) ((renumbered_points next u f).0 q)

-- what is near stays so where it is moved, by as much more
pub near_moved : {x v r d e : ℚ} → Near x v r → Within d e → Near (x +ℚ d) v (r +ℚ e)
near_moved {v = v} {d = d} n small = record {
  off = n.off +ℚ d;
  small = within-+ n.small small;
  is = ap (◌+ℚ d) n.is ∙ +ℚ-assoc v n.off d;
}

-- an offset within the disturbance's radii leaves a point in the disturbed set
pub disturbed_point : (r : List ℕ) {s : Zonotope} {α x d : Vector} → ((i : ℕ) → i < s.dimension → Within (d i) (ι (pos (get_or r i 0))))
    → Point s α x → Point (disturb r s) α (λ i. x i +ℚ d i)
unfolding disturb value_at
disturbed_point r {s} {α} {x} {d} w p = record {
  numbers = p.numbers;
  one_each = p.one_each;
  in_range = p.in_range;
  near = λ i h. near_as (near_moved (p.near i h) (w i h)) refl
      (added_radius (radius s i) (get_or r i 0) (radius-disturbed s.radii r i));
}
