-- The linear function a·x of a set's points, by the places of the record's arrays and its radii. An entry of a times a 32-bit number is at
-- most 2^46 in size, and times a radius less than 2^49, so that all sums fit 64 bits whatever the record holds.
use Rattle.std.specs.Prelude.{◌≡◌, refl, Bool, true, false, ℤ, negsuc, neg_ℤ, ◌*ℤ◌}
use Rattle.std.proofs.Math.Path.{sym, ap, ap₂}
use Rattle.std.proofs.Common.{◌∙◌, mul-le-mul, le_trans, add-le-add, le_of_eq, add-mul, one-mul}
use mathlib.Core.List.{List}
use Prim.Native.Nat.{ℕ, ◌+◌, ◌*◌, ◌≤◌}
use native.Mathlib.Omega.{arith}
use Rattle.std.proofs.Math.ListN.{get_or}
use Rattle.std.proofs.Math.IntN.{pos, nat_abs, ◌+ℤ◌, ◌-ℤ◌}
use Rattle.std.specs.Int.{int_min}
use Rattle.std.proofs.lemmas.Int.{ints, clamps}
use Rattle.whole.specs.Size.{abs_add, abs_neg}
use Rattle.whole.specs.Sum.{monoid_ℕ, monoid_ℤ, upto_ℕ, upto_ℤ, upto_cong, upto_suc}
use Rattle.whole.specs.Tab.{tab, get_d_tab}
use Rattle.model.specs.Limits.{max_entry}
use Rattle.model.specs.Set.{at}
use Rattle.model.specs.Finish.{all_even}
use Rattle.model.specs.Step.{dot}
use Rattle.model.specs.Operations.{least, low_end, low_along}
use Rattle.zonotope.specs.declared.PolyZonotope.{PolyZonotope}
use Rattle.arrays.specs.Rows.{row, most_radius, sum-tab}
use Rattle.zonotope.specs.Record.{view, totals_of}
use Rattle.zonotope.specs.View.{row_at, view-radius}

-- every entry of a normal is within document 01's limit
pub record Entries (a : List ℤ) : Type 0 where
  pub within : (k : ℕ) → nat_abs (at a k) ≤ max_entry

-- a·x for row t of 6 numbers, and the most that it can be: 6 · 32,768 · 2^31
abbrev pub row_dot : List ℤ → List ℤ → ℕ → ℕ → ℤ
row_dot a xs t n = upto_ℤ (λ j. at a j *ℤ at xs (t * 6 + j)) n

abbrev pub row_bound : ℕ
row_bound = 422212465065984

-- the least that h terms contribute, how far q generators reach, how far the radii reach
abbrev pub least_sum : List ℤ → List ℕ → List ℤ → ℕ → ℕ → ℕ → ℤ
least_sum a e xs p n h = upto_ℤ (λ t. least (all_even (row 12 0 e t p)) (row_dot a xs t n)) h

abbrev pub size_sum : List ℤ → List ℤ → ℕ → ℕ → ℕ
size_sum a xs n q = upto_ℕ (λ g. nat_abs (row_dot a xs g n)) q

abbrev pub radius_sum : List ℤ → List ℕ → ℕ → ℕ
radius_sum a radii n = upto_ℕ (λ j. nat_abs (at a j) * get_or radii j 0) n

-- the most that the radii can reach: 6 · 32,768 · most_radius
abbrev pub reach_bound : ℕ
reach_bound = 3377699719741440

-- the lower end, by place
abbrev pub low_by : List ℤ → PolyZonotope → List ℕ → ℤ
low_by a s radii =
    (row_dot a s.centre 0 s.dimension +ℤ least_sum a s.exponents s.coefficients s.factors s.dimension s.terms)
    -ℤ pos (size_sum a s.vectors s.dimension s.generators + radius_sum a radii s.dimension)

-- ---- sizes
pub least_size : (b : Bool) (g : ℤ) → nat_abs (least b g) ≤ nat_abs g
unfolding least
least_size true (pos n) = omega arith
least_size true (negsuc n) = omega arith
least_size false g = omega (arith, abs_neg (pos (nat_abs g)))

pub subtract_size : (x : ℤ) (w : ℕ) → nat_abs (x -ℤ pos w) ≤ nat_abs x + w
subtract_size x w = omega (arith, abs_add x (neg_ℤ (pos w)), abs_neg (pos w))

-- an entry times a 32-bit number
pub product-size : (x y : ℤ) → nat_abs x ≤ 32768 → nat_abs y ≤ 2147483648 → nat_abs x * nat_abs y ≤ 70368744177664
product-size x y h k = mul-le-mul h k

-- its size times a radius
pub reach_size : (m r : ℕ) → m ≤ 32768 → r ≤ most_radius → m * r ≤ 562949953290240
reach_size m r h k = mul-le-mul h k

-- a sum that gains a number of size at most B
pub grown : (f : ℕ → ℤ) (n B : ℕ) → nat_abs (upto_ℤ f n) ≤ n * B → nat_abs (f n) ≤ B → nat_abs (upto_ℤ f (n + 1)) ≤ (n + 1) * B
grown f n B h k = rw (upto_suc (pos 0) ◌+ℤ◌ f n) (le_trans (abs_add (upto_ℤ f n) (f n)) (le_trans (add-le-add h k) (le_of_eq (more n B))))
  where
    more : (n B : ℕ) → n * B + B ≡ (n + 1) * B
    more n B = sym (add-mul n 1 B ∙ ap (n * B +◌) (one-mul B))

-- ---- the least contribution of an even monomial
pub least_even : (g : ℤ) → int_min g (pos 0) ≡ least true g
unfolding least
least_even (pos n) = let none : int_min (pos n) (pos 0) ≡ pos 0 = omega (arith, ints, clamps) in none
least_even (negsuc n) = refl

-- ---- the lower end along a normal, by place
module _ (s : PolyZonotope) (a : List ℤ) where
  dot-row : (xs : List ℤ) (t : ℕ) → dot s.dimension (at a) (at (row 6 (pos 0) xs t s.dimension)) ≡ row_dot a xs t s.dimension
  unfolding dot
  dot-row xs t = upto_cong (pos 0) ◌+ℤ◌ _ _ s.dimension (λ j h. ap (at a j *ℤ◌) (row_at xs t s.dimension j h))

  dot-centre : dot s.dimension (at a) (at (tab s.dimension (at s.centre))) ≡ row_dot a s.centre 0 s.dimension
  unfolding dot
  dot-centre =
      upto_cong (pos 0) ◌+ℤ◌ _ _ s.dimension (λ j h. ap (at a j *ℤ◌) (get_d_tab s.dimension (at s.centre) (pos 0) j h
      ∙ ap (at s.centre) (first j)))
    where
      first : (j : ℕ) → j ≡ 0 * 6 + j
      first j = omega arith

  pub view-low : {radii : List ℕ} → s.dimension ≤ 6 → radii ≡ totals_of s.radii → low_along a (view s) ≡ low_by a s radii
  unfolding low_along low_end view
  view-low few e =
      ap₂ ◌-ℤ◌
      (ap₂ ◌+ℤ◌ dot-centre (sum-tab monoid_ℤ _ s.terms _ ∙ upto_cong (pos 0) ◌+ℤ◌ _ _ s.terms
      (λ t h. ap (least _) (dot-row s.coefficients t))))
      (ap pos (ap₂ ◌+◌ (sum-tab monoid_ℕ _ s.generators _ ∙ upto_cong 0 ◌+◌ _ _ s.generators
      (λ g h. ap nat_abs (dot-row s.vectors g)))
      (upto_cong 0 ◌+◌ _ _ s.dimension (λ j h. ap (nat_abs (at a j) *◌) (view-radius s few j h
      ∙ sym (ap (λ (r : List ℕ). get_or r j 0) e))))))
