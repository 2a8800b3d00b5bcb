-- What examining a record gives, in plain numbers: its counts are in their limits, unused places hold 0, and no number exceeds the limit
-- of a span.
use Rattle.std.specs.Prelude.{◌≡◌, Bool, true, false, not, ◌||◌, ℕ, zero, suc, ◌+◌, ◌*◌, ◌/◌, ◌%◌, ◌<◌, ◌≤◌, eqb, ℤ, pos}
use Rattle.std.proofs.Math.Path.{refl}
use Rattle.std.proofs.Common.{sym, ◌∙◌}
use mathlib.Core.List.{List}
use Rattle.std.proofs.Math.Bool.{and-false}
use Rattle.std.proofs.Math.Decide.{dec_lt}
use native.Mathlib.Omega.{arith}
use Rattle.std.proofs.Math.Dec.{ltb}
use Rattle.std.proofs.Math.ListN.{get_or}
use Rattle.std.proofs.Math.IntN.{nat_abs}
use borrow.Author.Tests.{ltb-false, eqb-true, not-false, le-ltb}
use Rattle.whole.specs.Tab.{tab, any, length-tab, get_d_tab, get_d_tab_past}
use Rattle.whole.specs.Size.{abs_zero}
use Rattle.whole.specs.Sum.{sum_by, sum_ℕ}
use Rattle.model.specs.Limits.{max_span}
use Rattle.model.specs.Set as Set
use Rattle.model.specs.Set.{Term, at, radius, span, term_sizes, generator_sizes}
use Rattle.model.specs.Valid.{bad_counts, is_too_wide}
use Rattle.model.proofs.Tests.{or_false, any_false, tab-all}
use Rattle.model.proofs.Radii.{radius_past}
use Rattle.model.proofs.Shape.{counted}
use Rattle.zonotope.specs.declared.Radii.{Radii}
use Rattle.zonotope.specs.declared.PolyZonotope.{PolyZonotope}
use Rattle.arrays.specs.Rows.{row}
use Rattle.arrays.specs.Spare.{spare_ℕ, spare_ℤ, in_rows}
use Rattle.zonotope.specs.Record.{firsts, view, spare_parts, spare}
use Rattle.zonotope.proofs.ViewPack.{view_shaped}

-- the tests 4, 7 and 8 of a record that is accepted, as far as sums need them
pub record Examined (s : PolyZonotope) : Type 0 where
  pub counts : bad_counts (view s) ≡ false
  pub unused : spare s ≡ false
  pub narrow : is_too_wide (view s) ≡ false

-- ---- counts
pub record FewRows (s : PolyZonotope) : Type 0 where
  pub factors_few : s.factors ≤ 12
  pub terms_few : s.terms ≤ 40
  pub generators_few : s.generators ≤ 24

pub counts : (s : PolyZonotope) → Examined s → FewRows s
unfolding view
counts s x =
    let c = counted (view s) x.counts in
    let p = c.factors_few in
    let h = c.terms_few in
    let q = c.generators_few in
    record {
      factors_few = rw (length-tab s.factors) at p;
      terms_few = rw (length-tab s.terms) at h;
      generators_few = rw (length-tab s.generators) at q;
    }

-- ---- unused places
-- where no unused place is other than 0, each is 0
zero_unused : (f : ℕ → ℕ) (used : ℕ → Bool) (n : ℕ) → any (λ x. not (used x || eqb (f x) 0)) (tab n (λ x. x)) ≡ false
    → (x : ℕ) → x < n → used x ≡ false → f x ≡ 0
zero_unused f used n e x h u =
    let a = not-false (used x || eqb (f x) 0) (tab-all n (λ x. x) (any_false _ (tab n (λ x. x)) e) x h) in
    eqb-true (f x) 0 (go (used x) u a)
  where
    go : (b : Bool) → b ≡ false → b || eqb (f x) 0 ≡ true → eqb (f x) 0 ≡ true
    go b p q = rw p at q

-- what a table doesn't show is its default, so the table shows all
shown : {A : Type 0} (d : A) (n : ℕ) (f : ℕ → A) (i : ℕ) → (n ≤ i → f i ≡ d) → f i ≡ get_or (tab n f) i d
shown d n f i h = go (dec_lt i n) where
  go : Dec (i < n) → f i ≡ get_or (tab n f) i d
  go (yes l) = sym (get_d_tab n f d i l)
  go (no l) = h (omega arith) ∙ sym (get_d_tab_past n f d i (omega arith))

-- a place past the first n of its row is unused
outside_row : (h n t j : ℕ) → j < 6 → n ≤ j → in_rows 6 h n (t * 6 + j) ≡ false
outside_row h n t j l m =
    let e : (t * 6 + j) % 6 ≡ j = omega arith in
    rw (e, le-ltb j n m) (and-false (ltb ((t * 6 + j) / 6) h))

-- a term of a sum is at most the sum
part : {A : Type 0} (f : A → ℕ) (n : ℕ) (g : ℕ → A) (t : ℕ) → t < n → f (g t) ≤ sum_ℕ f (tab n g)
unfolding tab sum_by
part f zero g t h = absurd (omega arith)
part f (suc n) g zero h = omega arith
part f (suc n) g (suc t) h = let p = part f n (λ i. g (suc i)) t (omega arith) in omega arith

-- ---- radii: the parts of a record are those of its set, continued by zeros
pub record RadiiWide (r : Radii) (m : Set.Radii) : Type 0 where
  pub carried : (i : ℕ) → i < 6 → get_or r.carried i 0 ≡ get_or m.carried i 0
  pub rounded : (i : ℕ) → i < 6 → get_or r.rounded i 0 ≡ get_or m.rounded i 0
  pub folded : (i : ℕ) → i < 6 → get_or r.folded i 0 ≡ get_or m.folded i 0
  pub given : (i : ℕ) → i < 6 → get_or r.given i 0 ≡ get_or m.given i 0

-- ---- rows of 6 numbers
-- row t of the coefficients, and of the generators
abbrev pub term_row : PolyZonotope → ℕ → List ℤ
term_row s t = row 6 (pos 0) s.coefficients t s.dimension

abbrev pub generator_row : PolyZonotope → ℕ → List ℤ
generator_row s t = row 6 (pos 0) s.vectors t s.dimension

-- the first n rows of a list hold the vectors f 0, f 1 .., 0 where they end, and no number is larger than a span may be
pub record Holds (xs : List ℤ) (n : ℕ) (f : ℕ → List ℤ) : Type 0 where
  pub wide : (t j : ℕ) → t < n → j < 6 → get_or xs (t * 6 + j) (pos 0) ≡ at (f t) j
  pub small : (t j : ℕ) → t < n → nat_abs (at (f t) j) ≤ max_span

module _ (s : PolyZonotope) (x : Examined s) where
  -- the test for unused places, by its parts
  unused_parts : (spare_ℤ s.centre 6 (λ i. ltb i s.dimension) ≡ false)
      × (spare_ℤ s.coefficients 240 (in_rows 6 s.terms s.dimension) ≡ false)
      × (spare_ℤ s.vectors 144 (in_rows 6 s.generators s.dimension) ≡ false)
      × (spare_parts s.radii s.dimension ≡ false)
  unfolding spare
  unused_parts =
      let a = or_false _ (spare_parts s.radii s.dimension) x.unused in
      let b = or_false _ (spare_ℤ s.vectors 144 (in_rows 6 s.generators s.dimension)) a.0 in
      let c = or_false _ (spare_ℤ s.coefficients 240 (in_rows 6 s.terms s.dimension)) b.0 in
      let d = or_false _ (spare_ℕ s.exponents 480 (in_rows 12 s.terms s.factors)) c.0 in
      let e = or_false (spare_ℕ s.identifiers 12 (λ i. ltb i s.factors)) (spare_ℤ s.centre 6 (λ i. ltb i s.dimension)) d.0 in
      (e.1, c.1, b.1, a.1)

  rows-wide : (xs : List ℤ) (h n t j : ℕ) → spare_ℤ xs n (in_rows 6 h s.dimension) ≡ false → j < 6 → t * 6 + j < n
      → get_or xs (t * 6 + j) (pos 0) ≡ at (row 6 (pos 0) xs t s.dimension) j
  rows-wide xs h n t j e l m = shown (pos 0) s.dimension (λ i. get_or xs (t * 6 + i) (pos 0)) j (λ o.
      abs_zero (zero_unused (λ x. nat_abs (get_or xs x (pos 0))) (in_rows 6 h s.dimension) n e (t * 6 + j) m
      (outside_row h s.dimension t j l o)))

  span_small : (i : ℕ) → i < s.dimension → span (view s) i ≤ max_span
  unfolding is_too_wide view
  span_small i h =
      ltb-false max_span (span (view s) i) (tab-all s.dimension (λ i. i) (any_false _ (tab s.dimension (λ i. i)) x.narrow) i h)

  -- what is within the span of each coordinate is within the limit; past the last coordinate stands 0
  limited : {A : Type 0} (size : A → ℕ) (d : A) (f : ℕ → A) (i : ℕ) → size d ≡ 0
      → (i < s.dimension → size (get_or (tab s.dimension f) i d) ≤ span (view s) i) → size (get_or (tab s.dimension f) i d) ≤ max_span
  limited size d f i z h = go (dec_lt i s.dimension) where
    go : Dec (i < s.dimension) → size (get_or (tab s.dimension f) i d) ≤ max_span
    go (yes l) = omega (arith, h l, span_small i l)
    go (no l) = rw (get_d_tab_past s.dimension f d i (omega arith)) (omega (arith, z))

  -- ---- what the arrays hold
  pub centre-wide : (i : ℕ) → i < 6 → get_or s.centre i (pos 0) ≡ at (view s).centre i
  unfolding view
  centre-wide i h = shown (pos 0) s.dimension (λ i. get_or s.centre i (pos 0)) i (λ l.
      abs_zero (zero_unused (λ i. nat_abs (get_or s.centre i (pos 0))) (λ i. ltb i s.dimension) 6 unused_parts.0 i h
      (le-ltb i s.dimension l)))

  pub centre_small : (i : ℕ) → nat_abs (at (view s).centre i) ≤ max_span
  unfolding view span
  centre_small i = limited nat_abs (pos 0) (λ i. get_or s.centre i (pos 0)) i refl (λ l. omega arith)

  -- a part of the radii in which no unused place is other than 0
  part-wide : (r : List ℕ) → spare_ℕ r 6 (λ i. ltb i s.dimension) ≡ false → (i : ℕ) → i < 6 → get_or r i 0 ≡
      get_or (firsts s.dimension r) i 0
  part-wide r e i h = shown 0 s.dimension (λ i. get_or r i 0) i (λ l.
      zero_unused (λ i. get_or r i 0) (λ i. ltb i s.dimension) 6 e i h (le-ltb i s.dimension l))

  pub radii-wide : RadiiWide s.radii (view s).radii
  unfolding view
  radii-wide =
      let a = or_false _ (spare_ℕ s.radii.given 6 (λ i. ltb i s.dimension)) unused_parts.3 in
      let b = or_false _ (spare_ℕ s.radii.folded 6 (λ i. ltb i s.dimension)) a.0 in
      let c = or_false (spare_ℕ s.radii.carried 6 (λ i. ltb i s.dimension))
      (spare_ℕ s.radii.rounded 6 (λ i. ltb i s.dimension)) b.0 in
      record {
        carried = part-wide s.radii.carried c.0;
        rounded = part-wide s.radii.rounded c.1;
        folded = part-wide s.radii.folded b.1;
        given = part-wide s.radii.given a.1;
      }

  pub radii_small : (i : ℕ) → radius (view s) i ≤ max_span
  unfolding view span
  radii_small i = go (dec_lt i s.dimension) where
    go : Dec (i < s.dimension) → radius (view s) i ≤ max_span
    go (yes l) = omega (arith, span_small i l)
    go (no l) = omega (arith, radius_past (view_shaped s).radii-long i (omega arith))

  pub terms-held : Holds s.coefficients s.terms (term_row s)
  unfolding view span term_sizes
  terms-held =
      let few = (counts s x).terms_few in
      record {
        wide = λ t j h l. rows-wide s.coefficients s.terms 240 t j unused_parts.1 l (omega arith);
        small = λ t i h. limited nat_abs (pos 0) (λ j. get_or s.coefficients (t * 6 + j) (pos 0)) i refl (λ l.
            omega (
              arith,
              part (λ (u : Term). nat_abs (at u.coefficients i)) s.terms
                  (λ t. record { exponents = row 12 0 s.exponents t s.factors; coefficients = term_row s t }) t h,
            ));
      }

  pub generators_held : Holds s.vectors s.generators (generator_row s)
  unfolding view span generator_sizes
  generators_held =
      let few = (counts s x).generators_few in
      record {
        wide = λ t j h l. rows-wide s.vectors s.generators 144 t j unused_parts.2 l (omega arith);
        small = λ t i h. limited nat_abs (pos 0) (λ j. get_or s.vectors (t * 6 + j) (pos 0)) i refl (λ l.
            omega (arith, part (λ (g : List ℤ). nat_abs (at g i)) s.generators (generator_row s) t h));
      }
