-- The region of a check: its normals and bounds in two lists are the halfspaces that the body says.
use Rattle.std.specs.Prelude.{◌≡◌, List, Bool, true, false, ℕ, ◌+◌, ◌*◌, ◌/◌, ◌%◌, ◌<◌, ltb, eqb, ℤ, pos}
use Rattle.std.proofs.Math.Path.{refl, sym, ap, ap₂}
use Rattle.std.proofs.Common.{◌∙◌, mod-eq_of_lt, mod-lt, div-lt_iff_lt-mul}
use Rattle.std.proofs.Math.Bool.{◌||◌}
use Rattle.std.proofs.Math.Nat.{mul-add-div_right, div-eq_of_lt, mul-add-mod_self_right}
use native.Mathlib.Omega.{arith}
use Rattle.std.proofs.lemmas.Bool.{eqb-false}
use Rattle.whole.specs.Tab.{tab, any, get_d_tab, tab_cong, tab-row}
use Rattle.whole.specs.Tests.{any_or, any_none, none_at, any-places, or_left}
use Rattle.model.specs.Limits.{max_dimension, max_halfspaces, max_entry, max_bound}
use Rattle.model.specs.Set.{at}
use Rattle.model.specs.Bytes.{word, long}
use Rattle.model.specs.Body.{dimension, halfspace_count, halfspace_at, given_halfspaces}
use Rattle.model.specs.Field.{bad_dimension, beyond}
use Rattle.bodies.specs.Rows.{row_below}
use Rattle.bodies.specs.Fields.{region_counts_out, given_normals, given_bounds}

-- ---- a table in rows of n without gaps
module _ {X : Type 0} (n : ℕ) (F : ℕ → ℕ → X) where
  abbrev flat : ℕ → X
  flat x = F (x / n) (x % n)

  -- place j of row k
  flat-at : (k j : ℕ) → j < n → flat (k * n + j) ≡ F k j
  flat-at k j l =
      ap₂ F (mul-add-div_right {m = n} (omega arith) k j ∙ ap (k +◌) (div-eq_of_lt l) ∙ omega arith)
      (mul-add-mod_self_right k n j ∙ mod-eq_of_lt l)

  -- the row of a place
  row_of : (rows x : ℕ) → 0 < n → x < rows * n → x / n < rows
  row_of rows x h l = (div-lt_iff_lt-mul h).1 l

  -- a test of some entry of some row is one of some entry of the table
  pub any-rows : (p : X → Bool) (rows : ℕ) → 0 < n → {A : Type 0} (v : A → List X) (f : ℕ → A) → ((k : ℕ) → v (f k) ≡ tab n (F k))
      → any (λ a. any p (v a)) (tab rows f) ≡ any p (tab (rows * n) (λ x. F (x / n) (x % n)))
  any-rows p rows h v f e = both _ _
      (λ none. any_none p (rows * n) flat (λ x l.
      none_at p n (F (x / n)) (ap (any p) (sym (e (x / n))) ∙ none_at _ rows f none (x / n) (row_of rows x h l)) (x % n) (mod-lt x h)))
      (λ none. any_none _ rows f (λ k l.
      ap (any p) (e k)
      ∙ any_none p n (F k) (λ j m. ap p (sym (flat-at k j m))
      ∙ none_at p (rows * n) flat none (k * n + j) (omega (arith, row_below n k rows l)))))
    where
      both : (a b : Bool) → (a ≡ false → b ≡ false) → (b ≡ false → a ≡ false) → a ≡ b
      both true true u w = refl
      both true false u w = w refl
      both false b u w = sym (u refl)

-- ---- the region
module _ (b : List ℕ) where
  -- entry j of normal k
  abbrev entry : ℕ → ℕ → ℤ
  entry k j = word b (halfspace_at b k + 4 * j)

  -- the halfspaces of the two lists
  pub given-region : tab (halfspace_count b) (λ k. record {
    normal = tab (dimension b) (λ j. at (given_normals b) (k * dimension b + j));
    bound = at (given_bounds b) k;
  }) ≡ given_halfspaces b
  unfolding given_normals given_bounds given_halfspaces
  given-region =
      tab_cong (halfspace_count b) _ _ (λ k l.
      ap₂ (λ u v. record { normal = u; bound = v })
      (tab-row (pos 0) (dimension b) (halfspace_count b * dimension b) k entry (row_below (dimension b) k (halfspace_count b) l))
      (get_d_tab (halfspace_count b) (λ k. long b (halfspace_at b k + 4 * dimension b)) (pos 0) k l))

  -- counts in limits: there is a coordinate
  pub some_coordinate : region_counts_out b ≡ false → 0 < dimension b
  some_coordinate e =
      let n = bad_dimension (dimension b) in
      let z = eqb (halfspace_count b) 0 in
      let n-out = or_left n z (or_left (n || z) (ltb max_halfspaces (halfspace_count b)) e) in
      let e = eqb-false (dimension b) 0 (or_left (eqb (dimension b) 0) (ltb max_dimension (dimension b)) n-out) in
      omega arith

  -- 6: an entry or a bound is out of range in the region where one is in the lists
  pub given_range : region_counts_out b ≡ false
      → any (λ h. any (beyond max_entry) h.normal || beyond max_bound h.bound) (given_halfspaces b)
      ≡ any (beyond max_entry) (given_normals b) || any (beyond max_bound) (given_bounds b)
  unfolding given_normals given_bounds given_halfspaces
  given_range e =
      any_or _ _ (given_halfspaces b)
      ∙ ap₂ ◌||◌ (any-rows (dimension b) entry (beyond max_entry) (halfspace_count b) (some_coordinate e) (λ h. h.normal) _ (λ k. refl))
      (any-places _ (halfspace_count b) _ ∙ sym (any-places (beyond max_bound) (halfspace_count b) _))
