-- The bodies of the other kinds: their counts, and bodies as long as their counts say.
use Rattle.std.specs.Prelude.{◌≡◌, refl, List, [], ◌∷◌, map, Bool, false, not, ◌||◌, ℕ, suc, ◌+◌, ◌*◌, ◌/◌, ◌%◌, ◌≤◌, ltb, eqb, length, ℤ, pos, negsuc, nat_abs}
use Rattle.std.proofs.Common.{sym, ap, ap₂, ◌∙◌, arith, le-ltb, lt-ltb}
use Rattle.whole.specs.Tab.{tab, any}
use Rattle.model.specs.Limits.{max_terms, max_generators, max_halfspaces}
use Rattle.model.specs.Bytes.{word, long}
use Rattle.model.specs.Body.{dimension, step_rows, step_columns, step_length, ranged_length}
use Rattle.model.specs.Body.{term_count_limit, generator_count_limit, halfspace_count, halfspace_at}
use Rattle.model.specs.Field.{bad_dimension, all_zero, negative, beyond}
use Rattle.model.proofs.Tests.{zero-radii}

module _ (b : List ℕ) where
  -- ---- a step
  -- 4: whether a count is out of limits
  abbrev pub step_counts_out : Bool
  step_counts_out = bad_dimension (step_rows b) || bad_dimension (step_columns b)

  -- a body at least as long as its counts say, whose c, A and Q have these numbers of entries
  pub record StepBody (c a q : ℕ) : Type 0 where
    pub long : step_length b ≤ length b
    pub constant : c ≡ step_rows b
    pub linear : a ≡ step_rows b * step_columns b
    pub quadratic : q ≡ step_rows b * step_columns b * step_columns b

  -- a ranged step's, with these numbers of half-widths
  pub record WidthsBody (a q : ℕ) : Type 0 where
    pub long : length b ≡ ranged_length b
    pub linear : a ≡ step_rows b * step_columns b
    pub quadratic : q ≡ step_rows b * step_columns b * step_columns b

  -- ---- a disturbance
  -- a body of n radii
  abbrev pub radii_length : ℕ
  radii_length = 1 + 4 * dimension b

  -- ---- a reduction
  -- 4: whether a limit is larger than a set's
  abbrev pub limits_out : Bool
  limits_out = ltb max_terms (term_count_limit b) || ltb max_generators (generator_count_limit b)

  -- ---- a check
  -- 4: whether a count is out of limits
  abbrev pub region_counts_out : Bool
  region_counts_out = bad_dimension (dimension b) || eqb (halfspace_count b) 0 || ltb max_halfspaces (halfspace_count b)

  -- where the last halfspace ends
  abbrev pub region_length : ℕ
  region_length = halfspace_at b (halfspace_count b)

  -- a body with counts in limits and as long as they say, whose normals and bounds have these numbers of entries
  pub record RegionBody (normals bounds : ℕ) : Type 0 where
    pub counts : region_counts_out ≡ false
    pub long : length b ≡ region_length
    pub normals_long : normals ≡ halfspace_count b * dimension b
    pub bounds_long : bounds ≡ halfspace_count b

  -- the normals one after the other, and the bounds
  unfoldable pub given_normals : List ℤ
  given_normals = tab (halfspace_count b * dimension b) (λ x. word b (halfspace_at b (x / dimension b) + 4 * (x % dimension b)))

  unfoldable pub given_bounds : List ℤ
  given_bounds = tab (halfspace_count b) (λ k. long b (halfspace_at b k + 4 * dimension b))

-- ---- laws
-- the sizes of words are all zero where none is negative or above 0
sizes_above : (zs : List ℤ) → any (ltb 0) (map nat_abs zs) ≡ any (λ z. negative z || beyond 0 z) zs
unfolding any
sizes_above [] = refl
sizes_above (pos n ∷ zs) =
    ap₂ ◌||◌ (sym (ap (◌|| ltb 0 n) (le-ltb n 0 (omega arith)))) (sizes_above zs)
sizes_above (negsuc n ∷ zs) = ap (◌|| any (ltb 0) (map nat_abs zs)) (lt-ltb 0 (suc n) (omega arith))

pub zero-words : (zs : List ℤ) → not (any (λ z. negative z || beyond 0 z) zs) ≡ all_zero (map nat_abs zs)
zero-words zs = sym (zero-radii (map nat_abs zs) ∙ ap not (sizes_above zs))
