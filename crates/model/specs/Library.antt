-- Single operations on records: which refusal a call gives, by the causes in their order. What it gives where none holds, and that a
-- refusal gives the first set back as it came, the calls' contracts say.
use Rattle.std.specs.Prelude.{List, [], ◌∷◌, ◌++◌, Bool, not, ◌||◌, ℕ, ◌*◌, ltb, eqb, length, ℤ}
use Rattle.std.proofs.Math.Option.{Option}
use Rattle.whole.specs.Tab.{any}
use Rattle.model.specs.Limits.{record_identifiers, first_fresh, last_fresh, max_terms, max_generators, max_halfspaces, max_entry}
use Rattle.model.specs.Limits.{max_disturbance, max_bound, standard_weights}
use Rattle.model.specs.Set.{Zonotope}
use Rattle.model.specs.Valid.{bad_counts, bad_range, bad_order, is_too_wide}
use Rattle.model.specs.Step as Step
use Rattle.model.specs.Operations.{tied_sum, independent_sum, renumbered, disturb, reduce}
use Rattle.model.specs.Ranged.{Widths, ranged_step}
use Rattle.model.specs.Hull.{hull}
use Rattle.model.specs.Field.{bad_dimension, beyond, differs, all_zero, bad_step_range, bad_width_range, too_many, too_many_blended}
use Rattle.model.specs.Run.{Cause, ◌if◌, first_of}

-- a record as it is read: its set, and whether a place that the counts leave unused isn't 0
pub record Given : Type 0 where
  pub set : Zonotope
  pub spare : Bool

-- ---- a set that is given: 4, 6, 7, 8; 6 asks nothing of the radii, as a record's type leaves no negative part
abbrev pub of_first : Given → List Cause
of_first g = (4 if bad_counts g.set) ∷ (6 if bad_range record_identifiers g.set) ∷ (7 if g.spare || bad_order g.set) ∷
    (8 if is_too_wide g.set) ∷ []

-- a second set: 5 stands between 4 and 6
abbrev pub of_second : Given → Given → List Cause
of_second first g =
    (4 if bad_counts g.set)
    ∷ (5 if differs g.set.dimension first.set.dimension)
    ∷ (6 if bad_range record_identifiers g.set)
    ∷ (7 if g.spare || bad_order g.set)
    ∷ (8 if is_too_wide g.set)
    ∷ []

-- an unsafe region of `count` halfspaces in n coordinates, normals one after the other, for a check of a set: 4, 3, 5, 6
abbrev pub of_region : ℕ → ℕ → List ℤ → List ℤ → Zonotope → List Cause
of_region n count normals bounds s =
    (4 if bad_dimension n || eqb count 0 || ltb max_halfspaces count)
    ∷ (3 if differs (length normals) (count * n) || differs (length bounds) count)
    ∷ (5 if differs n s.dimension)
    ∷ (6 if any (beyond max_entry) normals || any (beyond max_bound) bounds)
    ∷ []

-- ---- the calls: the number of the refusal, where there is one
unfoldable pub examine : Given → Option ℕ
examine g = first_of (of_first g)

unfoldable pub tied_refusal : Given → Given → Option ℕ
tied_refusal g h =
    first_of (of_first g ++ of_second g h
    ++ ((9 if too_many g.set h.set) ∷ (10 if is_too_wide (tied_sum standard_weights g.set h.set)) ∷ []))

-- 11: the next identifier is out of its range or not above the first set's identifiers
abbrev pub bad_next : ℕ → Zonotope → Bool
bad_next next s = ltb next first_fresh || ltb last_fresh next || any (λ k. not (ltb k next)) s.identifiers

unfoldable pub independent_refusal : ℕ → Given → Given → Option ℕ
independent_refusal next g h =
    first_of (of_first g ++ of_second g h
    ++ ((11 if bad_next next g.set)
    ∷ (9 if too_many g.set (renumbered next h.set))
    ∷ (10 if is_too_wide (independent_sum standard_weights next g.set h.set))
    ∷ []))

-- a hull: the next identifier is above both sets' identifiers
unfoldable pub hull_refusal : ℕ → Given → Given → Option ℕ
hull_refusal next g h =
    first_of (of_first g ++ of_second g h
    ++ ((11 if bad_next next g.set || bad_next next h.set)
    ∷ (9 if too_many_blended g.set h.set)
    ∷ (10 if is_too_wide (hull standard_weights next g.set h.set))
    ∷ []))

-- radii for n coordinates, added to a set of this dimension: 4, 3, 5, 6, 14
abbrev pub of_radii : ℕ → List ℕ → ℕ → List Cause
of_radii n radii dimension =
    (4 if bad_dimension n)
    ∷ (3 if differs (length radii) n)
    ∷ (5 if differs n dimension)
    ∷ (6 if any (ltb max_disturbance) radii)
    ∷ (14 if all_zero radii)
    ∷ []

unfoldable pub disturb_refusal : ℕ → List ℕ → Given → Option ℕ
disturb_refusal n radii g =
    first_of (of_first g ++ (of_radii n radii g.set.dimension ++ ((10 if is_too_wide (disturb radii g.set)) ∷ [])))

-- a reduction's limits: 4
abbrev pub of_limits : ℕ → ℕ → List Cause
of_limits term_count_limit generator_count_limit = (4 if ltb max_terms term_count_limit || ltb max_generators generator_count_limit) ∷ []

unfoldable pub reduce_refusal : ℕ → ℕ → Given → Option ℕ
reduce_refusal term_count_limit generator_count_limit g =
    first_of (of_first g
    ++ (of_limits term_count_limit generator_count_limit
    ++ ((10 if is_too_wide (reduce standard_weights term_count_limit generator_count_limit g.set)) ∷ [])))

-- a check of a set against a region
unfoldable pub check_refusal : ℕ → ℕ → List ℤ → List ℤ → Given → Option ℕ
check_refusal n count normals bounds g = first_of (of_first g ++ of_region n count normals bounds g.set)

-- 4: a step's count of coordinates is out of limits
abbrev pub bad_step_counts : Step.Step → Bool
bad_step_counts p = bad_dimension p.rows || bad_dimension p.columns

-- 3: a list of a step hasn't the length that the counts give
abbrev pub bad_step_lengths : Step.Step → Bool
bad_step_lengths p =
    differs (length p.constant) p.rows
    || differs (length p.linear) (p.rows * p.columns)
    || differs (length p.quadratic) (p.rows * p.columns * p.columns)

-- a step's own numbers, for a set of this dimension: 4, 3, 5, 6
abbrev pub of_step : Step.Step → ℕ → List Cause
of_step p dimension =
    (4 if bad_step_counts p)
    ∷ (3 if bad_step_lengths p)
    ∷ (5 if differs p.columns dimension)
    ∷ (6 if bad_step_range p)
    ∷ []

-- a call with work slices, by its own causes and its result: 13 for a slice that is too short comes before everything
abbrev pub work_refusal : Bool → Given → List Cause → Zonotope → Option ℕ
work_refusal short g own result = first_of ((13 if short) ∷ of_first g ++ (own ++ ((10 if is_too_wide result) ∷ [])))

-- a step
unfoldable pub step_refusal : Bool → Step.Step → Given → Option ℕ
step_refusal short p g = work_refusal short g (of_step p g.set.dimension) (Step.step standard_weights p g.set)

-- 3: a list of half-widths hasn't the length that the step's counts give
abbrev pub bad_width_lengths : Step.Step → Widths → Bool
bad_width_lengths p d =
    differs (length d.linear) (p.rows * p.columns) || differs (length d.quadratic) (p.rows * p.columns * p.columns)

-- a ranged step's own numbers: the half-widths' causes stand after the step's of the same number
abbrev pub of_ranged_step : Step.Step → Widths → ℕ → List Cause
of_ranged_step p d dimension =
    (4 if bad_step_counts p)
    ∷ (3 if bad_step_lengths p)
    ∷ (3 if bad_width_lengths p d)
    ∷ (5 if differs p.columns dimension)
    ∷ (6 if bad_step_range p)
    ∷ (6 if bad_width_range p d)
    ∷ []

-- a ranged step
unfoldable pub ranged_refusal : Bool → Step.Step → Widths → Given → Option ℕ
ranged_refusal short p d g = work_refusal short g (of_ranged_step p d g.set.dimension) (ranged_step standard_weights p d g.set)
