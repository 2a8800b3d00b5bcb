-- The causes of each call on records, for every argument: their numbers in the order in which they are asked.
use mathlib.Core.Path.{◌≡◌, refl}
use mathlib.Core.List.{List, [], ◌∷◌, ◌++◌, map}
use mathlib.Core.Bool.{Bool, ◌||◌}
use Prim.Native.Nat.{ℕ}
use lib.IntN.{ℤ}
use Rattle.model.specs.Limits.{standard_weights}
use Rattle.model.specs.Valid.{is_too_wide}
use Rattle.model.specs.Step.{Step, step}
use Rattle.model.specs.Operations.{tied_sum, renumbered, independent_sum, disturb, reduce}
use Rattle.model.specs.Ranged.{Widths, ranged_step}
use Rattle.model.specs.Hull.{hull}
use Rattle.model.specs.Field.{too_many, too_many_blended}
use Rattle.model.specs.Run.{Cause, ◌if◌, first_of}
use Rattle.model.specs.Library.{Given, of_first, of_second, of_region, of_radii, of_limits, of_step, of_ranged_step, bad_next, examine}
use Rattle.model.specs.Library.{tied_refusal, independent_refusal, hull_refusal, disturb_refusal, reduce_refusal, check_refusal}
use Rattle.model.specs.Library.{step_refusal, ranged_refusal}

-- what causes ask, without their numbers
abbrev tests : List Cause → List Bool
tests cs = map (λ (c : Cause). c.holds) cs

-- causes with these numbers
abbrev numbered : List ℕ → List Bool → List Cause
numbered [] bs = []
numbered (n ∷ ns) [] = []
numbered (n ∷ ns) (b ∷ bs) = (n if b) ∷ numbered ns bs

-- of two sets: the first set's 4, 6, 7, 8; the second set's 4, 5, 6, 7, 8; 11 where there is a next identifier; 9 and 10
pub order_of_sums : (next : ℕ) (g h : Given)
    → (examine g ≡ first_of (numbered (4 ∷ 6 ∷ 7 ∷ 8 ∷ []) (tests (of_first g))))
    × (tied_refusal g h
    ≡ first_of (numbered (4 ∷ 6 ∷ 7 ∷ 8 ∷ 4 ∷ 5 ∷ 6 ∷ 7 ∷ 8 ∷ 9 ∷ 10 ∷ []) (tests (of_first g ++ of_second g h)
    ++ (too_many g.set h.set ∷ is_too_wide (tied_sum standard_weights g.set h.set) ∷ []))))
    × (independent_refusal next g h
    ≡ first_of (numbered (4 ∷ 6 ∷ 7 ∷ 8 ∷ 4 ∷ 5 ∷ 6 ∷ 7 ∷ 8 ∷ 11 ∷ 9 ∷ 10 ∷ []) (tests (of_first g ++ of_second g h)
    ++ (bad_next next g.set
    ∷ too_many g.set (renumbered next h.set)
    ∷ is_too_wide (independent_sum standard_weights next g.set h.set)
    ∷ []))))
    × (hull_refusal next g h
    ≡ first_of (numbered (4 ∷ 6 ∷ 7 ∷ 8 ∷ 4 ∷ 5 ∷ 6 ∷ 7 ∷ 8 ∷ 11 ∷ 9 ∷ 10 ∷ []) (tests (of_first g ++ of_second g h)
    ++ ((bad_next next g.set || bad_next next h.set)
    ∷ too_many_blended g.set h.set
    ∷ is_too_wide (hull standard_weights next g.set h.set)
    ∷ []))))
unfolding examine tied_refusal independent_refusal hull_refusal
order_of_sums next g h = (refl, refl, refl, refl)

-- of one set: its 4, 6, 7, 8; the other arguments'; 10 where there is a result that may be too wide
pub order_of-others : (g : Given) (term_count_limit generator_count_limit n count : ℕ) (radii : List ℕ) (normals bounds : List ℤ)
    → (disturb_refusal n radii g
    ≡ first_of (numbered (4 ∷ 6 ∷ 7 ∷ 8 ∷ 4 ∷ 3 ∷ 5 ∷ 6 ∷ 14 ∷ 10 ∷ []) (tests (of_first g ++ of_radii n radii g.set.dimension)
    ++ (is_too_wide (disturb radii g.set) ∷ []))))
    × (reduce_refusal term_count_limit generator_count_limit g
    ≡ first_of (numbered (4 ∷ 6 ∷ 7 ∷ 8 ∷ 4 ∷ 10 ∷ []) (tests (of_first g ++ of_limits term_count_limit generator_count_limit)
    ++ (is_too_wide (reduce standard_weights term_count_limit generator_count_limit g.set) ∷ []))))
    × (check_refusal n count normals bounds g
    ≡ first_of (numbered (4 ∷ 6 ∷ 7 ∷ 8 ∷ 4 ∷ 3 ∷ 5 ∷ 6 ∷ []) (tests (of_first g ++ of_region n count normals bounds g.set))))
unfolding disturb_refusal reduce_refusal check_refusal
order_of-others g term_count_limit generator_count_limit n count radii normals bounds = (refl, refl, refl)

-- with work slices: 13 before everything; half-widths after the step's numbers
pub order_of_steps : (short : Bool) (p : Step) (d : Widths) (g : Given)
    → (step_refusal short p g
    ≡ first_of (numbered (13 ∷ 4 ∷ 6 ∷ 7 ∷ 8 ∷ 4 ∷ 3 ∷ 5 ∷ 6 ∷ 10 ∷ []) (short ∷ tests (of_first g ++ of_step p g.set.dimension)
    ++ (is_too_wide (step standard_weights p g.set) ∷ []))))
    × (ranged_refusal short p d g
    ≡ first_of (numbered (13 ∷ 4 ∷ 6 ∷ 7 ∷ 8 ∷ 4 ∷ 3 ∷ 3 ∷ 5 ∷ 6 ∷ 6 ∷ 10 ∷ [])
    (short ∷ tests (of_first g ++ of_ranged_step p d g.set.dimension) ++ (is_too_wide (ranged_step standard_weights p d g.set) ∷ []))))
unfolding step_refusal ranged_refusal
order_of_steps short p d g = (refl, refl)
