-- What each operation makes of the four parts of the radii, computed on sets whose parts all differ and aren't 0, which no body gives.
use mathlib.Core.Path.{◌≡◌, refl}
use mathlib.Core.List.{List, [], ◌∷◌}
use Prim.Native.Nat.{ℕ}
use lib.IntN.{ℤ, pos, negsuc}
use Rattle.whole.specs.Half.{half, half_size}
use Rattle.whole.specs.Round.{round, exact, inexact}
use Rattle.whole.specs.Sum.{sum_by, upto_by}
use Rattle.whole.specs.Tab.{tab, any, all}
use Rattle.rational.specs.Power.{even}
use Rattle.model.specs.Limits.{standard_weights, first_fresh}
use Rattle.model.specs.Set.{Term, Zonotope, Radii, term_sizes, generator_sizes, longer, radius_of}
use Rattle.model.specs.Valid.{order}
use Rattle.model.specs.Finish.{insert, collect_into, those, shift, growth, fold_vector, fold_all, size, smallest, fold_smallest}
use Rattle.model.specs.Finish.{fold_times, keep_at, collect_terms, drop_zero_terms, drop_zero_generators, fold_high, fold_terms}
use Rattle.model.specs.Finish.{fold_generators, drop_unused, finish}
use Rattle.model.specs.Step.{Step, dot, bilinear, raw_centre, raw_linear, raw_square, raw_pair, pairs, remainder, raw, inexact_at}
use Rattle.model.specs.Step.{carried_at, rounded_at, rounded, step}
use Rattle.model.specs.Operations.{insert_identifier, union, align, joined, tied_sum, renumbered, independent_sum, disturb, reduce}
use Rattle.model.specs.Hull.{opposite, blended, hull}
use Rattle.model.proofs.Radii.{carried_only}

-- two numbers
abbrev two : {A : Type 0} → A → A → List A
two a b = a ∷ b ∷ []

abbrev term : List ℕ → ℤ → ℤ → Term
term e g h = record { exponents = e; coefficients = two g h }

-- a set in two coordinates, without generators
abbrev set : List ℕ → ℤ → ℤ → List Term → Radii → Zonotope
set ks k l ts r = record { dimension = 2; identifiers = ks; centre = two k l; terms = ts; generators = []; radii = r }

abbrev parts : List ℕ → List ℕ → List ℕ → List ℕ → Radii
parts c r f g = record { carried = c; rounded = r; folded = f; given = g }

-- (2, 4) + (6, 8)·α with radii 1111 and 2222, and (10, 20) + (2, 4)·α with radii 9753 and 1164; α is 3
abbrev first : Zonotope
first = set (3 ∷ []) (pos 2) (pos 4) (term (1 ∷ []) (pos 6) (pos 8) ∷ []) (parts (two 1 2) (two 10 20) (two 100 200) (two 1000 2000))

abbrev second : Zonotope
second = set (3 ∷ []) (pos 10) (pos 20) (term (1 ∷ []) (pos 2) (pos 4) ∷ []) (parts (two 3 4) (two 50 60) (two 700 800) (two 9000 300))

-- x' = x
abbrev same : Step
same = record {
  rows = 2;
  columns = 2;
  constant = two (pos 0) (pos 0);
  linear = pos 4096 ∷ pos 0 ∷ pos 0 ∷ pos 4096 ∷ [];
  quadratic = tab 8 (λ i. pos 0);
}

-- either sum adds like parts; a disturbance joins the given parts and a reduction, here of (6, 8)·α, the folded ones; a step and a hull
-- carry the radius, a hull the larger one of each coordinate
pub like_parts :
    (tied_sum standard_weights first second
    ≡ set (3 ∷ []) (pos 12) (pos 24) (term (1 ∷ []) (pos 8) (pos 12) ∷ []) (parts (two 4 6) (two 60 80) (two 800 1000) (two 10000 2300)))
    × (independent_sum standard_weights first_fresh first second
    ≡ set (3 ∷ 65536 ∷ []) (pos 12) (pos 24) (term (0 ∷ 1 ∷ []) (pos 2) (pos 4) ∷ term (1 ∷ 0 ∷ []) (pos 6) (pos 8) ∷ [])
    (parts (two 4 6) (two 60 80) (two 800 1000) (two 10000 2300)))
    × (disturb (two 50 70) first
    ≡ set (3 ∷ []) (pos 2) (pos 4) (term (1 ∷ []) (pos 6) (pos 8) ∷ []) (parts (two 1 2) (two 10 20) (two 100 200) (two 1050 2070)))
    × (reduce standard_weights 0 0 first ≡ set [] (pos 2) (pos 4) [] (parts (two 1 2) (two 10 20) (two 106 208) (two 1000 2000)))
    × (step standard_weights same first
    ≡ set (3 ∷ []) (pos 2) (pos 4) (term (1 ∷ []) (pos 6) (pos 8) ∷ []) (carried_only 2 (two 1111 2222)))
    × (hull standard_weights first_fresh first second
    ≡ set (3 ∷ 65536 ∷ []) (pos 6) (pos 12)
    (term (0 ∷ 1 ∷ []) (negsuc 3) (negsuc 7) ∷ term (1 ∷ 0 ∷ []) (pos 4) (pos 6) ∷ term (1 ∷ 1 ∷ []) (pos 2) (pos 2) ∷ [])
    (carried_only 2 (two 9753 2222)))
unfolding tied_sum independent_sum renumbered joined union insert_identifier align disturb reduce step hull blended opposite rounded raw
    raw_centre raw_linear raw_square raw_pair pairs remainder dot bilinear inexact_at carried_at rounded_at round exact inexact term_sizes
    generator_sizes radius_of order sum_by upto_by tab any all finish drop_unused fold_generators fold_terms fold_high drop_zero_generators
    drop_zero_terms collect_terms insert collect_into those fold_all fold_vector shift growth fold_times fold_smallest smallest size keep_at
    longer even half half_size
like_parts = (refl, refl, refl, refl, refl, refl)
