-- Document 01's marked cases, with the rounding of request A.3, as one table. The theorem is `marked`, in proofs/Marked.antt.
use Rattle.std.specs.Prelude.{◌≡◌, List, [], ◌∷◌, ◌++◌, ℕ, ℤ, pos, negsuc}
use Rattle.std.proofs.Math.Option.{none, some}
use Rattle.whole.specs.Round.{round}
use Rattle.model.specs.Limits.{standard_weights}
use Rattle.model.specs.Set.{Term, Zonotope, Radii}
use Rattle.model.specs.Finish.{Core, fold_term}
use Rattle.model.specs.Step.{Step, step}
use Rattle.model.specs.Run.{begin, refusal}

-- ---- in one coordinate, with the identifier 1
-- the term g·α^e
abbrev pub term : ℕ → ℤ → Term
term e g = record { exponents = e ∷ []; coefficients = g ∷ [] }

-- the centre k and the radius r
abbrev pub about : ℤ → ℕ → Core
about k r = record { centre = k ∷ []; radii = r ∷ [] }

-- a radius of which r is from rounding and f from folding
abbrev pub from : ℕ → ℕ → Radii
from r f = record { carried = 0 ∷ []; rounded = r ∷ []; folded = f ∷ []; given = 0 ∷ [] }

-- a set with the centre 0, one term and the radius 0
abbrev pub single : Term → Zonotope
single t = record { dimension = 1; identifiers = 1 ∷ []; centre = pos 0 ∷ []; terms = t ∷ []; generators = []; radii = from 0 0 }

-- a set without factors
abbrev pub plain : ℤ → Radii → Zonotope
plain k r = record { dimension = 1; identifiers = []; centre = k ∷ []; terms = []; generators = []; radii = r }

-- the step with the entries a of A and q of Q
abbrev pub scalar : ℤ → ℤ → Step
scalar a q = record { rows = 1; columns = 1; constant = pos 0 ∷ []; linear = a ∷ []; quadratic = q ∷ [] }

-- the field of a start set with these four bytes as centre, and coefficient 1
abbrev pub started : List ℕ → List ℕ
started k = (1 ∷ 21 ∷ 0 ∷ []) ++ (1 ∷ 1 ∷ 1 ∷ 0 ∷ []) ++ (1 ∷ 0 ∷ 0 ∷ 0 ∷ []) ++ k ++ (1 ∷ 1 ∷ 0 ∷ 0 ∷ 0 ∷ []) ++ (0 ∷ 0 ∷ 0 ∷ 0 ∷ [])

-- ---- the table
pub record MarkedTable : Type 0 where
  -- round 8,388,608 → 0; 8,388,607 → 0; -8,388,608 → 0; -8,388,609 → -1
  pub half_rounds_to_even : round (pos 8388608) ≡ pos 0
  pub less_rounds_down : round (pos 8388607) ≡ pos 0
  pub minus-half_rounds_to_even : round (negsuc 8388607) ≡ pos 0
  pub more_rounds_down : round (negsuc 8388608) ≡ negsuc 0
  -- fold 3α²: centre +1, radius 2; -3α²: centre -1, radius 2
  pub folds-even : fold_term (term 2 (pos 3)) (about (pos 0) 0) ≡ about (pos 1) 2
  pub folds-negative : fold_term (term 2 (negsuc 2)) (about (pos 0) 0) ≡ about (negsuc 0) 2
  -- the term 1·α with A = 2048: radius 1 alone, of rounding
  pub halves_term : step standard_weights (scalar (pos 2048) (pos 0)) (single (term 1 (pos 1))) ≡ plain (pos 0) (from 1 0)
  -- centre 1,048,575 with coefficient 1 accepted; 1,048,576 with 1 gives 8
  pub widest : refusal begin (started (255 ∷ 255 ∷ 15 ∷ 0 ∷ [])) ≡ none
  pub too_wide : refusal begin (started (0 ∷ 0 ∷ 16 ∷ 0 ∷ [])) ≡ some 8
  -- exponents 32 + 32 fold as even: 4096·α³² squared is 4096·α⁶⁴, so centre 2048 and radius 2048, of folding
  pub folds-high : step standard_weights (scalar (pos 0) (pos 4096)) (single (term 32 (pos 4096))) ≡ plain (pos 2048) (from 0 2048)
