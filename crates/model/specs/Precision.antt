-- How precise the operations are, and what is claimed of that: document 01's demand 2. Where nothing is folded, sums and disturbances have
-- exactly the true points, and a step stays close to the true image. The theorems are in proofs/Exact.antt, proofs/Close.antt and
-- proofs/Ranged.antt.
use Rattle.std.specs.Prelude.{◌≡◌, List, [], ◌++◌, true, false, ◌↔◌, ℕ, ◌+◌, ◌*◌, ◌<◌, ◌≤◌, ltb, length, get_or, pos}
use Rattle.rational.specs.Rational.{◌+ℚ◌, ι, ½}
use Rattle.rational.specs.Bounds.{Within}
use Rattle.rational.specs.Near.{Near}
use Rattle.rational.specs.Sum.{All}
use Rattle.model.specs.Limits.{max_terms, max_generators, max_exponent}
use Rattle.model.specs.Set.{Zonotope, radius, blank}
use Rattle.model.specs.Valid.{rises}
use Rattle.model.specs.Finish.{collect_terms, drop_zero_terms, drop_zero_generators}
use Rattle.model.specs.Step.{Step, raw, rounded, inexact_at, step}
use Rattle.model.specs.Ranged.{Widths, ranged_step}
use Rattle.model.specs.Operations.{joined, tied_sum, renumbered, independent_sum, disturb}
use Rattle.model.specs.Body.{step_rows, step_columns}
use Rattle.model.specs.Run.{State, tag, body, cut, refusal, after, outcome}
use Rattle.model.specs.Points.{Vector, value_at, Point, InRange}
use Rattle.model.specs.Motion.{image}

-- ---- where nothing is folded
-- the set after the first two stages of finishing: equal terms added, zeros dropped
abbrev pub cleaned : Zonotope → Zonotope
cleaned s = drop_zero_generators (drop_zero_terms (collect_terms s))

-- finishing to h terms and q generators folds nothing: no exponent is too large, and neither limit is passed
pub record FoldsNothing (h q : ℕ) (s : Zonotope) : Type 0 where
  pub low-exponents : All (λ t. All (◌≤ max_exponent) t.exponents) (cleaned s).terms
  pub few_terms : length (cleaned s).terms ≤ h
  pub few_generators : length (cleaned s).generators ≤ q

-- ---- sums
-- z is the sum of a point of s at the factor values α and a point of u at β
pub record Split (s u : Zonotope) (α β z : Vector) : Type 0 where
  pub first : Vector
  pub second : Vector
  pub first_point : Point s α first
  pub second_point : Point u β second
  pub sum_is : (i : ℕ) → i < s.dimension → z i ≡ first i +ℚ second i

-- the points of a tied sum that folds nothing are exactly the sums of points at the same factor values
abbrev pub TiedExact : Type 0
TiedExact = (s u : Zonotope) → rises ltb s.identifiers ≡ true → s.dimension ≡ u.dimension → (weights : List ℕ)
    → FoldsNothing max_terms max_generators (joined s u) → (α z : Vector) → Point (tied_sum weights s u) α z ↔ Split s u α α z

-- identifier next + j has in γ the value that the j-th of the identifiers ks has in β
abbrev pub Renumbers : ℕ → List ℕ → Vector → Vector → Type 0
Renumbers next ks β γ = (j : ℕ) → j < length ks → γ (next + j) ≡ β (get_or ks j 0)

-- the points of an independent sum that folds nothing are exactly the sums of points of s at α and of u at β, each with values of its own:
-- γ has those of s below `next`, and from there on those of u
abbrev pub IndependentExact : Type 0
IndependentExact = (weights : List ℕ) (next : ℕ) (s u : Zonotope) → rises ltb s.identifiers ≡ true → s.dimension ≡ u.dimension
    → All (◌< next) s.identifiers → FoldsNothing max_terms max_generators (joined s (renumbered next u)) → (α β γ z : Vector)
    → ((k : ℕ) → k < next → γ k ≡ α k) → Renumbers next u.identifiers β γ
    → Point (independent_sum weights next s u) γ z ↔ Split s u α β z

-- ---- disturbances
-- z is a point of s at α, moved by an offset within the radii r
pub record Moved (r : List ℕ) (s : Zonotope) (α z : Vector) : Type 0 where
  pub place : Vector
  pub offset : Vector
  pub point : Point s α place
  pub within : (i : ℕ) → i < s.dimension → Within (offset i) (ι (pos (get_or r i 0)))
  pub sum_is : (i : ℕ) → i < s.dimension → z i ≡ place i +ℚ offset i

-- the points of a disturbed set are exactly the points of the set, moved by offsets within the radii
abbrev pub DisturbedExact : Type 0
DisturbedExact = (r : List ℕ) (s : Zonotope) (α z : Vector) → Point (disturb r s) α z ↔ Moved r s α z

-- ---- steps
-- a step that folds nothing, from a set without independent parts: each coordinate of a point of the result is within u + 1/2 of the true
-- image at the same factor values, u being that coordinate's inexact roundings
abbrev pub StepClose : Type 0
StepClose = (p : Step) (s : Zonotope) → s.generators ≡ [] → ((j : ℕ) → radius s j ≡ 0) → (weights : List ℕ)
    → FoldsNothing max_terms max_generators (rounded (raw p s)) → (α z : Vector) → InRange α → Point (step weights p s) α z
    → (i : ℕ) → i < p.rows → Near (z i) (image p (value_at s α []) i) (ι (pos (inexact_at (raw p s) i)) +ℚ ½)

-- ---- ranged steps
-- every half-width is 0
pub record NoWidths (d : Widths) : Type 0 where
  pub linear : All (λ w. w ≡ 0) d.linear
  pub quadratic : All (λ w. w ≡ 0) d.quadratic

-- a ranged step with half-widths of 0 is the step, and only there is it claimed to be close
abbrev pub ZeroWidths : Type 0
ZeroWidths = (weights : List ℕ) (p : Step) (d : Widths) (s : Zonotope) → NoWidths d → ranged_step weights p d s ≡ step weights p s

-- the bytes of half-widths of 0 for the step in the body b
abbrev pub zero_widths : List ℕ → List ℕ
zero_widths b = blank (4 * (step_rows b * step_columns b) + 4 * (step_rows b * step_columns b * step_columns b))

-- a ranged step f has the body of the step g, then half-widths of 0; both fields are whole
pub record WithZeroWidths (f g : List ℕ) : Type 0 where
  pub tags : (tag f ≡ 9) × (tag g ≡ 2)
  pub whole : (cut f ≡ false) × (cut g ≡ false)
  pub bodies : body f ≡ body g ++ zero_widths (body g)

-- both are refused with the same number or neither is; they leave the same and get the same answer
pub record SameField (st : State) (f g : List ℕ) : Type 0 where
  pub same-refusal : refusal st f ≡ refusal st g
  pub same_state : after st f ≡ after st g
  pub same_outcome : (place : ℕ) → outcome place st f ≡ outcome place st g

-- so it is in every state, whatever the bytes of the step are
abbrev pub ZeroWidthsField : Type 0
ZeroWidthsField = (st : State) (f g : List ℕ) → WithZeroWidths f g → SameField st f g
