-- Promised of the definitions: how precise sums, disturbances and steps are (demand 2), and what finishing leaves.
use mathlib.Core.Path.{◌≡◌}
use mathlib.Core.List.{List, []}
use mathlib.Core.Bool.{true}
use mathlib.Core.Logic.{◌↔◌}
use Prim.Native.Nat.{ℕ, ◌<◌, ◌≤◌, ◌+◌}
use lib.Dec.{ltb}
use lib.ListN.{get_or}
use lib.IntN.{pos}
use Rattle.rational.specs.Rational.{ι, ◌+ℚ◌, ½}
use Rattle.rational.specs.Near.{Near}
use Rattle.rational.specs.Sum.{All}
use Rattle.model.specs.Limits.{max_terms, max_generators}
use Rattle.model.specs.Set.{Zonotope, radius, span, plus_ℕ}
use Rattle.model.specs.Valid.{rises}
use Rattle.model.specs.Finish.{finish, Core, fold_until, folds}
use Rattle.model.specs.Step.{Step, rounded, raw, step, inexact_at}
use Rattle.model.specs.Operations.{joined, tied_sum, renumbered, independent_sum, disturb}
use Rattle.model.specs.Ranged.{Widths, ranged_step}
use Rattle.model.specs.Run.{State}
use Rattle.model.specs.Points.{Vector, Point, InRange, value_at}
use Rattle.model.specs.Motion.{image}
use Rattle.model.specs.Precision.{FoldsNothing, Split, Renumbers, Moved, NoWidths, WithZeroWidths, SameField}
use Rattle.model.proofs.FirstBySize.{FirstBySize}
use Rattle.model.proofs.Shape.{Valid}
use Rattle.model.proofs.Finished.{Ready, Finished}
use Rattle.model.proofs.Exact as Exact
use Rattle.model.proofs.Close as Close
use Rattle.model.proofs.Ranged as Ranged
use Rattle.model.proofs.FixedPoint as FixedPoint
use Rattle.model.proofs.Finished as ModelFinished
use Rattle.model.proofs.FirstBySize as ModelFirstBySize
use Rattle.model.proofs.Narrower as Narrower
use Rattle.model.proofs.Folding as Folding

-- The points of a tied sum that folds nothing are exactly the sums of points at the same factor values.
pub tied-exact : (s u : Zonotope) → rises ltb s.identifiers ≡ true → s.dimension ≡ u.dimension → (weights : List ℕ)
    → FoldsNothing max_terms max_generators (joined s u)
    → (α z : Vector) → Point (tied_sum weights s u) α z ↔ Split s u α α z
tied-exact = Exact.tied-exact

-- The points of an independent sum that folds nothing are exactly the sums of points at values of their own.
pub independent_exact : (weights : List ℕ) (next : ℕ) (s u : Zonotope) → rises ltb s.identifiers ≡ true → s.dimension ≡ u.dimension
    → All (◌< next) s.identifiers → FoldsNothing max_terms max_generators (joined s (renumbered next u))
    → (α β γ z : Vector) → ((k : ℕ) → k < next → γ k ≡ α k) → Renumbers next u.identifiers β γ
    → Point (independent_sum weights next s u) γ z ↔ Split s u α β z
independent_exact = Exact.independent_exact

-- The points of a disturbed set are exactly those of the set, moved within the radii.
pub disturbed-exact : (r : List ℕ) (s : Zonotope) (α z : Vector) → Point (disturb r s) α z ↔ Moved r s α z
disturbed-exact = Exact.disturbed-exact

-- A step that folds nothing, from a set without independent parts, is within u + 1/2 of the true image, u being a coordinate's inexact
-- roundings.
pub step_close : (p : Step) (s : Zonotope) → s.generators ≡ [] → ((j : ℕ) → radius s j ≡ 0) → (weights : List ℕ)
    → FoldsNothing max_terms max_generators (rounded (raw p s))
    → (α z : Vector) → InRange α → Point (step weights p s) α z
    → (i : ℕ) → i < p.rows → Near (z i) (image p (value_at s α []) i) (ι (pos (inexact_at (raw p s) i)) +ℚ ½)
step_close = Close.step_close

-- A ranged step with half-widths of 0 alone is the step.
pub zero-widths : (weights : List ℕ) (p : Step) (d : Widths) (s : Zonotope) → NoWidths d → ranged_step weights p d s ≡ step weights p s
zero-widths = Ranged.zero-widths

-- A field of tag 9 with such half-widths leaves and answers what the step with its entries does.
pub zero-widths-field : (st : State) (f g : List ℕ) → WithZeroWidths f g → SameField st f g
zero-widths-field = Ranged.zero-widths-field

-- A valid set is a fixed point of finishing.
pub finish_valid : (weights : List ℕ) {largest : ℕ} {s : Zonotope} → Valid largest s → finish weights max_terms max_generators s ≡ s
finish_valid = FixedPoint.finish_valid

-- A finished set is sorted, has no zero term or generator, keeps its limits and has no unused factor.
pub finished : (weights : List ℕ) (term_count_limit generator_count_limit : ℕ) {s : Zonotope} → Ready s
    → Finished term_count_limit generator_count_limit s (finish weights term_count_limit generator_count_limit s)
finished = ModelFinished.finished

-- Folding the smallest one at a time keeps the first by size, then by place.
pub first_by_size : {A : Type 0} (f : A → ℕ) (fold : A → Core → Core) → ((a b : A) (k : Core) → fold a (fold b k) ≡ fold b (fold a k))
    → (limit : ℕ) (k : Core) (l : List A) → FirstBySize f fold limit k l (fold_until f fold limit k l)
first_by_size = ModelFirstBySize.first_by_size

-- Finishing widens no span.
pub finish_narrower : (weights : List ℕ) (term_count_limit generator_count_limit : ℕ) (s : Zonotope) (i : ℕ)
    → span (finish weights term_count_limit generator_count_limit s) i ≤ span s i
finish_narrower = Narrower.finish_narrower

-- What folding adds joins the folded parts.
pub finish_folded : (weights : List ℕ) (h q : ℕ) (s : Zonotope)
    → (finish weights h q s).radii.folded ≡ plus_ℕ s.radii.folded (folds weights h q s)
finish_folded = Folding.finish_folded

-- Finishing leaves the other parts, so that a radius grows by what folding adds.
pub finish-radius : (weights : List ℕ) (h q : ℕ) (s : Zonotope) (i : ℕ)
    → radius (finish weights h q s) i ≡ radius s i + get_or (folds weights h q s) i 0
finish-radius = Folding.finish-radius
