-- How many coordinates the results of the operations have.
use mathlib.Core.Path.{◌≡◌, refl}
use mathlib.Core.List.{List}
use Prim.Native.Nat.{ℕ}
use Rattle.model.specs.Set.{Zonotope}
use Rattle.model.specs.Finish.{finish, drop_unused, fold_generators, fold_terms, fold_high, drop_zero_generators, drop_zero_terms}
use Rattle.model.specs.Finish.{collect_terms}
use Rattle.model.specs.Operations.{joined, tied_sum, renumbered, independent_sum, reduce}
use Rattle.model.specs.Step as Step
use Rattle.model.specs.Step.{raw, rounded}
use Rattle.model.specs.Ranged as Ranged
use Rattle.model.specs.Hull as Hull

module _ (weights : List ℕ) where
  -- finishing keeps them
  pub finished_coordinates : (terms generators : ℕ) (s : Zonotope) → (finish weights terms generators s).dimension ≡ s.dimension
  unfolding finish drop_unused fold_generators fold_terms fold_high drop_zero_generators drop_zero_terms collect_terms
  finished_coordinates terms generators s = refl

  pub reduced-coordinates : (terms generators : ℕ) (s : Zonotope) → (reduce weights terms generators s).dimension ≡ s.dimension
  unfolding reduce
  reduced-coordinates terms generators s = finished_coordinates terms generators s

  pub tied-coordinates : (s u : Zonotope) → (tied_sum weights s u).dimension ≡ s.dimension
  unfolding tied_sum joined
  tied-coordinates s u = finished_coordinates _ _ (joined s u)

  pub independent_coordinates : (next : ℕ) (s u : Zonotope) → (independent_sum weights next s u).dimension ≡ s.dimension
  unfolding independent_sum
  independent_coordinates next s u = tied-coordinates s (renumbered next u)

  pub step-coordinates : (p : Step.Step) (s : Zonotope) → (Step.step weights p s).dimension ≡ p.rows
  unfolding Step.step rounded raw
  step-coordinates p s = finished_coordinates _ _ (rounded (raw p s))

  pub ranged-coordinates : (p : Step.Step) (d : Ranged.Widths) (s : Zonotope) → (Ranged.ranged_step weights p d s).dimension ≡ p.rows
  unfolding Ranged.ranged_step Ranged.gaining_step rounded raw
  ranged-coordinates p d s = finished_coordinates _ _ (rounded (Ranged.ranged_raw p d s))

  pub hull-coordinates : (next : ℕ) (s u : Zonotope) → (Hull.hull weights next s u).dimension ≡ s.dimension
  unfolding Hull.hull Hull.blended rounded
  hull-coordinates next s u = finished_coordinates _ _ (rounded (Hull.blended next s u))
