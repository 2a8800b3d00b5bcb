-- Promised of the answers of `step` and `ranged_step`.
use mathlib.Core.Path.{◌≡◌}
use mathlib.Core.List.{List}
use Prim.Native.Nat.{ℕ}
use lib.IntN.{ℤ}
use Rattle.model.specs.Limits.{standard_weights}
use Rattle.model.specs.Step.{Step, step}
use Rattle.model.specs.Ranged.{Widths, ranged_step}
use Rattle.zonotope.specs.Answer.{Accepted}
use Rattle.zonotope.specs.declared.PolyZonotope.{PolyZonotope}
use Rattle.zonotope.specs.Record.{given, view}
use Rattle.answers.specs.declared.Changed.{Changed}
use Rattle.answers.specs.Answer.{answered}
use Rattle.answers.specs.Chain.{Usable}
use Rattle.step.specs.Answer.{refusal_of, ranged_refusal_of}
use Rattle.step.proofs.Chain as Chain

-- The set of an accepted step is accepted by the next call, and its unused places are 0.
pub step_chains : (s : PolyZonotope) (p : Step) (w : List ℤ) (e : List ℕ) {r : Changed}
    → r ≡ answered (refusal_of w e p (given s)) s (step standard_weights p (view s)) → r.outcome ≡ Accepted → Usable r.set
step_chains = Chain.step_chains

-- The same of a ranged step.
pub ranged_chains : (s : PolyZonotope) (p : Step) (w : List ℤ) (e : List ℕ) (d : Widths) {r : Changed}
    → r ≡ answered (ranged_refusal_of w e p d (given s)) s (ranged_step standard_weights p d (view s))
    → r.outcome ≡ Accepted → Usable r.set
ranged_chains = Chain.ranged_chains
