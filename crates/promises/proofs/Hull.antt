-- Promised of the answers of `hull`.
use mathlib.Core.Path.{◌≡◌}
use Prim.Native.Nat.{ℕ}
use Rattle.model.specs.Limits.{standard_weights}
use Rattle.model.specs.Hull.{hull}
use Rattle.model.specs.Library.{hull_refusal}
use Rattle.zonotope.specs.Answer.{Accepted}
use Rattle.zonotope.specs.declared.PolyZonotope.{PolyZonotope}
use Rattle.zonotope.specs.Record.{given, view}
use Rattle.answers.specs.declared.Changed.{Changed}
use Rattle.answers.specs.Answer.{answered}
use Rattle.answers.specs.Chain.{Usable}
use Rattle.hull.proofs.Chain as Chain

-- The set of an accepted hull is accepted by the next call, and its unused places are 0.
pub hull_chains : (a b : PolyZonotope) (next : ℕ) {r : Changed}
    → r ≡ answered (hull_refusal next (given a) (given b)) a (hull standard_weights next (view a) (view b))
    → r.outcome ≡ Accepted → Usable r.set
hull_chains = Chain.hull_chains
