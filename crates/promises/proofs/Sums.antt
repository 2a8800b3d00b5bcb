-- Promised of the answers of `disturb`, `reduce`, `tied_sum` and `independent_sum`.
use mathlib.Core.Path.{◌≡◌}
use mathlib.Core.List.{List}
use Prim.Native.Nat.{ℕ}
use Rattle.model.specs.Limits.{standard_weights}
use Rattle.model.specs.Operations.{disturb, reduce, tied_sum, independent_sum}
use Rattle.model.specs.Library.{disturb_refusal, reduce_refusal, tied_refusal, independent_refusal}
use Rattle.zonotope.specs.Answer.{Accepted}
use Rattle.zonotope.specs.declared.PolyZonotope.{PolyZonotope}
use Rattle.zonotope.specs.Record.{given, view}
use Rattle.answers.specs.declared.Changed.{Changed}
use Rattle.answers.specs.Answer.{answered}
use Rattle.answers.specs.Chain.{Usable}
use Rattle.sums.proofs.Chain as Chain

-- The set of an accepted disturbance is accepted by the next call, and its unused places are 0.
pub disturb_chains : {r : Changed} (s : PolyZonotope) (n : ℕ) (radii : List ℕ)
    → r ≡ answered (disturb_refusal n radii (given s)) s (disturb radii (view s)) → r.outcome ≡ Accepted → Usable r.set
disturb_chains = Chain.disturb_chains

-- The same of a reduction.
pub reduce_chains : {r : Changed} (s : PolyZonotope) (h q : ℕ)
    → r ≡ answered (reduce_refusal h q (given s)) s (reduce standard_weights h q (view s)) → r.outcome ≡ Accepted → Usable r.set
reduce_chains = Chain.reduce_chains

-- The same of a tied sum.
pub tied_chains : {r : Changed} (a b : PolyZonotope)
    → r ≡ answered (tied_refusal (given a) (given b)) a (tied_sum standard_weights (view a) (view b))
    → r.outcome ≡ Accepted → Usable r.set
tied_chains = Chain.tied_chains

-- The same of an independent sum.
pub independent_chains : {r : Changed} (a b : PolyZonotope) (next : ℕ)
    → r ≡ answered (independent_refusal next (given a) (given b)) a (independent_sum standard_weights next (view a) (view b))
    → r.outcome ≡ Accepted → Usable r.set
independent_chains = Chain.independent_chains
