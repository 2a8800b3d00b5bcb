-- `along::terms_low` meets its contract: the sum so far is that of the terms passed.
use mathlib.Core.Path.{◌≡◌}
use Prim.Native.Nat.{◌-◌, ◌*◌, ◌≤◌}
use lib.IntN.{nat_abs}
use Rattle.verdicts.specs.Along.{row_bound, least_sum}
use Rattle.verdicts.proofs.along.terms_low.Given as goal

abbrev pub invariant-loop-t : goal.invariant-loop-t
invariant-loop-t l = (l.t ≤ l.s.terms) × (l.sum ≡ least_sum l.a l.s.exponents l.s.coefficients l.s.factors l.s.dimension l.t) × (nat_abs (least_sum l.a l.s.exponents l.s.coefficients l.s.factors l.s.dimension l.t) ≤ l.t * row_bound)

abbrev pub decreases-loop-t : goal.decreases-loop-t
decreases-loop-t l = l.s.terms - l.t
