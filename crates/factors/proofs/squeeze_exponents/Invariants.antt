-- `factors::squeeze_exponents` meets its contract, by the laws of `Filling`.
use Rattle.std.proofs.Common.{◌+◌, ◌*◌, map, get_or}
use Rattle.factors.specs.Squeeze.{Filling}
use Rattle.factors.proofs.squeeze_exponents.Given as goal

abbrev pub invariant-loop-k : goal.invariant-loop-k
invariant-loop-k l = Filling (λ t. map (λ j. get_or l.e (get_or l.heads t 0 * 12 + j) 0) l.places) l.k l.out
