-- `columns::extremes` meets its contract: both sums are those of the rows passed.
use Rattle.std.specs.Prelude.{true, false}
use Rattle.verdicts.specs.Ends.{Extremes}
use Rattle.verdicts.proofs.columns.extremes.Given as goal

abbrev pub invariant-loop-t : goal.invariant-loop-t
invariant-loop-t l =
    Extremes false l.s.exponents l.s.coefficients l.s.factors l.t l.low × Extremes true l.s.exponents l.s.coefficients l.s.factors l.t l.high
