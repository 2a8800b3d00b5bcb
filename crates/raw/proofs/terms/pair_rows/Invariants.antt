-- `raw::terms::pair_rows` meets its contract: at each turn a used pair's row is added, or the rest of a row of the table is passed.
use mathlib.Core.Path.{◌≡◌}
use Prim.Native.Nat.{◌-◌}
use Rattle.forms.specs.Numbers.{column_table}
use Rattle.raw.specs.PairRows.{Taken}
use Rattle.raw.proofs.terms.pair_rows.Given as goal

abbrev pub invariant-loop-k : goal.invariant-loop-k
invariant-loop-k l =
    Taken l.both l.coefficients l.exponents l.h l.initial.e l.initial.w l.k l.r l.e l.w × (l.column ≡ column_table l.both l.coefficients l.last)

abbrev pub decreases-loop-k : goal.decreases-loop-k
decreases-loop-k l = 820 - l.k
