-- An accepted record as a summand.
use Rattle.zonotope.specs.declared.PolyZonotope.{PolyZonotope}
use Rattle.align.specs.Examined.{Examined}
use Rattle.answers.specs.Accepted.{AcceptedRecord}

-- as far as sums need it
pub for_sum : (s : PolyZonotope) → AcceptedRecord s → Examined s
for_sum s a = record { counts = a.passed.counts; unused = a.passed.full; narrow = a.passed.narrow }
