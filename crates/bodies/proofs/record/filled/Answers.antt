-- `bodies::record::filled` meets its contract, by what its parts give.
use Rattle.bodies.specs.Filled.{packed}
use Rattle.bodies.proofs.record.filled.Goals as goal

pub returns : goal.returns
returns c =
    packed c.args.b.now c.args.k c.identifiers.ensures c.centre.ensures c.exponents.ensures c.coefficients.ensures c.vectors.ensures
    c.given.ensures
