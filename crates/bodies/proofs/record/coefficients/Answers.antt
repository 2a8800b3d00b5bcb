-- `bodies::record::coefficients` meets its contract: the rows are written to zeros.
use mathlib.Core.Path.{refl, ◌∙◌}
use native.Mathlib.Omega.{arith}
use lib.IntN.{pos}
use Rattle.std.proofs.Common.{rules, ◌+◌, ◌*◌}
use Rattle.model.specs.Bytes.{word}
use Rattle.bodies.specs.Set.{terms_from, term_bytes}
use Rattle.bodies.specs.Rows.{zeros-at, padded-rows}
use Rattle.bodies.proofs.record.coefficients.Goals as goal

pub returns : goal.returns
returns c =
    let k = c.args.k in
    c.fill_rows.ensures (λ t j. word c.args.b.now (terms_from k + k.factors + t * term_bytes k + 4 * j)) (λ t j v l m p. search rules)
    ∙ padded-rows (pos 0) 240 _ refl (zeros-at (pos 0) 240) 6 _ _ _ (omega arith) c.requires.counts.dimension
    (omega (arith, c.requires.counts.terms))
