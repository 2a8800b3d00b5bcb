-- `bodies::record::vectors` meets its contract: the rows are written to zeros.
use mathlib.Core.Path.{refl, ◌∙◌}
use native.Mathlib.Omega.{arith}
use lib.IntN.{pos}
use Rattle.std.proofs.Common.{rules, ◌+◌, ◌*◌}
use Rattle.model.specs.Bytes.{word}
use Rattle.bodies.specs.Set.{generators_from}
use Rattle.bodies.specs.Rows.{zeros-at, padded-rows}
use Rattle.bodies.proofs.record.vectors.Goals as goal

pub returns : goal.returns
returns c =
    let k = c.args.k in
    c.fill_rows.ensures (λ t j. word c.args.b.now (generators_from k + t * (4 * k.dimension) + 4 * j)) (λ t j v l m p. search rules)
    ∙ padded-rows (pos 0) 144 _ refl (zeros-at (pos 0) 144) 6 _ _ _ (omega arith) c.requires.counts.dimension
    (omega (arith, c.requires.counts.generators))
