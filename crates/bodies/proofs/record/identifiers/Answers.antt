-- `bodies::record::identifiers` meets its contract: the numbers are written to zeros.
use mathlib.Core.Path.{◌≡◌, refl, ◌∙◌}
use Rattle.std.proofs.Common.{rules, ◌+◌, ◌*◌}
use Rattle.std.proofs.Math.Seq.{length-take-le}
use Rattle.whole.specs.Tab.{tab}
use Rattle.model.specs.Bytes.{number}
use Rattle.bodies.specs.Rows.{zeros-at, padded_part}
use Rattle.bodies.proofs.record.identifiers.Goals as goal

pub returns : goal.returns
returns c =
    let few = c.requires.counts.factors in
    let read : c.fill.new.out ≡ tab c.args.k.factors (λ j. number 4 c.args.b.now (4 + 4 * j)) =
    c.fill.ensures (λ j. number 4 c.args.b.now (4 + 4 * j)) (λ j v l p. search rules) ∙ rw length-take-le in
    padded_part 0 12 _ refl (zeros-at 0 12) _ _ _ few read
