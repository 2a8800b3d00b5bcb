-- `words::read_sizes` meets its contract.
use Rattle.std.proofs.Common.{rules, ◌∙◌, sym}
use Rattle.std.specs.Prelude.{nat_abs, ◌+◌, ◌*◌}
use Rattle.model.specs.Bytes.{word}
use Rattle.whole.specs.Tab.{map-tab}
use Rattle.words.proofs.read_sizes.Goals as goal

pub returns : goal.returns
returns c =
    c.fill.ensures (λ k. nat_abs (word c.args.b.now (c.args.i + 4 * k))) (λ k v l p. search rules) ∙ sym (map-tab nat_abs _ _)
