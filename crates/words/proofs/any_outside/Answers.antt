-- `words::any_outside` meets its contract.
use Rattle.std.proofs.Common.{rules, ◌||◌, ◌+◌, ◌*◌}
use Rattle.whole.specs.Chains.{any_of_range}
use Rattle.model.specs.Bytes.{word}
use Rattle.model.specs.Field.{negative, beyond}
use Rattle.words.proofs.any_outside.Goals as goal

pub returns : goal.returns
returns c =
    any_of_range (λ z. negative z || beyond c.args.limit z) (λ k. word c.args.b.now (c.args.i + 4 * k)) c.args.n c.any.ensures.ran (λ x b q k. search rules)
