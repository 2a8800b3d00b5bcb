-- `words::any_above` meets its contract.
use Rattle.std.proofs.Common.{rules, ltb, ◌+◌, ◌*◌}
use Rattle.whole.specs.Chains.{any_of_range}
use Rattle.model.specs.Bytes.{number}
use Rattle.words.proofs.any_above.Goals as goal

pub returns : goal.returns
returns c =
    any_of_range (ltb c.args.limit) (λ k. number 4 c.args.b.now (c.args.i + 4 * k)) c.args.n c.any.ensures.ran (λ x b q k. search rules)
