-- `arguments::entries_beyond` meets its contract: an entry is beyond the limit where the library finds one.
use Rattle.std.proofs.Common.{◌∙◌, rules, tests}
use Rattle.std.proofs.lemmas.Iterator.{YieldsList-from_slice}
use Rattle.std.proofs.lemmas.Iterator.Search.{any_from_yields_List}
use Rattle.model.specs.Field.{beyond}
use Rattle.whole.specs.Chains.{any_listed}
use Rattle.zonotope.proofs.arguments.entries_beyond.Goals as goal

pub returns : goal.returns
returns c =
    any_from_yields_List (beyond c.args.limit) _ _ _ c.any.ensures.ran (YieldsList-from_slice _ c.iter.ensures.rest) (λ x b q k. search (rules, tests))
    ∙ any_listed (beyond c.args.limit) _
