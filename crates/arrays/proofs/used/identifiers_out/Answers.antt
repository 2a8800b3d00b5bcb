-- `used::identifiers_out` meets its contract: one is out where the library finds one.
use Rattle.std.proofs.Common.{◌∙◌, ap, arith, rules, tests}
use Rattle.std.proofs.lemmas.Iterator.{YieldsList-from_slice}
use Rattle.std.proofs.lemmas.Iterator.Search.{any_from_yields_List}
use Rattle.whole.specs.Tab.{any}
use Rattle.arrays.specs.Rows.{identifier_out}
use Rattle.whole.specs.Chains.{any_listed}
use Rattle.arrays.specs.Chains.{first-tab}
use Rattle.arrays.proofs.used.identifiers_out.Goals as goal

pub returns : goal.returns
returns c =
    any_from_yields_List identifier_out _ _ _ c.any.ensures.ran (YieldsList-from_slice _ (c.iter.ensures.rest)) (λ x b q k. search (rules, tests))
    ∙ any_listed identifier_out _
    ∙ ap (any identifier_out) (first-tab 0 c.args.ids.now c.args.p (omega arith))
