-- `used::identifiers_rise` meets its contract: the library's test of neighbours.
use Rattle.std.specs.Prelude.{ltb}
use Rattle.std.proofs.Common.{◌∙◌, ap, arith, rules, tests}
use Rattle.std.proofs.lemmas.List.Sorted.{answers_always}
use Rattle.model.specs.Valid.{rises}
use Rattle.arrays.specs.Chains.{rises_sorted, first-tab}
use Rattle.arrays.proofs.used.identifiers_rise.Goals as goal

pub returns : goal.returns
returns c =
    rises_sorted ltb 0 _ _ (c.is_sorted_by.ensures.cases ltb (answers_always _ _ _ (λ f a r f' k. search (rules, tests))))
    ∙ ap (rises ltb) (first-tab 0 c.args.ids.now c.args.p (omega arith))
