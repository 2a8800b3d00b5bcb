-- `used::is_constant` meets its contract: all exponents are 0 where the library finds none else.
use Rattle.std.proofs.Common.{◌∙◌, rules, tests}
use Rattle.std.proofs.lemmas.Iterator.{YieldsList-from_slice}
use Rattle.std.proofs.lemmas.Iterator.Search.{all_from_yields_List}
use Rattle.std.specs.Prelude.{eqb}
use Rattle.whole.specs.Chains.{all_listed}
use Rattle.arrays.proofs.used.is_constant.Goals as goal

pub returns : goal.returns
returns c =
    all_from_yields_List (λ k. eqb k 0) _ _ _ c.all.ensures.ran (YieldsList-from_slice _ c.iter.ensures.rest) (λ x b q k. search (rules, tests))
    ∙ all_listed (λ k. eqb k 0) _
