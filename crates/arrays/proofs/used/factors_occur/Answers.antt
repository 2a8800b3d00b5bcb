-- `used::factors_occur` meets its contract, by the test of one factor.
use Rattle.std.specs.Prelude.{◌+◌, ◌*◌, ltb, get_or}
use Rattle.std.proofs.Common.{◌∙◌, arith, rules, tests}
use Rattle.std.proofs.lemmas.Iterator.{YieldsList-from_range}
use Rattle.std.proofs.lemmas.Iterator.Search.{all_from_yields_List}
use Rattle.whole.specs.Tests.{some_below}
use Rattle.arrays.specs.Chains.{each_listed}
use Rattle.arrays.proofs.used.factors_occur.Goals as goal

pub returns : goal.returns
returns c =
    all_from_yields_List (λ j. some_below c.args.h (λ t. ltb 0 (get_or c.args.e.now (t * 12 + j) 0))) _ _ _ c.all.ensures.ran (YieldsList-from_range 0 c.args.p c.args.p (cc) (omega arith))
    (λ x b q k. search (rules, tests))
    ∙ each_listed _ c.args.p
