-- `used::factor_occurs` meets its contract: a row has the factor where the library finds one.
use Rattle.std.specs.Prelude.{◌+◌, ◌*◌, ltb, get_or}
use Rattle.std.proofs.Common.{◌∙◌, arith, rules, tests}
use Rattle.std.proofs.lemmas.Iterator.{YieldsList-from_range}
use Rattle.std.proofs.lemmas.Iterator.Search.{any_from_yields_List}
use Rattle.arrays.specs.Chains.{some_listed}
use Rattle.arrays.proofs.used.factor_occurs.Goals as goal

pub returns : goal.returns
returns c =
    any_from_yields_List (λ t. ltb 0 (get_or c.args.e.now (t * 12 + c.args.j) 0)) _ _ _ c.any.ensures.ran (YieldsList-from_range 0 c.args.h c.args.h (cc) (omega arith))
    (λ x b q k. search (rules, tests))
    ∙ some_listed _ c.args.h
