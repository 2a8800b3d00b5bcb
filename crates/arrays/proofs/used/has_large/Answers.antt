-- `used::has_large` meets its contract: an exponent is too large where the library finds one.
use Rattle.std.proofs.Common.{◌∙◌, rules, tests}
use Rattle.std.proofs.lemmas.Iterator.{YieldsList-from_slice}
use Rattle.std.proofs.lemmas.Iterator.Search.{any_from_yields_List}
use Rattle.arrays.specs.Rows.{exponent_out}
use Rattle.whole.specs.Chains.{any_listed}
use Rattle.arrays.proofs.used.has_large.Goals as goal

pub returns : goal.returns
returns c =
    any_from_yields_List exponent_out _ _ _ c.any.ensures.ran (YieldsList-from_slice _ c.iter.ensures.rest) (λ x b q k. search (rules, tests))
    ∙ any_listed exponent_out _
