-- `spare::after_first` meets its contract: the unused places are those of the rest.
use Rattle.std.specs.Prelude.{take, drop, not, eqb, get_or, length, ◌+◌, ◌-◌, ℕ, Bool}
use Rattle.std.proofs.Common.{sym, ap, ◌∙◌, arith, rules, tests}
use Rattle.std.proofs.lemmas.Iterator.{YieldsList-from_slice}
use Rattle.std.proofs.lemmas.Iterator.Search.{any_from_yields_List}
use Rattle.whole.specs.Tab.{any}
use Rattle.whole.specs.Tests.{any-places}
use Rattle.arrays.specs.Spare.{spare_rest}
use Rattle.whole.specs.Chains.{any_listed}
use Rattle.arrays.specs.Chains.{part-tab}
use Rattle.arrays.proofs.spare.after_first.Goals as goal

pub returns : goal.returns
returns c =
    let xs = c.args.xs.now in
    let k = c.args.k in
    let n = length xs - k in
    let nonzero : ℕ → Bool = λ x. not (eqb x 0) in
    any_from_yields_List nonzero _ _ _ c.any.ensures.ran (YieldsList-from_slice (take n (drop k xs)) c.iter.ensures.rest) (λ x b q k. search (rules, tests))
    ∙ any_listed nonzero _
    ∙ ap (any nonzero) (part-tab 0 xs k n (omega arith))
    ∙ any-places nonzero n (λ i. get_or xs (k + i) 0)
    ∙ sym (spare_rest (length xs) k (λ x. eqb (get_or xs x 0) 0) (omega arith))
