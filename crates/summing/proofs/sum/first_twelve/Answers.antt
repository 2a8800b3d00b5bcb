-- `sum::first_twelve` meets its contract.
use Rattle.std.proofs.Common.{◌∙◌, sym, rules, take}
use Rattle.whole.specs.Tab.{tab_cong, tab_get_d}
use Rattle.whole.specs.Write.{get_d_take}
use Rattle.summing.proofs.sum.first_twelve.Goals as goal

pub returns : goal.returns
returns c =
    c.copy_from_slice.ensures.after
    ∙ sym (tab_cong 12 _ _ (λ i h. sym (get_d_take 12 c.args.numbers.now i 0 h)) ∙ tab_get_d 12 (take 12 c.args.numbers.now) 0 (search rules))
