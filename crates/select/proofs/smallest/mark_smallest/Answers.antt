-- `smallest::mark_smallest` meets its contract, by the bar that was found.
use Rattle.std.proofs.Common.{◌≡◌, ◌-◌, ap, ◌∙◌, length, arith}
use Rattle.select.specs.Selected.{selected_by}
use Rattle.select.proofs.smallest.mark_smallest.Goals as goal

pub returns : goal.returns
returns c =
    let n = length c.args.gone.now in
    let z = c.sizes.new.z in
    let l : length z ≡ n = c.sizes.auto.z ∙ c.requires.2 in
    selected_by z _ c.args.limit n c.find_bar-height.result _ _ (λ k h. c.sizes.ensures.0 k (omega arith))
    (rw l at c.find_bar-height.ensures.0) (ap (c.args.limit -◌) (rw l at c.count_from-above.ensures)) c.mark_below.ensures
