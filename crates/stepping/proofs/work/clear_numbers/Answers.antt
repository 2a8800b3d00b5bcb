-- `work::clear_numbers` meets its contract.
use Rattle.std.proofs.Common.{ap, ◌∙◌, ℕ, ◌++◌, replicate, drop, length-take-le, pos}
use Rattle.stepping.proofs.work.clear_numbers.Goals as goal

pub returns : goal.returns
returns c =
    ap (◌++ drop 5160 c.args.w.now)
    (c.fill.ensures.after (λ y e. e) ∙ ap (λ (n : ℕ). replicate n (pos 0)) (length-take-le 5160 c.args.w.now c.requires))
