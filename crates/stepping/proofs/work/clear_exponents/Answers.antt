-- `work::clear_exponents` meets its contract.
use Rattle.std.proofs.Common.{ap, ◌∙◌, ℕ, ◌++◌, replicate, drop, length-take-le}
use Rattle.stepping.proofs.work.clear_exponents.Goals as goal

pub returns : goal.returns
returns c =
    ap (◌++ drop 10320 c.args.e.now)
    (c.fill.ensures.after (λ y e. e) ∙ ap (λ (n : ℕ). replicate n 0) (length-take-le 10320 c.args.e.now c.requires))
