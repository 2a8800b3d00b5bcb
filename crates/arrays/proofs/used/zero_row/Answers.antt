-- `used::zero_row` meets its contract, by the test of a row.
use Rattle.std.specs.Prelude.{take, drop, pos, ◌*◌, ◌+◌, ◌-◌}
use Rattle.std.proofs.Common.{◌≡◌, ◌∙◌, ap, arith}
use Rattle.model.specs.Valid.{zeros}
use Rattle.arrays.specs.Chains.{part-tab}
use Rattle.arrays.proofs.used.zero_row.Goals as goal

pub returns : goal.returns
returns c =
    let at = c.args.t * 6 in
    let n : at + c.args.n - at ≡ c.args.n = omega arith in
    c.all_zero.ensures
    ∙ ap zeros (ap (λ n. take n (drop at c.args.xs.now)) n ∙ part-tab (pos 0) c.args.xs.now at c.args.n (omega arith))
