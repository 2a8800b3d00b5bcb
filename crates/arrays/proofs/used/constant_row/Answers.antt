-- `used::constant_row` meets its contract, by the test of a row.
use Rattle.std.specs.Prelude.{take, drop, ◌*◌, ◌+◌, ◌-◌}
use Rattle.std.proofs.Common.{◌≡◌, ◌∙◌, ap, arith}
use Rattle.model.specs.Valid.{factorless}
use Rattle.arrays.specs.Chains.{part-tab}
use Rattle.arrays.proofs.used.constant_row.Goals as goal

pub returns : goal.returns
returns c =
    let at = c.args.t * 12 in
    let n : at + c.args.p - at ≡ c.args.p = omega arith in
    c.is_constant.ensures
    ∙ ap factorless (ap (λ n. take n (drop at c.args.e.now)) n ∙ part-tab 0 c.args.e.now at c.args.p (omega arith))
