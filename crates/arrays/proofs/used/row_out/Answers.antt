-- `used::row_out` meets its contract, by the test of a row.
use Rattle.std.specs.Prelude.{take, drop, ◌*◌, ◌+◌, ◌-◌}
use Rattle.std.proofs.Common.{◌≡◌, ◌∙◌, ap, arith}
use Rattle.whole.specs.Tab.{any}
use Rattle.arrays.specs.Rows.{exponent_out}
use Rattle.arrays.specs.Chains.{part-tab}
use Rattle.arrays.proofs.used.row_out.Goals as goal

pub returns : goal.returns
returns c =
    let at = c.args.t * 12 in
    let n : at + c.args.p - at ≡ c.args.p = omega arith in
    c.has_large.ensures
    ∙ ap (any exponent_out) (ap (λ n. take n (drop at c.args.e.now)) n ∙ part-tab 0 c.args.e.now at c.args.p (omega arith))
