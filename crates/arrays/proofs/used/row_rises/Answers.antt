-- `used::row_rises` meets its contract: the order of rows is the library's.
use Rattle.std.specs.Prelude.{◌≡◌, take, drop, ◌*◌, ◌+◌, ◌-◌}
use Rattle.std.proofs.Common.{◌∙◌, ap, ap₂, arith}
use Rattle.model.specs.Valid.{order, is_less}
use Rattle.arrays.specs.Chains.{row_less, part-tab}
use Rattle.arrays.proofs.used.row_rises.Goals as goal

pub returns : goal.returns
returns c =
    let e = c.args.e.now in
    let p = c.args.p in
    let at = c.args.t * 12 in
    let next = (c.args.t + 1) * 12 in
    let m : at + p - at ≡ p = omega arith in
    let n : next + p - next ≡ p = omega arith in
    row_less _ _ _ c.lt.ensures
    ∙ ap₂ (λ u v. is_less (order u v)) (ap (λ n. take n (drop at e)) m ∙ part-tab 0 e at p (omega arith))
    (ap (λ n. take n (drop next e)) n ∙ part-tab 0 e next p (omega arith))
