-- `independent_sums::factor_count` meets its contract.
use mathlib.Core.Path.{sym}
use native.Mathlib.Omega.{arith}
use lib.ListN.{get_or-eq_default}
use Rattle.fields.proofs.independent_sums.factor_count.Goals as goal

pub returns-then-body-lt2 : goal.returns-then-body-lt2
returns-then-body-lt2 c =
    let b = c.args.body.now in
    (sym (get_or-eq_default b 0 {n = 1} (omega (arith, c.if-body-lt2.true))), omega arith)

pub returns : goal.returns
returns c = c.byte_at.ensures
