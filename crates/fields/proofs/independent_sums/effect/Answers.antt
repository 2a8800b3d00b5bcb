-- `independent_sums::effect` meets its contract.
use mathlib.Core.Path.{refl, ap}
use Prim.Native.Nat.{◌+◌}
use native.Mathlib.Omega.{arith}
use Rattle.model.specs.Field.{independent, meaning}
use Rattle.fields.specs.Effect.{boxed_effect}
use Rattle.fields.proofs.independent_sums.effect.Goals as goal

pub independent-requires : goal.independent-requires
independent-requires c = c.requires

pub overflow_add-next : goal.overflow_add-next
overflow_add-next c = omega (arith, c.requires.1.few, c.factor_count.ensures.1)

pub returns : goal.returns
unfolding meaning
returns c =
    let a = c.args in
    boxed_effect independent a.body.now a.next a.first refl c.independent.ensures
    (ap (a.next +◌) c.factor_count.ensures.0) c.boxed.ensures
