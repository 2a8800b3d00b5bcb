-- `hulls::effect` meets its contract.
use mathlib.Core.Path.{refl}
use native.Mathlib.Omega.{arith}
use Rattle.model.specs.Field.{hull, meaning}
use Rattle.fields.specs.Effect.{boxed_effect}
use Rattle.fields.proofs.hulls.effect.Goals as goal

pub hull-requires : goal.hull-requires
hull-requires c = c.requires.0

pub overflow_add-next : goal.overflow_add-next
overflow_add-next c = omega (arith, c.requires.1.few)

pub returns : goal.returns
unfolding meaning
returns c =
    let a = c.args in
    boxed_effect hull a.body.now a.next a.first refl c.hull.ensures refl c.boxed.ensures
