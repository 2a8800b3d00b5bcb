-- `disturbances::effect` meets its contract.
use mathlib.Core.Path.{refl}
use Rattle.model.specs.Field.{disturbance, meaning}
use Rattle.fields.specs.Effect.{boxed_effect}
use Rattle.fields.proofs.disturbances.effect.Goals as goal

pub disturb-requires : goal.disturb-requires
disturb-requires c = c.requires

pub returns : goal.returns
unfolding meaning
returns c =
    let a = c.args in
    boxed_effect disturbance a.body.now a.next a.first refl c.disturb.ensures refl c.boxed.ensures
