-- `reductions::effect` meets its contract.
use mathlib.Core.Path.{refl}
use Rattle.model.specs.Field.{reduction, meaning}
use Rattle.fields.specs.Effect.{boxed_effect}
use Rattle.fields.proofs.reductions.effect.Goals as goal

pub reduce-requires : goal.reduce-requires
reduce-requires c = c.requires

pub returns : goal.returns
unfolding meaning
returns c =
    let a = c.args in
    boxed_effect reduction a.body.now a.next a.first refl c.reduce.ensures refl c.boxed.ensures
