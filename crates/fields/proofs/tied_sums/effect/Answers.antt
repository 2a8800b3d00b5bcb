-- `tied_sums::effect` meets its contract.
use mathlib.Core.Path.{refl}
use Rattle.model.specs.Field.{tied, meaning}
use Rattle.fields.specs.Effect.{boxed_effect}
use Rattle.fields.proofs.tied_sums.effect.Goals as goal

pub tied-requires : goal.tied-requires
tied-requires c = c.requires.0

pub returns : goal.returns
unfolding meaning
returns c =
    let a = c.args in
    boxed_effect tied a.body.now a.next a.first refl c.tied.ensures refl c.boxed.ensures
