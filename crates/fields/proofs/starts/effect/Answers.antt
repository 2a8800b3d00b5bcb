-- `starts::effect` meets its contract.
use mathlib.Core.Path.{refl}
use Rattle.model.specs.Field.{start, meaning}
use Rattle.model.specs.Run.{no_set}
use Rattle.zonotope.specs.Record.{pack}
use Rattle.fields.specs.Effect.{boxed_effect}
use Rattle.fields.proofs.starts.effect.Goals as goal

pub returns : goal.returns
unfolding meaning
returns c =
    let a = c.args in
    boxed_effect start a.body.now a.next (pack no_set) refl c.given.ensures refl c.boxed.ensures
