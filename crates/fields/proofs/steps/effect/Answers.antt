-- `steps::effect` meets its contract.
use mathlib.Core.Path.{refl}
use Rattle.model.specs.Field.{step, meaning}
use Rattle.fields.specs.Effect.{boxed_effect}
use Rattle.fields.proofs.steps.effect.Goals as goal

pub step-requires : goal.step-requires
step-requires c = c.requires

pub returns : goal.returns
unfolding meaning
returns c =
    let a = c.args in record {
      value = boxed_effect step a.body.now a.next a.first refl c.step.ensures.value refl c.boxed.ensures;
      numbers = c.step.ensures.numbers;
      exponents = c.step.ensures.exponents;
    }
