-- `kinds::effect` meets its contract.
use mathlib.Core.Path.{refl}
use lib.IntN.{pos}
use Rattle.model.specs.Field.{meaning}
use Rattle.stepping.specs.Work.{work_numbers, work_exponents}
use Rattle.fields.specs.Effect.{effect}
use Rattle.advance.proofs.FieldLaws.{kind-effect, not_first, later, used-by, not-used}
use Rattle.advance.proofs.kinds.effect.Goals as goal

pub returns-in-Start : goal.returns-in-Start
unfolding effect meaning
returns-in-Start c = let a = c.args in record {
  value = kind-effect a.body.now a.st.next a.st.set c.in-Start.is c.effect.ensures;
  numbers = not-used _ (pos 0) work_numbers _;
  exponents = not-used _ 0 work_exponents _;
}

pub effect-requires-in-Step : goal.effect-requires-in-Step
effect-requires-in-Step c = ((later c.requires.0 (not_first c.in-Step.is refl)).0, c.requires.1, c.requires.2)

pub returns-in-Step : goal.returns-in-Step
returns-in-Step c = let a = c.args in record {
  value = kind-effect a.body.now a.st.next a.st.set c.in-Step.is c.effect-in-Step.ensures.value;
  numbers = used-by a.body.now a.st c.in-Step.is c.effect-in-Step.ensures.numbers;
  exponents = used-by a.body.now a.st c.in-Step.is c.effect-in-Step.ensures.exponents;
}

pub effect-requires-in-Disturbance : goal.effect-requires-in-Disturbance
effect-requires-in-Disturbance c = (later c.requires.0 (not_first c.in-Disturbance.is refl)).0

pub returns-in-Disturbance : goal.returns-in-Disturbance
returns-in-Disturbance c = let a = c.args in record {
  value = kind-effect a.body.now a.st.next a.st.set c.in-Disturbance.is c.effect-in-Disturbance.ensures;
  numbers = not-used _ (pos 0) work_numbers _;
  exponents = not-used _ 0 work_exponents _;
}

pub effect-requires-in-IndependentSum : goal.effect-requires-in-IndependentSum
effect-requires-in-IndependentSum c = later c.requires.0 (not_first c.in-IndependentSum.is refl)

pub returns-in-IndependentSum : goal.returns-in-IndependentSum
returns-in-IndependentSum c = let a = c.args in record {
  value = kind-effect a.body.now a.st.next a.st.set c.in-IndependentSum.is c.effect-in-IndependentSum.ensures;
  numbers = not-used _ (pos 0) work_numbers _;
  exponents = not-used _ 0 work_exponents _;
}

pub effect-requires-in-TiedSum : goal.effect-requires-in-TiedSum
effect-requires-in-TiedSum c = later c.requires.0 (not_first c.in-TiedSum.is refl)

pub returns-in-TiedSum : goal.returns-in-TiedSum
returns-in-TiedSum c = let a = c.args in record {
  value = kind-effect a.body.now a.st.next a.st.set c.in-TiedSum.is c.effect-in-TiedSum.ensures;
  numbers = not-used _ (pos 0) work_numbers _;
  exponents = not-used _ 0 work_exponents _;
}

pub effect-requires-in-Reduction : goal.effect-requires-in-Reduction
effect-requires-in-Reduction c = (later c.requires.0 (not_first c.in-Reduction.is refl)).0

pub returns-in-Reduction : goal.returns-in-Reduction
returns-in-Reduction c = let a = c.args in record {
  value = kind-effect a.body.now a.st.next a.st.set c.in-Reduction.is c.effect-in-Reduction.ensures;
  numbers = not-used _ (pos 0) work_numbers _;
  exponents = not-used _ 0 work_exponents _;
}

pub effect-requires-in-Check : goal.effect-requires-in-Check
effect-requires-in-Check c = (later c.requires.0 (not_first c.in-Check.is refl)).0

pub returns-in-Check : goal.returns-in-Check
returns-in-Check c = let a = c.args in record {
  value = kind-effect a.body.now a.st.next a.st.set c.in-Check.is c.effect-in-Check.ensures;
  numbers = not-used _ (pos 0) work_numbers _;
  exponents = not-used _ 0 work_exponents _;
}

pub effect-requires-in-Hull : goal.effect-requires-in-Hull
effect-requires-in-Hull c = later c.requires.0 (not_first c.in-Hull.is refl)

pub returns-in-Hull : goal.returns-in-Hull
returns-in-Hull c = let a = c.args in record {
  value = kind-effect a.body.now a.st.next a.st.set c.in-Hull.is c.effect-in-Hull.ensures;
  numbers = not-used _ (pos 0) work_numbers _;
  exponents = not-used _ 0 work_exponents _;
}

pub effect-requires-in-RangedStep : goal.effect-requires-in-RangedStep
effect-requires-in-RangedStep c = ((later c.requires.0 (not_first c.in-RangedStep.is refl)).0, c.requires.1, c.requires.2)

pub returns-in-RangedStep : goal.returns-in-RangedStep
returns-in-RangedStep c = let a = c.args in record {
  value = kind-effect a.body.now a.st.next a.st.set c.in-RangedStep.is c.effect-in-RangedStep.ensures.value;
  numbers = used-by a.body.now a.st c.in-RangedStep.is c.effect-in-RangedStep.ensures.numbers;
  exponents = used-by a.body.now a.st c.in-RangedStep.is c.effect-in-RangedStep.ensures.exponents;
}
