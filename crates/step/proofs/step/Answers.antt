-- `step` meets its contract.
use Rattle.answers.proofs.Settled.{answered_as}
use Rattle.step.proofs.step.Goals as goal

pub returns : goal.returns
returns c =
    let called = c.stepped.ensures in
    record { value = answered_as _ _ _ c.answer.ensures called.0; numbers = called.1.0; exponents = called.1.1 }
