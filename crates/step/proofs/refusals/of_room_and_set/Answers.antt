-- `refusals::of_room_and_set` meets its contract.
use Rattle.zonotope.specs.Answer.{refused}
use Rattle.step.proofs.refusals.of_room_and_set.Goals as goal

pub returns-then-numbers-exponents : goal.returns-then-numbers-exponents
returns-then-numbers-exponents c = record { value = rw c.if-numbers-exponents.true; sized = refused 13 }

pub returns : goal.returns
returns c = record { value = rw c.if-numbers-exponents.false c.examine.ensures.value; sized = c.examine.ensures.sized }
