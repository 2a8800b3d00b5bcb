-- `advance` meets its contract.
use lib.IntN.{pos}
use Rattle.model.specs.Run.{first_field}
use Rattle.stepping.specs.Work.{work_numbers, work_exponents}
use Rattle.advance.proofs.FieldLaws.{not-used, skipped_advanced, refused-advanced}
use Rattle.advance.proofs.advance.Goals as goal

pub returns-then-st : goal.returns-then-st
returns-then-st c =
    let a = c.args in record {
      value = skipped_advanced a.st a.place (first_field a.rest.now) c.if-st.true c.read-h.ensures.bytes c.skipped.ensures;
      numbers = not-used _ (pos 0) work_numbers _;
      exponents = not-used _ 0 work_exponents _;
    }

pub kind-requires : goal.kind-requires
kind-requires c = c.read-h.ensures.whole

pub whole-requires : goal.whole-requires
whole-requires c = (
  c.requires.0,
  c.if-st.false,
  c.in-Ok.ensures.1,
  c.in-Ok.ensures.0,
  c.read-h.ensures.bytes,
  c.requires.1,
  c.requires.2,
)

pub returns-in-Err : goal.returns-in-Err
returns-in-Err c =
    let a = c.args in
    let q = c.in-Err.ensures in record {
      value = refused-advanced a.st (first_field a.rest.now) c.if-st.false q.1 a.place q.2 c.read-h.ensures.bytes c.refused.ensures;
      numbers = not-used _ (pos 0) work_numbers _;
      exponents = not-used _ 0 work_exponents _;
    }

pub returns-in-Ok : goal.returns-in-Ok
returns-in-Ok c = record { value = c.whole.ensures.value; numbers = c.whole.ensures.numbers; exponents = c.whole.ensures.exponents }
