-- `refusals::before_reducing` meets its contract.
use Rattle.std.specs.Prelude.{refl}
use Rattle.std.proofs.lemmas.Result.{err_from_is_err_and}
use Rattle.zonotope.specs.Record.{given}
use Rattle.model.specs.Run.{first_of}
use Rattle.model.specs.Library.{of_limits, examine}
use Rattle.answers.specs.Answer.{refused-first, asked-next}
use Rattle.sums.proofs.refusals.before_reducing.Goals as goal

pub returns-in_err-examine : goal.returns-in_err-examine
returns-in_err-examine c =
    let a = c.args in
    let p = err_from_is_err_and c.from_residual.result c.from_residual.ensures.1 in record {
      value = refused-first (examine (given a.s)) (first_of (of_limits a.term_limit a.generator_limit)) c.in_err-examine.ensures.value
          c.from_residual.ensures.1;
      sized = λ e. absurd cc;
    }

pub returns : goal.returns
returns c =
    let x = c.in_ok-examine.ensures in
    let a = c.args in record {
      value = asked-next (examine (given a.s)) (first_of (of_limits a.term_limit a.generator_limit)) x.value c.of_limits.ensures;
      sized = λ e. x.sized refl;
    }
