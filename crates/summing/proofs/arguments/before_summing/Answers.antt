-- `arguments::before_summing` meets its contract.
use Rattle.std.specs.Prelude.{refl}
use Rattle.std.proofs.lemmas.Result.{err_from_is_err_and}
use Rattle.model.specs.Run.{first_of}
use Rattle.model.specs.Library.{of_second, examine}
use Rattle.zonotope.specs.Record.{given}
use Rattle.answers.specs.Answer.{refused-first, asked-next}
use Rattle.summing.proofs.arguments.before_summing.Goals as goal

pub returns-in_err-examine : goal.returns-in_err-examine
returns-in_err-examine c =
    let a = c.args in
    let p = err_from_is_err_and c.from_residual.result c.from_residual.ensures.1 in record {
      value = refused-first (examine (given a.first)) (first_of (of_second (given a.first) (given a.second)))
          c.in_err-examine.ensures.value c.from_residual.ensures.1;
      sized = λ e. absurd cc;
    }

pub returns : goal.returns
returns c =
    let a = c.args in
    let x = c.in_ok-examine.ensures in record {
      value = asked-next (examine (given a.first)) (first_of (of_second (given a.first) (given a.second))) x.value c.of_second.ensures.value;
      sized = λ e. (x.sized refl, c.of_second.ensures.sized e);
    }
