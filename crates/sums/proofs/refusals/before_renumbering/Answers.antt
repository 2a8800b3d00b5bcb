-- `refusals::before_renumbering` meets its contract.
use Rattle.std.specs.Prelude.{refl}
use Rattle.std.proofs.Common.{sym, ◌∙◌}
use Rattle.std.proofs.lemmas.Result.{err_from_is_err_and}
use Rattle.model.specs.Library.{bad_next}
use Rattle.zonotope.specs.Record.{view, given}
use Rattle.zonotope.specs.Answer.{refused, nothing_found}
use Rattle.align.specs.Examined.{counts}
use Rattle.answers.specs.Answer.{refused-first, asked-next}
use Rattle.summing.specs.Summand.{for_sum}
use Rattle.summing.specs.Arguments.{before_summing, of_next, summable, next-refused, next-accepted}
use Rattle.sums.proofs.refusals.before_renumbering.Goals as goal

pub returns-in_err-before_summing : goal.returns-in_err-before_summing
returns-in_err-before_summing c =
    let a = c.args in
    let p = err_from_is_err_and c.from_residual.result c.from_residual.ensures.1 in record {
      value = refused-first (before_summing (given a.first) (given a.second)) (of_next (bad_next a.next (view a.first)))
          c.in_err-before_summing.ensures.value c.from_residual.ensures.1;
      sized = λ e. absurd cc;
    }

pub bad_next-requires : goal.bad_next-requires
bad_next-requires c =
    let a = c.args in
    let o = c.in_ok-before_summing.ensures in
    let h = summable a.first a.second (o.sized refl) (nothing_found _ o.value) in
    (counts a.first (for_sum a.first h.first)).factors_few

pub returns-then-bad_next : goal.returns-then-bad_next
returns-then-bad_next c =
    let a = c.args in record {
      value = asked-next (before_summing (given a.first) (given a.second)) (of_next (bad_next a.next (view a.first)))
          c.in_ok-before_summing.ensures.value (next-refused _ (sym c.bad_next.ensures ∙ c.if-bad_next.true));
      sized = refused 11;
    }

pub returns : goal.returns
returns c =
    let a = c.args in
    let o = c.in_ok-before_summing.ensures in record {
      value = asked-next (before_summing (given a.first) (given a.second)) (of_next (bad_next a.next (view a.first))) o.value
          (next-accepted _ (sym c.bad_next.ensures ∙ c.if-bad_next.false));
      sized = λ e. o.sized refl;
    }
