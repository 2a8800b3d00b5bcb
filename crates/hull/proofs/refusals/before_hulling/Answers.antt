-- `refusals::before_hulling` meets its contract.
use Rattle.std.specs.Prelude.{◌||◌, refl}
use Rattle.std.proofs.Common.{sym, ap₂, ◌∙◌}
use Rattle.std.proofs.lemmas.Result.{err_from_is_err_and}
use Rattle.zonotope.specs.Record.{view, given}
use Rattle.zonotope.specs.Answer.{refused, nothing_found}
use Rattle.align.specs.Examined.{counts}
use Rattle.answers.specs.Answer.{refused-first, asked-next}
use Rattle.summing.specs.Summable.{Summable}
use Rattle.summing.specs.Summand.{for_sum}
use Rattle.summing.specs.Arguments.{before_summing, summable, next-refused, next-accepted}
use Rattle.hull.specs.Causes.{of_blend}
use Rattle.hull.proofs.refusals.before_hulling.Goals as goal
use Rattle.hull.proofs.refusals.before_hulling.Goals.{In_ok-before_summing}

-- what is known where neither set is refused
both : (i : In_ok-before_summing) → Summable i.args.first i.args.second
both i =
    let o = i.in_ok-before_summing.ensures in
    summable i.args.first i.args.second (o.sized refl) (nothing_found _ o.value)

pub returns-in_err-before_summing : goal.returns-in_err-before_summing
returns-in_err-before_summing c =
    let a = c.args in
    let p = err_from_is_err_and c.from_residual.result c.from_residual.ensures.1 in record {
      value = refused-first (before_summing (given a.first) (given a.second)) (of_blend a.next (view a.first) (view a.second))
          c.in_err-before_summing.ensures.value c.from_residual.ensures.1;
      sized = λ e. absurd cc;
    }

pub bad_next-requires : goal.bad_next-requires
bad_next-requires c = (counts _ (for_sum _ (both (goal.at.bad_next-requires c).In_ok-before_summing).first)).factors_few

pub bad_next-requires-2 : goal.bad_next-requires-2
bad_next-requires-2 c = (counts _ (for_sum _ (both (goal.at.bad_next-requires-2 c).In_ok-before_summing).second)).factors_few

pub returns-then-bad_next : goal.returns-then-bad_next
returns-then-bad_next c =
    let a = c.args in record {
      value = asked-next (before_summing (given a.first) (given a.second)) (of_blend a.next (view a.first) (view a.second))
          c.in_ok-before_summing.ensures.value
          (next-refused _ (sym (ap₂ ◌||◌ c.bad_next.ensures c.bad_next-2.ensures) ∙ c.if-bad_next.true));
      sized = refused 11;
    }

pub returns : goal.returns
returns c =
    let a = c.args in
    let o = c.in_ok-before_summing.ensures in record {
      value = asked-next (before_summing (given a.first) (given a.second)) (of_blend a.next (view a.first) (view a.second)) o.value
          (next-accepted _ (sym (ap₂ ◌||◌ c.bad_next.ensures c.bad_next-2.ensures) ∙ c.if-bad_next.false));
      sized = λ e. o.sized refl;
    }
