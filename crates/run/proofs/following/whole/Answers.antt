-- `following::whole` meets its contract.
use mathlib.Core.Path.{ap, ◌∙◌}
use native.Mathlib.Omega.{arith}
use lib.IntN.{pos}
use Rattle.stepping.specs.Work.{work_numbers, work_exponents}
use Rattle.step.specs.Answer.{cleared_if}
use Rattle.run.proofs.Cleared.{given_back}
use Rattle.run.proofs.CourseLaws.{used-again}
use Rattle.run.proofs.Turning.{follows, runs, few_bytes, turn-ends, turn_goes, turns_fewer, ran_is}
use Rattle.run.proofs.following.whole.Goals as goal

pub loop-state-init : goal.loop-state-init
loop-state-init c = let a = c.args in follows a.input.now a.w.now a.e.now c.begin-state.ensures

pub advance-a-requires : goal.advance-a-requires
advance-a-requires c =
    let h = c.loop-state.invariant in
    (runs h, omega (arith, c.requires.0, h.numbers_long), omega (arith, c.requires.1, h.exponents_long))

pub overflow_add-at : goal.overflow_add-at
overflow_add-at c = let few = few_bytes c.loop-state.invariant c.advance-a.ensures.value in omega arith

pub returns-then-state-at-clause-value : goal.returns-then-state-at-clause-value
returns-then-state-at-clause-value c = ran_is (turn-ends c.loop-state.invariant c.advance-a.ensures.value c.if-state-at.true)

pub returns-then-state-at-clause-numbers : goal.returns-then-state-at-clause-numbers
returns-then-state-at-clause-numbers c =
    let h = c.loop-state.invariant in
    let kept = c.advance-a.auto in
    given_back _ (used-again c.loop-state.worked _ h.numbers c.advance-a.ensures.numbers) (omega (arith, kept, h.numbers_long))
    c.clear_used.ensures.numbers
    ∙ ap (λ b. cleared_if b work_numbers (pos 0) c.args.w.now) (turn-ends h c.advance-a.ensures.value c.if-state-at.true).works

pub returns-then-state-at-clause-exponents : goal.returns-then-state-at-clause-exponents
returns-then-state-at-clause-exponents c =
    let h = c.loop-state.invariant in
    let kept = c.advance-a.auto in
    given_back _ (used-again c.loop-state.worked _ h.exponents c.advance-a.ensures.exponents) (omega (arith, kept, h.exponents_long))
    c.clear_used.ensures.exponents
    ∙ ap (λ b. cleared_if b work_exponents 0 c.args.e.now) (turn-ends h c.advance-a.ensures.value c.if-state-at.true).works

pub loop-state-smaller : goal.loop-state-smaller
loop-state-smaller c = turns_fewer c.loop-state.invariant c.advance-a.ensures.value c.if-state-at.false

pub loop-state-preserved : goal.loop-state-preserved
loop-state-preserved c =
    let kept = c.advance-a.auto in
    turn_goes c.loop-state.invariant c.advance-a.ensures.value c.if-state-at.false c.advance-a.ensures.numbers c.advance-a.ensures.exponents
    (omega (arith, kept)) (omega (arith, kept))
