-- `fitness::of_call` meets its contract.
use mathlib.Core.Path.{sym, ◌∙◌, ap}
use native.Mathlib.Omega.{arith}
use Rattle.zonotope.specs.Answer.{examined, refused}
use Rattle.run.specs.Unfit.{unfit, short-first}
use Rattle.run.proofs.fitness.of_call.Goals as goal

pub returns-then-no_room : goal.returns-then-no_room
returns-then-no_room c = record {
  value = short-first c.args.st (sym c.no_room.ensures ∙ c.if-no_room.true);
  running = λ e. refused 13 e;
}

pub of_range-requires : goal.of_range-requires
of_range-requires c = c.if-st-eq0.true

pub returns-then-st-eq0 : goal.returns-then-st-eq0
returns-then-st-eq0 c = record {
  value = c.of_range.ensures.value ∙ ap (λ b. examined (unfit b c.args.st)) (sym (sym c.no_room.ensures ∙ c.if-no_room.false));
  running = c.of_range.ensures.running;
}

pub of_state-requires : goal.of_state-requires
of_state-requires c = let n = c.if-st-eq0.false in omega arith

pub returns : goal.returns
returns c = record {
  value = c.of_state.ensures.value ∙ ap (λ b. examined (unfit b c.args.st)) (sym (sym c.no_room.ensures ∙ c.if-no_room.false));
  running = c.of_state.ensures.running;
}
