-- `fitness::of_state` meets its contract.
use borrow.Author.Rules.{rules}
use mathlib.Core.Path.{◌≡◌, refl, sym, ◌∙◌, ap}
use mathlib.Core.Option.{Option}
use Prim.Native.Nat.{ℕ}
use lib.ListN.{length}
use Rattle.std.proofs.lemmas.Result.{err_from_is_err_and}
use Rattle.model.specs.Run.{first_of}
use Rattle.model.specs.Library.{examine, bad_next}
use Rattle.zonotope.specs.Record.{view, given}
use Rattle.zonotope.specs.Counts.{in_limits}
use Rattle.zonotope.specs.Valid.{valid}
use Rattle.zonotope.specs.Answer.{examined, accepted, nothing_found}
use Rattle.answers.specs.Answer.{refused-first, asked-next}
use Rattle.states.specs.declared.State.{State}
use Rattle.run.specs.Unfit.{of_rest, later-order}
use Rattle.run.specs.Fitness.{later_running}
use Rattle.run.proofs.fitness.of_state.Goals as goal
use Rattle.run.proofs.fitness.of_state.Goals.{Start}

abbrev rest : State → Option ℕ
rest st = first_of (of_rest (bad_next st.next (view st.set)) st.folded)

six : (s : Start) → length s.args.st.folded ≡ 6
six s = search rules

pub returns-in_err-examine : goal.returns-in_err-examine
returns-in_err-examine c =
    let st = c.args.st in
    let p = err_from_is_err_and c.from_residual.result c.from_residual.ensures.1 in record {
      value = refused-first (examine (given st.set)) (rest st) c.in_err-examine.ensures.value c.from_residual.ensures.1
          ∙ sym (ap examined (later-order st c.requires));
      running = λ e. absurd cc;
    }

pub bad_next-requires : goal.bad_next-requires
bad_next-requires c =
    let st = c.args.st in
    (in_limits st.set (valid (given st.set) (nothing_found _ c.in_ok-examine.ensures.value)).counts).factors

pub returns : goal.returns
returns c =
    let st = c.args.st in
    let x = c.in_ok-examine.ensures in
    let answer = c.of_rest.ensures ∙ ap (λ b. examined (first_of (of_rest b st.folded))) c.bad_next.ensures in record {
      value = asked-next (examine (given st.set)) (rest st) x.value answer ∙ sym (ap examined (later-order st c.requires));
      running = λ q. later_running st c.requires
          (record { sized = x.sized refl; passed = valid (given st.set) (nothing_found _ x.value) })
          (six (goal.at.returns c).Start) (accepted _ (sym answer ∙ q));
    }
