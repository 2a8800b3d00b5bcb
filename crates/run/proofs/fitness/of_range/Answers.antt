-- `fitness::of_range` meets its contract.
use borrow.Author.Rules.{rules}
use mathlib.Core.Path.{◌≡◌, sym, ◌∙◌, ap}
use lib.ListN.{length}
use Rattle.model.specs.Run.{first_of}
use Rattle.zonotope.specs.Answer.{examined, accepted}
use Rattle.run.specs.Unfit.{of_rest, first-order}
use Rattle.run.specs.Fitness.{first_running}
use Rattle.run.proofs.fitness.of_range.Goals as goal
use Rattle.run.proofs.fitness.of_range.Goals.{Start}

six : (s : Start) → length s.args.st.folded ≡ 6
six s = search rules

pub returns : goal.returns
returns c =
    let st = c.args.st in
    let answer = c.of_rest.ensures ∙ ap (λ b. examined (first_of (of_rest b st.folded))) c.out_of_range.ensures in record {
      value = answer ∙ sym (ap examined (first-order st c.requires));
      running = λ e. first_running st c.requires (six (goal.at.returns c).Start) (accepted _ (sym answer ∙ e));
    }
