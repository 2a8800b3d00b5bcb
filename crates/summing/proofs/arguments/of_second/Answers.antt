-- `arguments::of_second` meets its contract.
use mathlib.Core.Path.{sym, ◌∙◌}
use Rattle.zonotope.specs.Record.{view, given}
use Rattle.zonotope.specs.Answer.{refused}
use Rattle.summing.specs.Arguments.{second-counts, second-dimension, second-rest}
use Rattle.summing.proofs.arguments.of_second.Goals as goal

pub returns-then-bad_counts : goal.returns-then-bad_counts
unfolding view
returns-then-bad_counts c = record {
  value = second-counts (given c.args.first) (given c.args.second)
      (sym c.bad_counts.ensures ∙ c.if-bad_counts.true);
  sized = refused 4;
}

pub returns-then-second-first : goal.returns-then-second-first
unfolding view
returns-then-second-first c =
    let n = c in
    let a = n.args in record {
      value = second-dimension (given a.first) (given a.second) (sym n.bad_counts.ensures ∙ n.if-bad_counts.false) c.if-second-first.true;
      sized = refused 5;
    }

pub returns : goal.returns
unfolding view
returns c =
    let d = c in
    let n = d in
    let a = n.args in record {
      value = second-rest (given a.first) (given a.second) (sym n.bad_counts.ensures ∙ n.if-bad_counts.false) d.if-second-first.false
          c.examine.ensures.value;
      sized = c.examine.ensures.sized;
    }
