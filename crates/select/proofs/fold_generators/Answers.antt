-- `select::fold_generators` meets its contract: where the generators are few nothing is folded, and else the arrays have room for them.
use mathlib.Core.Path.{refl}
use Rattle.model.specs.Finish.{size, fold_generator}
use Rattle.rows.specs.Rows.{number_row}
use Rattle.select.specs.Selected.{few_left}
use Rattle.select.specs.Stage.{bounded_none}
use borrow.Author.Rules.{rules}
use Rattle.select.proofs.fold_generators.Goals as goal

pub returns-then-n-limit : goal.returns-then-n-limit
returns-then-n-limit c =
    let s = c in record {
      generators_passed = (
        record {
          is = few_left (size s.args.weights) fold_generator (number_row s.args.g.now) s.args.limit s.args.n _
              c.if-n-limit.true;
          fewer = search rules;
          small = s.requires.2;
          bounded = bounded_none _ _ _;
        },
        c.if-n-limit.true,
      );
      later_rows = refl;
    }
