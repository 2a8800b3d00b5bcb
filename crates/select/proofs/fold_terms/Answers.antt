-- `select::fold_terms` meets its contract: where the terms are few nothing is folded, and else the arrays have room for them.
use mathlib.Core.Path.{refl}
use Rattle.select.specs.Stage.{bounded_none, terms_few}
use borrow.Author.Rules.{rules}
use Rattle.select.proofs.fold_terms.Goals as goal

pub returns-then-n-limit : goal.returns-then-n-limit
returns-then-n-limit c =
    let s = c in record {
      passed = (
        record {
          is = terms_few s.args.e.now s.args.heads.now s.args.s.now s.args.n _ s.args.weights s.args.limit
              c.if-n-limit.true;
          fewer = search rules;
          ready = s.requires.0;
          bounded = bounded_none _ _ _;
        },
        c.if-n-limit.true,
      );
      later_places = refl;
      later_rows = refl;
    }

pub returns-then-n-le161 : goal.returns-then-n-le161
returns-then-n-le161 c =
    let f = c.fold_terms_within in record {
      passed = f.ensures.passed;
      later_places = f.ensures.later_places;
      later_rows = f.ensures.later_rows;
    }

pub returns : goal.returns
returns c =
    let f = c.fold_terms_within-2 in record {
      passed = f.ensures.passed;
      later_places = f.ensures.later_places;
      later_rows = f.ensures.later_rows;
    }
