-- `select::fold_high` meets its contract: where no exponent is too large nothing is folded, and else the arrays have room for the marks.
use mathlib.Core.Path.{refl, sym, ap, ◌∙◌}
use Rattle.whole.specs.Tab.{any}
use Rattle.model.specs.Finish.{too_high}
use Rattle.rows.specs.Terms.{terms_taken}
use Rattle.select.specs.Stage.{bounded_none, all-low}
use borrow.Author.Rules.{rules}
use Rattle.select.proofs.fold_high.Goals as goal

pub returns-then-not-any_high : goal.returns-then-not-any_high
returns-then-not-any_high c =
    let s = c in record {
      passed = record {
        is = all-low _ _ (sym (c.any_high.ensures s.args.s.now ∙ ap (any too_high) (terms_taken s.args.e.now s.args.heads.now s.args.s.now s.args.n s.requires.0.places-long)) ∙ c.if-not-any_high.true);
        fewer = search rules;
        ready = s.requires.0;
        bounded = bounded_none _ _ _;
      };
      later_places = refl;
      later_rows = refl;
    }

pub returns-then-n-le161 : goal.returns-then-n-le161
returns-then-n-le161 c =
    let f = c.fold_high_within in record {
      passed = f.ensures.passed;
      later_places = f.ensures.later_places;
      later_rows = f.ensures.later_rows;
    }

pub returns : goal.returns
returns c =
    let f = c.fold_high_within-2 in record {
      passed = f.ensures.passed;
      later_places = f.ensures.later_places;
      later_rows = f.ensures.later_rows;
    }
