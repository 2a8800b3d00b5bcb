-- `forms::no_forms` meets its contract: each number is asked.
use Rattle.std.proofs.Common.{rules, true, false, ◌≡◌}
use Rattle.std.proofs.lemmas.Iterator.{cases_from_all, YieldsList-from_slice}
use lib.IntN.{pos}
use Rattle.model.specs.Valid.{is_zero}
use Rattle.forms.specs.Answered.{all_answered}
use Rattle.forms.proofs.no_forms.Goals as goal

pub returns : goal.returns
returns c =
    all_answered is_zero (pos 0) 216 _ c.args.both.now (search rules)
    (cases_from_all _ _ _ (λ x. is_zero x ≡ true) (λ x. is_zero x ≡ false) c.all.ensures.ran (YieldsList-from_slice c.args.both.now cc)
    (λ x q k. search rules) (λ x q k. search rules))
