-- `fitness::totals_out` meets its contract.
use Rattle.std.proofs.Common.{◌≡◌, Bool, List, [], ◌∷◌, ◌||◌, refl, ap, ◌∙◌, rules}
use borrow.Author.Tests.{tests}
use Rattle.std.specs.List.{list_any}
use Rattle.std.proofs.lemmas.Iterator.{YieldsList-from_slice}
use Rattle.std.proofs.lemmas.Iterator.Search.{any_from_yields_List}
use Rattle.std.specs.Prelude.{ltb}
use Rattle.whole.specs.Tab.{any}
use Rattle.model.specs.Limits.{max_total}
use Rattle.run.proofs.fitness.totals_out.Goals as goal

same : {A : Type 0} (p : A → Bool) (l : List A) → list_any p l ≡ any p l
unfolding any
same p [] = refl
same p (x ∷ l) = ap (p x ||◌) (same p l)

pub returns : goal.returns
returns c =
    any_from_yields_List (ltb max_total) _ _ _ c.any.ensures.ran (YieldsList-from_slice c.args.totals cc) (λ x b q k. search (rules, tests))
    ∙ same (ltb max_total) c.args.totals
