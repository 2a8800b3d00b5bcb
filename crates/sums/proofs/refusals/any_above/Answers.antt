-- `refusals::any_above` meets its contract.
use Rattle.std.specs.Prelude.{◌≡◌, Bool, List, [], ◌∷◌, ◌||◌, refl, ltb}
use Rattle.std.proofs.Common.{ap, ◌∙◌, rules, tests}
use Rattle.std.specs.List.{list_any}
use Rattle.std.proofs.lemmas.Iterator.{YieldsList-from_slice}
use Rattle.std.proofs.lemmas.Iterator.Search.{any_from_yields_List}
use Rattle.whole.specs.Tab.{any}
use Rattle.sums.proofs.refusals.any_above.Goals as goal

same : {A : Type 0} (p : A → Bool) (l : List A) → list_any p l ≡ any p l
unfolding any
same p [] = refl
same p (x ∷ l) = ap (p x ||◌) (same p l)

pub returns : goal.returns
returns c =
    any_from_yields_List (ltb c.args.limit) _ _ _ c.any.ensures.ran (YieldsList-from_slice c.args.radii.now cc) (λ x b q k. search (rules, tests))
    ∙ same (ltb c.args.limit) c.args.radii.now
