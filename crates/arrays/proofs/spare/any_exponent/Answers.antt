-- `spare::any_exponent` meets its contract: what is found so far is what the places passed give.
use Rattle.std.specs.Prelude.{◌≡◌, refl, not, ◌||◌, Bool, ℕ, eqb}
use Rattle.std.proofs.Common.{◌∙◌, sym, ap, rules, tests}
use Rattle.std.proofs.lemmas.Iterator.{YieldsList-from_slice}
use Rattle.std.proofs.lemmas.Fn.{fold_over, fronts}
use Rattle.whole.specs.Tab.{any}
use Rattle.arrays.specs.Chains.{any-end}
use Rattle.arrays.proofs.spare.any_exponent.Goals as goal

pub returns : goal.returns
unfolding any
returns c =
    let nonzero : ℕ → Bool = λ x. not (eqb x 0) in
    fold_over fronts (λ y. y.now) _ (λ ys found. found ≡ any nonzero ys) _
    (λ ys a x b f' e k.
    let now : b ≡ a || nonzero x.now = search (rules, tests) in
    (now ∙ ap (◌|| nonzero x.now) e ∙ sym (any-end nonzero ys x.now), search rules))
    c.iter.result c.args.run.now _ _ (YieldsList-from_slice _ c.iter.ensures.rest).runs refl c.fold.ensures.ran
