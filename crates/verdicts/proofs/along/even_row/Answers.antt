-- `along::even_row` meets its contract: all exponents are even where the library finds none odd.
use Rattle.std.specs.Prelude.{◌+◌, ◌*◌, ◌-◌, ◌≡◌, take, drop}
use Rattle.std.proofs.Common.{◌∙◌, ap, arith, rules, tests}
use Rattle.std.proofs.lemmas.Iterator.{YieldsList-from_slice}
use Rattle.std.proofs.lemmas.Iterator.Search.{all_from_yields_List}
use Rattle.whole.specs.Tab.{all}
use Rattle.rational.specs.Power.{even}
use Rattle.whole.specs.Chains.{all_listed}
use Rattle.arrays.specs.Chains.{part-tab}
use Rattle.verdicts.proofs.along.even_row.Goals as goal

pub returns : goal.returns
unfolding even
returns c =
    let e = c.args.e.now in
    let at = c.args.t * 12 in
    let p = c.args.p in
    let n : at + p - at ≡ p = omega arith in
    all_from_yields_List even _ _ _ c.all.ensures.ran (YieldsList-from_slice (take (at + p - at) (drop at e)) c.iter.ensures.rest) (λ x b q k. search (rules, tests))
    ∙ all_listed even _
    ∙ ap (all even) (ap (λ m. take m (drop at e)) n ∙ part-tab 0 e at p (omega arith))
