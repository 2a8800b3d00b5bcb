-- `finish::span::too_wide` meets its contract: some coordinate passes where the library finds one.
use Rattle.std.proofs.Common.{◌∙◌, ltb, arith, rules, tests}
use Rattle.std.proofs.lemmas.Iterator.{YieldsList-from_range}
use Rattle.std.proofs.lemmas.Iterator.Search.{any_from_yields_List}
use Rattle.model.specs.Limits.{max_span}
use Rattle.arrays.specs.Chains.{some_listed}
use Rattle.finish.specs.Spans.{held_span, wide-held}
use Rattle.finish.proofs.span.too_wide.Goals as goal

pub returns : goal.returns
returns c =
    let a = c.args in
    let n = a.u.dimension in
    λ e heads.
    any_from_yields_List (λ i. ltb max_span (held_span a.u.radii a.k a.s.now a.g.now i)) _ _ _ c.any.ensures.ran (YieldsList-from_range 0 n n (cc) (omega arith))
    (λ x b q k. search (rules, tests))
    ∙ some_listed _ n
    ∙ wide-held a.u a.k e heads a.s.now a.g.now c.requires.0
