-- `too_wide` meets its contract: the spans are those of the set.
use Rattle.std.specs.Prelude.{List, ℕ, ltb}
use Rattle.std.proofs.Common.{sym, ap, ◌∙◌}
use Rattle.whole.specs.Tests.{some_below}
use Rattle.model.specs.Limits.{max_span}
use Rattle.arrays.specs.Rows.{span_at}
use Rattle.zonotope.specs.View.{view-wide}
use Rattle.zonotope.proofs.too_wide.Goals as goal

pub returns : goal.returns
returns c =
    let s = c.args.s.now in
    c.too_wide.ensures
    ∙ ap (λ (r : List ℕ). some_below s.dimension (λ i. ltb max_span (span_at s.centre s.coefficients s.vectors r s.terms s.generators i)))
    c.totals.ensures.0
    ∙ sym (view-wide s c.requires.dimension)
