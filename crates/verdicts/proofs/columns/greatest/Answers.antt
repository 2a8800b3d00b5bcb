-- `columns::greatest` meets its contract: the greater of 0 and g, or the size of g.
use Rattle.std.proofs.Common.{sym, ap, ◌∙◌, nat_abs, pos, to_z-of_z}
use Rattle.std.specs.Int.{int_max}
use Rattle.whole.specs.Fits.{got64}
use Rattle.model.specs.Operations.{greatest}
use Rattle.verdicts.specs.Ends.{greatest_even}
use Rattle.verdicts.proofs.columns.greatest.Goals as goal

pub returns-then-even : goal.returns-then-even
returns-then-even c =
    got64 (c.max.ensures.value ∙ ap (λ x. int_max x (pos 0)) (to_z-of_z c.ranges.g) ∙ greatest_even c.args.g) c.max.type_inv
    ∙ ap (λ b. greatest b c.args.g) (sym c.if-even.true)

pub returns-else-even : goal.returns-else-even
unfolding greatest
returns-else-even c =
    got64 (c.abs.ensures.value ∙ ap (λ x. pos (nat_abs x)) (to_z-of_z c.ranges.g)) c.abs.type_inv
    ∙ ap (λ b. greatest b c.args.g) (sym c.if-even.false)
