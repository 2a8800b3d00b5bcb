-- `forms::form_row` meets its contract: each place is made in turn.
use Rattle.std.proofs.Common.{rules}
use lib.IntN.{pos}
use Rattle.forms.specs.Made.{made}
use Rattle.forms.proofs.form_row.Goals as goal

pub returns : goal.returns
returns c = made _ _ (pos 0) (λ i x q l k. search rules) c.from_fn.ensures.items
