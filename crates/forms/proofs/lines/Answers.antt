-- `forms::lines` meets its contract: each place is made in turn.
use Rattle.std.proofs.Common.{rules}
use lib.IntN.{pos}
use Rattle.forms.specs.Made.{made}
use Rattle.forms.specs.Numbers.{line_table}
use Rattle.forms.proofs.lines.Goals as goal

pub returns : goal.returns
unfolding line_table
returns c = made _ _ (pos 0) (λ i x q l k. search rules) c.from_fn.ensures.items
