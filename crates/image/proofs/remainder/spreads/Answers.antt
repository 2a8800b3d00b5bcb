-- `image::remainder::spreads` meets its contract: each place is made in turn.
use Rattle.std.proofs.Common.{rules}
use Rattle.forms.specs.Made.{made}
use Rattle.image.proofs.remainder.spreads.Goals as goal

pub returns : goal.returns
returns c = made _ _ 0 (λ i x q l k. search rules) c.from_fn.ensures.items
