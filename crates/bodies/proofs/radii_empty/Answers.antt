-- `bodies::radii_empty` meets its contract.
use mathlib.Core.Path.{ap, ◌∙◌}
use mathlib.Core.Bool.{not, ◌||◌}
use Rattle.whole.specs.Tab.{any}
use Rattle.model.specs.Bytes.{words}
use Rattle.model.specs.Body.{disturbance_words, given_radii}
use Rattle.model.specs.Field.{negative, beyond}
use Rattle.bodies.specs.Fields.{zero-words}
use Rattle.bodies.proofs.radii_empty.Goals as goal

pub returns : goal.returns
unfolding given_radii
returns c =
    let b = c.args.b.now in
    ap not (c.any_outside.ensures ∙ ap (λ n. any (λ z. negative z || beyond 0 z) (words b 1 n)) c.byte_at-n.ensures.0)
    ∙ zero-words (disturbance_words b)
