-- `bodies::set` meets its contract.
use mathlib.Core.Path.{ap, ◌∙◌}
use Rattle.zonotope.specs.Record.{pack}
use Rattle.bodies.specs.Set.{set_of, given-set}
use Rattle.bodies.proofs.set.Goals as goal

pub returns : goal.returns
returns c =
    let b = c.args.b.now in
    c.filled.ensures ∙ ap (λ k. pack (set_of b k)) c.of.ensures ∙ ap pack (given-set b)
