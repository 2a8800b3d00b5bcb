-- `sets::of_contents` meets its contract.
use mathlib.Core.Path.{sym, ◌∙◌, ap, ap₂}
use mathlib.Core.Bool.{◌||◌}
use Rattle.model.specs.Library.{examine}
use Rattle.zonotope.specs.declared.PolyZonotope.{PolyZonotope}
use Rattle.zonotope.specs.Record.{given}
use Rattle.zonotope.specs.Answer.{examined}
use Rattle.fields.proofs.SetLaws.{contents_out, contents_in}
use Rattle.fields.proofs.sets.of_contents.Goals as goal

pub large_identifier-requires : goal.large_identifier-requires
large_identifier-requires c = c.requires.0

pub negative_radius-requires : goal.negative_radius-requires
negative_radius-requires c = c.requires.0

pub returns-then-large_identifier-negative_radius : goal.returns-then-large_identifier-negative_radius
returns-then-large_identifier-negative_radius c =
    contents_out c.requires.0
    (sym (ap₂ ◌||◌ c.large_identifier.ensures c.negative_radius.ensures) ∙ c.if-large_identifier-negative_radius.true)

pub returns : goal.returns
returns c =
    contents_in c.requires.0
    (sym (ap₂ ◌||◌ c.large_identifier.ensures c.negative_radius.ensures) ∙ c.if-large_identifier-negative_radius.false)
    (c.examine.ensures.value ∙ ap (λ (s : PolyZonotope). examined (examine (given s))) c.requires.1)
