-- `conclusion::accepted` meets its contract.
use mathlib.Core.Path.{◌∙◌}
use Rattle.advance.specs.ConclusionLaws.{accepted_as_found}
use Rattle.advance.proofs.conclusion.accepted.Goals as goal

pub returns-in-Inside : goal.returns-in-Inside
returns-in-Inside c = c.inside.ensures ∙ accepted_as_found _ _ _ _ c.in-Inside.is

pub returns-in-Safe : goal.returns-in-Safe
returns-in-Safe c = c.judged.ensures ∙ accepted_as_found _ _ _ _ c.in-Safe.is

pub returns-in-Unknown : goal.returns-in-Unknown
returns-in-Unknown c = c.judged-in-Unknown.ensures ∙ accepted_as_found _ _ _ _ c.in-Unknown.is
