-- `conclusion::left` meets its contract.
use mathlib.Core.Path.{◌∙◌, ap}
use Rattle.advance.specs.Totals.{folded_from, grown}
use Rattle.advance.specs.ConclusionLaws.{left_is}
use Rattle.advance.proofs.conclusion.left.Goals as goal

pub after-requires : goal.after-requires
after-requires c = rw c.makes_anew.ensures c.requires.0

pub returns : goal.returns
returns c =
    let a = c.args in
    left_is a.st a.kind a.m
    (c.after.ensures ∙ ap (λ b. grown a.st.folded (folded_from b a.st) a.m.set.radii.folded) c.makes_anew.ensures)
