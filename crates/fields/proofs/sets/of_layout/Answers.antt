-- `sets::of_layout` meets its contract.
use lib.ListN.{length}
use mathlib.Core.Path.{sym, ◌∙◌}
use Rattle.model.specs.Body.{set_length}
use Rattle.bodies.specs.Set.{set_counts_out}
use Rattle.fields.specs.Layout.{counts-cut, counts_wrong, length_wrong, nothing_wrong}
use Rattle.fields.proofs.sets.of_layout.Goals as goal

pub returns-then-body-lt4 : goal.returns-then-body-lt4
returns-then-body-lt4 c = let b = c.args.body.now in
    counts-cut 4 (set_counts_out b) (set_length b) (length b) c.if-body-lt4.true

pub returns-then-set_counts_out : goal.returns-then-set_counts_out
returns-then-set_counts_out c = let b = c.args.body.now in
    counts_wrong 4 (set_counts_out b) (set_length b) (length b) c.if-body-lt4.false
    (sym c.set_counts_out.ensures ∙ c.if-set_counts_out.true)

pub set_length-requires : goal.set_length-requires
set_length-requires c = (c.if-body-lt4.false, sym c.set_counts_out.ensures ∙ c.if-set_counts_out.false)

pub returns-then-body-set_length : goal.returns-then-body-set_length
returns-then-body-set_length c =
    let b = c.args.body.now in
    length_wrong 4 (set_counts_out b) (set_length b) (length b) c.if-body-lt4.false
    (sym c.set_counts_out.ensures ∙ c.if-set_counts_out.false) (λ e. c.if-body-set_length.true (e ∙ sym c.set_length.ensures))

pub returns : goal.returns
returns c =
    let b = c.args.body.now in
    nothing_wrong 4 (set_counts_out b) (set_length b) (length b) c.if-body-lt4.false
    (sym c.set_counts_out.ensures ∙ c.if-set_counts_out.false) (c.if-body-set_length.false ∙ c.set_length.ensures)
