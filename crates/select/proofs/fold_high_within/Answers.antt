-- `select::fold_high_within` meets its contract: what was marked has an exponent that is too large.
use Rattle.std.proofs.Common.{◌≡◌, ◌∙◌, length, arith}
use Rattle.fold.specs.Folding.{core_of}
use Rattle.select.specs.Stage.{passed_as, high-parted, room}
use Rattle.select.proofs.fold_high_within.Goals as goal

pub returns-clause-passed : goal.returns-clause-passed
returns-clause-passed g c =
    let a = c.args in
    let gone = c.mark_high.new.gone in
    let fits = room g.row.N a.n c.requires.3 in
    let long : length gone ≡ a.n = c.mark_high.auto.gone ∙ fits in
    passed_as (rw long at c.part_terms.ensures)
    (high-parted a.e.now a.heads.now a.s.now a.n (core_of a.core.centre a.core.radii) gone (λ i h. c.mark_high.ensures i (omega (arith, fits))))
