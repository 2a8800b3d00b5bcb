-- `select::fold_terms_within` meets its contract: what was marked lies below a bar.
use Rattle.std.proofs.Common.{◌≡◌, ◌∙◌, length}
use Rattle.fold.specs.Folding.{core_of}
use Rattle.select.specs.Stage.{passed_as, terms-parted, terms-within, room}
use Rattle.select.proofs.fold_terms_within.Goals as goal

pub returns-clause-passed : goal.returns-clause-passed
returns-clause-passed g c =
    let a = c.args in
    let core = core_of a.core.centre a.core.radii in
    let fits = room g.row.N a.n c.requires.5 in
    let long : length c.mark_smallest.new.gone ≡ a.n = c.mark_smallest.auto.gone ∙ fits in
    let v =
    passed_as (rw long at c.part_terms.ensures)
    (terms-parted a.e.now a.heads.now a.s.now a.n core a.weights.now a.limit (rw fits at c.mark_smallest.ensures)) in
    (v, terms-within a.e.now a.heads.now a.s.now a.n core a.weights.now a.limit _ _ _ v.is)
