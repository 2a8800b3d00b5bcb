-- `select::fold_generators_within` meets its contract: what was marked lies below a bar.
use Rattle.std.proofs.Common.{◌≡◌, ◌∙◌, ℕ, List, ℤ, sym, ap₂, length, false, refl, rules}
use Rattle.whole.specs.Tab.{tab}
use Rattle.model.specs.Finish.{Core, size, fold_generator}
use Rattle.model.proofs.FoldOrder.{generator_swap}
use Rattle.rows.specs.Rows.{number_row}
use Rattle.fold.specs.Folding.{core_of, folded_as}
use Rattle.select.specs.Selected.{parted, until_parted, left-within}
use Rattle.select.specs.Stage.{room}
use Rattle.select.proofs.fold_generators_within.Goals as goal

pub returns-clause-generators_passed : goal.returns-clause-generators_passed
returns-clause-generators_passed g c =
    let a = c.args in
    let row = number_row a.g.now in
    let weights = a.weights.now in
    let core = core_of a.core.centre a.core.radii in
    let gone = c.mark_smallest.new.gone in
    let fits = room g.row.N a.n c.requires.7 in
    let long : length gone ≡ a.n = c.mark_smallest.auto.gone ∙ fits in
    let kept = rw long at c.keep_rows-count.ensures.upper_bound in
    let bounds = rw long at c.fold_rows.ensures.bounds in
    let folds = rw long at (c.fold_rows.ensures.folds (λ (k : ℕ). false) (λ k r l post. search rules)) in
    let p =
    ap₂ (λ (x : Core) (l : List (List ℤ)). record { core = x; kept = l })
    (folds ∙ folded_as a.g.now gone (λ (k : ℕ). false) core a.n (λ k. fold_generator (row k)) (λ k h x. refl))
    kept.1
    ∙ sym {b = parted fold_generator row a.n gone core} (until_parted (size weights) fold_generator generator_swap row a.limit a.n core (rw fits at c.mark_smallest.ensures)) in (
      record { is = p; fewer = kept.0; small = kept.2 _ c.requires.2; bounded = bounds },
      left-within (size weights) fold_generator generator_swap a.limit core (tab a.n row) c.keep_rows-count.result
          (number_row c.keep_rows-count.new.s) p,
    )
