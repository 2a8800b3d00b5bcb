-- `select::part_terms` meets its contract, by what its passes leave.
use Rattle.std.proofs.Common.{ℕ, get_or, rules}
use Rattle.model.specs.Finish.{all_even}
use Rattle.rows.specs.Rows.{exponent_row}
use Rattle.select.specs.Stage.{terms-passed, ready-after}
use Rattle.select.proofs.part_terms.Goals as goal

pub returns : goal.returns
returns c =
    let g = c.args in
    let e = g.e.now in
    let heads = g.heads.now in
    let kept = c.keep_rows-count.ensures.upper_bound in
    let moved = c.keep_places.ensures.upper_bound in
    let ready = c.requires.0 in
    let core = c.fold_rows.ensures.folds (λ (k : ℕ). all_even (exponent_row e (get_or heads k 0))) (λ k r l post. search rules) in
    record {
      is = terms-passed e heads _ g.s.now _ _ c.keep_rows-count.result c.keep_places.result g.gone.now _ core moved.1 kept.1;
      fewer = kept.0;
      ready = ready-after ready kept.0 c.keep_places.auto.heads c.keep_rows-count.auto.s (moved.2 e ready.rows) (kept.2 _ ready.small);
      bounded = c.fold_rows.ensures.bounds;
    }
