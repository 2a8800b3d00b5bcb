-- `factors::squeeze_exponents` meets its contract, by the laws of `Filling`.
use Rattle.std.proofs.Common.{◌≡◌, ℕ, ◌+◌, ◌*◌, length, get_or, arith}
use Rattle.std.proofs.Math.ListN.{length-replicate}
use Rattle.fold.specs.Marks.{same_at}
use Rattle.factors.specs.Squeeze.{filling_start, filling_more, filling_done, mapped_here, mapped_past}
use Rattle.factors.proofs.squeeze_exponents.Goals as goal

pub loop-k-init : goal.loop-k-init
loop-k-init c = filling_start _ _ (length-replicate {A = ℕ} 480 0) (same_at 0 480)

pub loop-k-preserved : goal.loop-k-preserved
loop-k-preserved c =
    let e = c.args.e.now in
    let places = c.args.places.now in
    let k = c.loop-k.k in
    let f : ℕ → ℕ = λ j. get_or e (get_or c.args.heads.now k 0 * 12 + j) 0 in
    rw (c.squeeze_row.ensures, c.from.ensures)
    (filling_more _ c.loop-k.invariant (omega arith) _ _ c.requires.2.few (mapped_here f places) (mapped_past f places))

pub returns : goal.returns
returns c =
    let e : c.loop-k.k ≡ length c.args.heads.now = omega arith in
    filling_done _ (rw e at c.loop-k.invariant)
