-- `fold::keep_rows` meets its contract, by the laws of `Keeping`.
use native.Mathlib.Omega.{arith}
use mathlib.Core.Bool.{not}
use mathlib.Core.Path.{◌≡◌, refl, ap, ◌∙◌}
use Prim.Native.Nat.{◌*◌}
use lib.ListN.{length}
use Rattle.rows.specs.WorkSpace.{open_from}
use Rattle.fold.specs.Keeping.{keeping_start, keeping_out, keeping_in}
use Rattle.fold.proofs.keep_rows.Goals as goal

pub loop-k-init : goal.loop-k-init
loop-k-init c = (refl, keeping_start _ _ _, λ b h. h)

pub loop-k-preserved-then-gone : goal.loop-k-preserved-then-gone
loop-k-preserved-then-gone c =
    let at = c in
    let i = at.loop-k.invariant in
    (i.0, keeping_out _ _ _ i.1 (ap not c.if-gone.true), i.2)

pub move_row-requires : goal.move_row-requires
move_row-requires c =
    let at = c in
    let l = at.loop-k.invariant.0 in
    (at.loop-k.invariant.1.few, omega (arith, l, at.requires))

pub overflow_add-m : goal.overflow_add-m
overflow_add-m c =
    let at = c in
    let few = at.loop-k.invariant.1.few in
    omega (arith, few)

pub loop-k-preserved : goal.loop-k-preserved
loop-k-preserved c =
    let at = c in
    let i = at.loop-k.invariant in
    let w = c.move_row in (
      w.auto.s ∙ i.0,
      keeping_in _ _ _ i.1 (ap not c.if-gone.false) w.ensures.row,
      λ b h. w.ensures.small b (i.2 b h),
    )

pub returns : goal.returns
returns c =
    let at = c in
    let i = at.loop-k.invariant in
    let few = i.1.few in
    let e : at.loop-k.k ≡ length at.args.gone.now = omega arith in record {
      upper_bound = (omega (arith, few), rw e at i.1.so_far, i.2);
      later_rows = open_from (at.loop-k.m * 6) at.args.s.now at.loop-k.s i.0;
    }
