-- `fold::keep_places` meets its contract, by the laws of `Keeping`.
use native.Mathlib.Omega.{arith}
use mathlib.Core.Bool.{not}
use mathlib.Core.Path.{◌≡◌, refl, ap}
use Prim.Native.Nat.{◌<◌}
use lib.ListN.{length, get_or, length-set}
use Rattle.rows.specs.WorkSpace.{open_from}
use Rattle.rows.specs.Places.{places-set}
use Rattle.fold.specs.Keeping.{keeping_start, keeping_out, keeping_in, place-moved}
use Rattle.fold.proofs.keep_places.Goals as goal

pub loop-k-init : goal.loop-k-init
loop-k-init c = (refl, keeping_start _ _ _, λ e p. p)

pub loop-k-preserved-then-gone : goal.loop-k-preserved-then-gone
loop-k-preserved-then-gone c =
    let at = c in
    let i = at.loop-k.invariant in
    (i.0, keeping_out _ _ _ i.1 (ap not c.if-gone.true), i.2)

pub bounds-heads-k : goal.bounds-heads-k
bounds-heads-k c =
    let at = c in
    let l = at.loop-k.invariant.0 in
    let few = at.loop-k.invariant.1.few in
    omega (arith, l, few, at.requires)

pub bounds-heads-m : goal.bounds-heads-m
bounds-heads-m c =
    let at = c in
    let l = at.loop-k.invariant.0 in
    let few = at.loop-k.invariant.1.few in
    omega (arith, l, few, at.requires)

pub overflow_add-m : goal.overflow_add-m
overflow_add-m c =
    let at = c in
    let few = at.loop-k.invariant.1.few in
    omega (arith, few)

pub loop-k-preserved : goal.loop-k-preserved
loop-k-preserved c =
    let at = c in
    let i = at.loop-k.invariant in
    let l = i.0 in
    let few = i.1.few in
    let m = at.loop-k.m in
    let k = at.loop-k.k in
    let heads = at.loop-k.heads in
    let in_m : m < length heads = omega (arith, l, few, at.requires) in (
      simp length-set i.0,
      keeping_in _ _ _ i.1 (ap not c.if-gone.false) (place-moved heads m k in_m),
      λ e p. let q = i.2 e p in places-set e heads m (get_or heads k 0) in_m q (q.row k (omega (arith, l, at.requires))),
    )

pub returns : goal.returns
returns c =
    let at = c in
    let i = at.loop-k.invariant in
    let few = i.1.few in
    let e : at.loop-k.k ≡ length at.args.gone.now = omega arith in record {
      upper_bound = (omega (arith, few), rw e at i.1.so_far, i.2);
      later_places = open_from at.loop-k.m at.args.heads.now at.loop-k.heads i.0;
    }
