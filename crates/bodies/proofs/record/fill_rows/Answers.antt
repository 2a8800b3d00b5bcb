-- `bodies::record::fill_rows` meets its contract: row after row is written.
use native.Mathlib.Omega.{arith}
use mathlib.Core.Path.{◌≡◌, ap, ◌∙◌}
use Prim.Native.Nat.{◌+◌, ◌*◌, ◌≤◌}
use lib.ListN.{length}
use Rattle.std.proofs.Common.{rules}
use Rattle.bodies.specs.Rows.{write_rows, no_rows, row_written, part_long, row_below}
use Rattle.bodies.proofs.record.fill_rows.Goals as goal

pub loop-t-init : goal.loop-t-init
loop-t-init g c = (omega arith, λ f gives. no_rows _ _ f _)

pub fill-requires : goal.fill-requires
fill-requires g c =
    let t = c.loop-t.t-counter in
    let w = c.args.width in
    let within : t * w + c.args.n ≤ length c.loop-t.out = omega (arith, row_below w t c.args.rows (omega arith), c.requires.room, c.loop-t.auto.out) in
    λ k l. c.requires.callable t k (omega arith) (omega (arith, part_long c.loop-t.out (t * w) c.args.n within))

pub loop-t-preserved : goal.loop-t-preserved
loop-t-preserved g c =
    let t = c.loop-t.t-counter in
    let w = c.args.width in
    let within : t * w + c.args.n ≤ length c.loop-t.out = omega (arith, row_below w t c.args.rows (omega arith), c.requires.room, c.loop-t.auto.out) in
    let long = part_long c.loop-t.out (t * w) c.args.n within in (
      omega arith,
      λ f gives.
          row_written _ _ _ w f c.args.n t within (c.loop-t.invariant.1 f gives)
          (rw long at (c.fill.ensures (f t) (λ k v l p. gives t k v (omega arith) (omega arith) (search rules)))),
    )

pub returns : goal.returns
returns g c = λ f gives.
    let all : c.loop-t.t-counter ≡ c.args.rows = omega (arith, c.loop-t.invariant.0) in
    c.loop-t.invariant.1 f gives ∙ ap (write_rows c.args.out.now c.args.width f c.args.n) all
