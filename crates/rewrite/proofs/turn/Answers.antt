-- `rewrite::turn` meets its contract.
use Rattle.std.specs.Prelude.{◌≡◌, ℕ, ◌+◌, ◌≤◌, List, length, take}
use Rattle.std.proofs.Common.{sym, arith}
use lib.Seq.{length-take-le}
use Rattle.console.specs.declared.Input.{Input}
use Rattle.console.specs.declared.Filled.{Filled}
use Rattle.console.specs.Trace.{FilledFrom}
use Rattle.text.specs.Appended.{Appended}
use Rattle.rewrite.proofs.Flowing.{turn_stopped, turn_done}
use Rattle.rewrite.proofs.turn.Goals as goal

-- what `fill` brought has room with what is held
has_room : {i : Input} {r : Filled} (buf out : List ℕ) → FilledFrom i buf r → length buf ≡ 65536 → length out ≡ 65564
    → length (take r.count buf) + 28 ≤ length out
has_room {r = r} buf out f b o = omega (arith, length-take-le r.count buf f.within, f.within)

-- and so has what `pass` wrote
fits : {most k : ℕ} {out after piece : List ℕ} → Appended most out after 0 k piece → length after ≡ length out → most ≤ length out
    → k ≤ length after
fits p e h = omega (arith, p.ends, p.short)

pub returns-then-got : goal.returns-then-got
returns-then-got c =
    let r = c.requires in
    turn_stopped c.args.f c.fill-got.new.buf r.0 r.1 r.5 r.6 c.fill-got.result c.fill-got.ensures
    (omega (arith, c.fill-got.auto.buf, r.3)) c.if-got.true r.2

pub slice_bounds-pass-end-2 : goal.slice_bounds-pass-end-2
slice_bounds-pass-end-2 c = sym (length-take-le c.fill-got.result.count c.fill-got.new.buf c.fill-got.ensures.within)

pub pass-given-requires : goal.pass-given-requires
pass-given-requires c = (
  c.requires.0.reached,
  has_room c.fill-got.new.buf c.args.out.now c.fill-got.ensures (omega (arith, c.fill-got.auto.buf, c.requires.3)) c.requires.4,
)

pub slice_bounds-emit-end : goal.slice_bounds-emit-end
slice_bounds-emit-end c =
    let room = has_room c.fill-got.new.buf c.args.out.now c.fill-got.ensures (omega (arith, c.fill-got.auto.buf, c.requires.3)) c.requires.4 in
    fits c.pass-given.ensures.text c.pass-given.auto.out room

pub slice_bounds-emit-end-2 : goal.slice_bounds-emit-end-2
slice_bounds-emit-end-2 c =
    let room = has_room c.fill-got.new.buf c.args.out.now c.fill-got.ensures (omega (arith, c.fill-got.auto.buf, c.requires.3)) c.requires.4 in
    sym (length-take-le c.pass-given.result.written c.pass-given.new.out (fits c.pass-given.ensures.text c.pass-given.auto.out room))

pub returns : goal.returns
returns c =
    let r = c.requires in
    turn_done c.args.f c.fill-got.new.buf r.0 r.1 r.5 r.6 c.fill-got.result c.fill-got.ensures
    (omega (arith, c.fill-got.auto.buf, r.3)) c.if-got.false c.pass-given.result c.pass-given.ensures _
    c.emit-emitted.result.whole c.emit-emitted.ensures r.2
