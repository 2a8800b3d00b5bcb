-- `rewriting::join` meets its contract.
use Rattle.std.proofs.Common.{length, ap, ◌∙◌, arith}
use Rattle.model.specs.Rewrite.{empty_disturbance}
use Rattle.rewriting.specs.Given.{undecided}
use Rattle.rewriting.proofs.Joined.{with-within, with-more, with_header, join_holds, join_drops, join_writes}
use Rattle.rewriting.proofs.OneByte.{held_below}
use Rattle.rewriting.proofs.join.Goals as goal

pub with_byte-held-requires : goal.with_byte-held-requires
with_byte-held-requires c = held_below c.args.h c.requires.0

pub bytes-requires : goal.bytes-requires
bytes-requires c = with-within c.args.h c.args.b c.with_byte-held.ensures c.requires.0

pub returns-then-is_open : goal.returns-then-is_open
returns-then-is_open c =
    join_holds c.args.h c.args.b c.with_byte-held.ensures c.args.out.now c.args.at (c.is_open.ensures ∙ ap undecided c.bytes.ensures)
    c.if-is_open.true

pub bytes-requires-2 : goal.bytes-requires-2
bytes-requires-2 c = with-within c.args.h c.args.b c.with_byte-held.ensures c.requires.0

pub returns-then-is_empty : goal.returns-then-is_empty
returns-then-is_empty c =
    join_drops c.args.h c.args.b c.with_byte-held.ensures (c.is_open.ensures ∙ ap undecided c.bytes.ensures) c.if-is_open.false
    (c.is_empty.ensures ∙ ap empty_disturbance c.bytes-2.ensures) c.args.out.now c.args.at c.if-is_empty.true

pub bytes-requires-3 : goal.bytes-requires-3
bytes-requires-3 c = with-within c.args.h c.args.b c.with_byte-held.ensures c.requires.0

pub missing-left-requires : goal.missing-left-requires
missing-left-requires c =
    rw c.bytes-3.ensures (with_header c.args.h c.args.b c.with_byte-held.ensures c.requires.0
    (c.is_open.ensures ∙ ap undecided c.bytes.ensures) c.if-is_open.false)

pub bytes-requires-4 : goal.bytes-requires-4
bytes-requires-4 c = with-within c.args.h c.args.b c.with_byte-held.ensures c.requires.0

pub append-written-requires : goal.append-written-requires
append-written-requires c =
    omega (
      arith,
      ap length c.bytes-4.ensures,
      with-more c.args.h c.args.b c.with_byte-held.ensures c.requires.0,
      c.requires.2,
    )

pub returns : goal.returns
returns c =
    join_writes c.args.h c.args.b c.with_byte-held.ensures (c.is_open.ensures ∙ ap undecided c.bytes.ensures) c.if-is_open.false
    (c.is_empty.ensures ∙ ap empty_disturbance c.bytes-2.ensures)
    c.requires.0 c.if-is_empty.false (rw c.bytes-3.ensures at c.missing-left.ensures) (rw c.bytes-4.ensures at c.append-written.ensures)
