-- `rewriting::gather` meets its contract.
use Rattle.std.proofs.Common.{◌≡◌, ◌+◌, ◌-◌, length, arith}
use lib.Seq.{drop-drop}
use Rattle.rewriting.proofs.Gathered.{gathered_bytes}
use Rattle.rewriting.proofs.gather.Goals as goal

pub returns : goal.returns
returns c =
    let h = c.args.h in
    let more = c.args.more.now in
    let size : length h.bytes ≡ 28 = omega (arith, c.well_formed) in
    let n : h.count + length more - h.count ≡ length more = omega arith in
    rw (c.copy_from_slice.ensures.after, n, drop-drop (length more) h.count h.bytes) (gathered_bytes h more (omega (arith, size)))
