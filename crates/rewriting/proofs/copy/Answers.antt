-- `rewriting::copy` meets its contract.
use Rattle.std.proofs.Common.{sym, arith}
use lib.Seq.{length-take-le}
use Rattle.rewriting.proofs.Underway.{copy_turned}
use Rattle.rewriting.proofs.copy.Goals as goal

pub slice_bounds-append-end : goal.slice_bounds-append-end
slice_bounds-append-end c = sym (length-take-le c.min-n.result c.args.rest.now (omega arith))

pub append-written-requires : goal.append-written-requires
append-written-requires c =
    omega (arith, length-take-le c.min-n.result c.args.rest.now (omega arith), c.requires.3)

pub returns : goal.returns
returns c = copy_turned c.args.h c.args.rest.now c.requires.1 c.requires.2 (omega arith) c.append-written.ensures
