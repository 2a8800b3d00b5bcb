-- `causes::counts_out` meets its contract: the counts of a record are those of its set.
use Rattle.std.proofs.Common.{sym}
use Rattle.zonotope.specs.Counts.{view-counts}
use Rattle.zonotope.proofs.causes.counts_out.Goals as goal

pub returns : goal.returns
returns c = sym (view-counts c.args.s.now)
