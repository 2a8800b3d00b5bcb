use Rattle.console.specs.Trace.Law.{filled}
use Rattle.console.proofs.brought.Goals as goal

pub returns-clause-history : goal.returns-clause-history
returns-clause-history c = filled c.args.i c.args.buf.now c.args.got _ _ c.came-count.ensures c.is_err.ensures.value
