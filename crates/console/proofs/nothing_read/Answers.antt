use Rattle.console.specs.Trace.Law.{no_input}
use Rattle.console.proofs.nothing_read.Goals as goal

pub returns : goal.returns
returns c = no_input c.stdin.result
