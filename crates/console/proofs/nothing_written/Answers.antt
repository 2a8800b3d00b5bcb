use Rattle.console.specs.Trace.Law.{no_output}
use Rattle.console.proofs.nothing_written.Goals as goal

pub returns : goal.returns
returns c = no_output c.stdout.result
