use Rattle.console.specs.Trace.Law.{of_file}
use Rattle.console.proofs.named_file.Goals as goal

pub returns : goal.returns
returns c = of_file c.args.argument _
