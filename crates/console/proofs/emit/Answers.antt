use Rattle.std.proofs.Common.{refl}
use Rattle.console.specs.Trace.Law.{wrote_is}
use Rattle.console.proofs.emit.Goals as goal

pub returns : goal.returns
returns c = wrote_is c.args.o c.args.bytes.now _ refl
