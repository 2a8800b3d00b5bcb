-- `sets::read` meets its contract.
use Rattle.fields.proofs.SetLaws.{read_refused, read_accepted}
use Rattle.fields.proofs.sets.read.Goals as goal

pub set-s-requires : goal.set-s-requires
set-s-requires c = c.requires

pub of_contents-requires : goal.of_contents-requires
of_contents-requires c = (c.requires, c.set-s.ensures)

pub returns-in_err-of_contents : goal.returns-in_err-of_contents
returns-in_err-of_contents c = read_refused c.args.body.now c.in_err-of_contents.ensures c.from_residual.ensures.1

pub returns : goal.returns
returns c = read_accepted c.args.body.now c.in_ok-of_contents.ensures c.set-s.ensures
