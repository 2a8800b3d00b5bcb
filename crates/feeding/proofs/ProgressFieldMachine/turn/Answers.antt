-- `turn` of `Progress` meets its contract.
use Rattle.feeding.proofs.Written.{turn_done, turned-closed, turned_taken, closed_count, closed-placed}
use Rattle.feeding.proofs.ProgressFieldMachine.turn.Goals as goal

pub close-requires : goal.close-requires
close-requires c =
    (closed_count c.args.self c.args.rest.now c.if-rest-self.true, c.requires.3)

pub returns-then-rest-self : goal.returns-then-rest-self
returns-then-rest-self c =
    let p = c.args.self in
    let rest = c.args.rest.now in
    (turn_done p rest (turned-closed p rest c.if-rest-self.true) c.close.ensures, closed-placed p c.close.ensures)

pub returns : goal.returns
returns c =
    let p = c.args.self in
    let rest = c.args.rest.now in
    let t = c.take.ensures in
    (turn_done p rest (turned_taken p rest c.if-rest-self.false) t.0, t.1)
