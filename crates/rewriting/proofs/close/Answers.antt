-- `rewriting::close` meets its contract.
use Rattle.std.proofs.Common.{◌≤◌, length, ap, ◌∙◌, arith}
use Rattle.text.specs.Appended.{named}
use Rattle.rewriting.proofs.OneByte.{held_count}
use Rattle.rewriting.proofs.close.Goals as goal
use Rattle.rewriting.proofs.close.Goals.{After-bytes}

-- no more are held than an empty disturbance has
few : (c : After-bytes) → length c.bytes.result.now ≤ 28
few c = omega (arith, ap length c.bytes.ensures ∙ held_count c.args.h c.requires.0, c.requires.0.within)

pub append-requires : goal.append-requires
append-requires c = omega (arith, few (goal.at.append-requires c).After-bytes, c.requires.1)

pub returns : goal.returns
returns c = named (few (goal.at.returns c).After-bytes) c.bytes.ensures c.append.ensures
