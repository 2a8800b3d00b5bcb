-- `checks::read_into` meets its contract.
use Rattle.zonotope.specs.Counts.{in_limits}
use Rattle.zonotope.specs.Record.{view}
use Rattle.fields.specs.Checks.{region_verdict}
use Rattle.fields.proofs.checks.read_into.Goals as goal

pub judge-requires : goal.judge-requires
judge-requires c =
    in_limits c.args.s c.requires.0.passed.counts

pub returns : goal.returns
returns c =
    region_verdict c.args.body.now (view c.args.s) c.requires.3 c.requires.0.passed.narrow c.requires.1 c.requires.2
    c.region.ensures c.judge.ensures
