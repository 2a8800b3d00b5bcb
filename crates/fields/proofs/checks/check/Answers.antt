-- `checks::check` meets its contract.
use mathlib.Core.Path.{◌≡◌, refl, sym, ◌∙◌}
use mathlib.Core.Bool.{Bool}
use Rattle.zonotope.specs.Record.{view}
use Rattle.bodies.specs.Fields.{region_counts_out}
use Rattle.fields.specs.Checks.{too_short, wrong_counts, wrong_length}
use Rattle.fields.proofs.checks.check.Goals as goal
use Rattle.fields.proofs.checks.check.Goals.{After-region_counts_out}

-- what the test of the counts says, where its answer is t
wrong : (s : After-region_counts_out) {t : Bool} → s.region_counts_out.result ≡ t
    → region_counts_out s.args.body.now ≡ t
wrong s e = sym s.region_counts_out.ensures ∙ e

pub returns-then-body-lt2 : goal.returns-then-body-lt2
returns-then-body-lt2 c = let a = c.args in too_short a.body.now (view a.s) c.if-body-lt2.true

pub returns-then-region_counts_out : goal.returns-then-region_counts_out
returns-then-region_counts_out c =
    let a = c.args in
    wrong_counts a.body.now (view a.s) c.if-body-lt2.false (wrong (goal.at.returns-then-region_counts_out c).After-region_counts_out c.if-region_counts_out.true)

pub returns-then-body-region_length : goal.returns-then-body-region_length
returns-then-body-region_length c =
    let a = c.args in
    wrong_length a.body.now (view a.s) c.if-body-lt2.false (wrong (goal.at.returns-then-body-region_length c).After-region_counts_out c.if-region_counts_out.false)
    (λ e. c.if-body-region_length.true (e ∙ sym c.region_length.ensures))

pub read-requires : goal.read-requires
read-requires c = (
  c.requires,
  record {
    counts = wrong (goal.at.read-requires c).After-region_counts_out c.if-region_counts_out.false;
    long = c.if-body-region_length.false ∙ c.region_length.ensures;
    normals_long = refl;
    bounds_long = refl;
  },
)

pub returns : goal.returns
returns c = c.read.ensures
