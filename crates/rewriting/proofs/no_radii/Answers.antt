-- `rewriting::no_radii` meets its contract.
use mathlib.Core.Path.{◌≡◌, sym, ◌∙◌}
use mathlib.Core.Bool.{Bool}
use Rattle.model.specs.Body.{dimension}
use Rattle.model.specs.Field.{bad_dimension}
use Rattle.rewriting.proofs.Tests.{no_count, bad_count, bad_size, all_sized}
use native.Mathlib.Omega.{arith}
use Rattle.rewriting.proofs.no_radii.Goals as goal
use Rattle.rewriting.proofs.no_radii.Lts as lts
use Rattle.rewriting.proofs.no_radii.Tie as tie
use Rattle.rewriting.proofs.no_radii.Reads as reads

-- what the test of the count says, where its answer is t
counted : (s : lts.After-radii_counts_out tie.the-claims reads.Pre reads.Post) {t : Bool} → s.radii_counts_out.result ≡ t
    → bad_dimension (dimension s.args.body.now) ≡ t
counted s e = sym s.radii_counts_out.ensures ∙ e

pub returns-then-body-eq0 : goal.returns-then-body-eq0
returns-then-body-eq0 c = no_count c.args.body.now c.if-body-eq0.true

pub returns-then-radii_counts_out : goal.returns-then-radii_counts_out
returns-then-radii_counts_out c = bad_count c.args.body.now (counted c.before.before c.if-radii_counts_out.true)

pub returns-then-body-radii_length : goal.returns-then-body-radii_length
returns-then-body-radii_length c =
    let n = c in
    bad_size n.args.body.now (counted c.before.before.before.before n.if-radii_counts_out.false)
    (λ e. c.if-body-radii_length.true (e ∙ sym c.radii_length.ensures))

pub radii_empty-requires : goal.radii_empty-requires
radii_empty-requires c = omega (arith, c.if-body-radii_length.false, c.radii_length.ensures)

pub returns : goal.returns
returns c =
    let l = c in
    let n = l in
    all_sized n.args.body.now (counted c.before.before.before.before.before n.if-radii_counts_out.false)
    (omega (arith, l.if-body-radii_length.false, l.radii_length.ensures)) c.radii_empty.ensures
