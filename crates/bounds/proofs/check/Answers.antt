-- `check` meets its contract: the set is examined before the region is.
use Rattle.std.specs.Prelude.{refl}
use Rattle.std.proofs.Common.{sym, ◌∙◌}
use Rattle.zonotope.specs.Counts.{in_limits}
use Rattle.zonotope.specs.Valid.{valid}
use Rattle.zonotope.specs.Answer.{nothing_found, passed_on}
use Rattle.zonotope.specs.Record.{given}
use Rattle.bounds.specs.Answer.{verdict_accepted, verdict_asked, verdict_by}
use Rattle.bounds.proofs.check.Goals as goal

pub returns-in_err-examine : goal.returns-in_err-examine
returns-in_err-examine c =
    let a = c.args in
    passed_on (verdict_asked a.n a.count a.normals.now a.bounds.now (given a.s)) (λ n. refl) _ c.in_err-examine.ensures.value c.from_residual.ensures.1
    ∙ verdict_by a.n a.count a.normals.now a.bounds.now (given a.s)

pub judge-requires : goal.judge-requires
judge-requires c = in_limits _ (valid _ (nothing_found _ c.in_ok-examine.ensures.value)).counts

pub returns : goal.returns
returns c = c.judge.ensures ∙ sym (verdict_accepted _ _ _ _ _ (nothing_found _ c.in_ok-examine.ensures.value))
