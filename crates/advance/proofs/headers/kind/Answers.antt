-- `headers::kind` meets its contract.
use native.Mathlib.Omega.{arith}
use lib.ListN.{length}
use mathlib.Core.Path.{refl, sym, ◌∙◌}
use Rattle.std.proofs.Common.{eqb-true}
use Rattle.std.proofs.lemmas.Bool.{eqb-false}
use Rattle.std.proofs.lemmas.Result.{err_from_is_err_and}
use Rattle.advance.specs.HeaderLaws.{is_cut, is_there, no_tag, with_tag, too_late, wrong_tag, too_short, nothing_wrong}
use Rattle.advance.proofs.headers.kind.Goals as goal

pub returns-then-count-gt-LAST_FIELD : goal.returns-then-count-gt-LAST_FIELD
returns-then-count-gt-LAST_FIELD c = (12, too_late _ _ c.if-count-gt-LAST_FIELD.true, refl)

pub returns-then-is_empty : goal.returns-then-is_empty
returns-then-is_empty c =
    let a = c.args in
    let e = eqb-true (length a.rest.now) 0 (sym c.if-is_empty.ensures) in
    (1, too_short a.count a.rest.now c.if-count-gt-LAST_FIELD.false (no_tag a.count a.rest.now e) (omega (arith, e)), refl)

pub returns-in_err-kind : goal.returns-in_err-kind
returns-in_err-kind c =
    let a = c.args in
    let e = eqb-false (length a.rest.now) 0 (sym c.if-is_empty.ensures) in
    let p = err_from_is_err_and c.from_residual.result c.from_residual.ensures.1 in
    let q = c.in_err-kind.ensures in
    rw p.1 (2, wrong_tag a.count a.rest.now c.if-count-gt-LAST_FIELD.false (with_tag a.count a.rest.now (omega (arith, e)) ∙ q.1), p.2 ∙ q.0)

pub returns-then-whole : goal.returns-then-whole
returns-then-whole c =
    let a = c.args in
    let e = eqb-false (length a.rest.now) 0 (sym c.if-is_empty.ensures) in
    let q = c.in_ok-kind.ensures in (
      q.0,
      nothing_wrong a.count a.rest.now c.if-count-gt-LAST_FIELD.false (with_tag a.count a.rest.now (omega (arith, e)) ∙ q.1)
          (is_there _ c.requires c.if-whole.true),
    )

pub returns : goal.returns
returns c =
    let a = c.args in
    let e = eqb-false (length a.rest.now) 0 (sym c.if-is_empty.ensures) in (
      1,
      too_short a.count a.rest.now c.if-count-gt-LAST_FIELD.false (with_tag a.count a.rest.now (omega (arith, e)) ∙ c.in_ok-kind.ensures.1)
          (is_cut _ c.requires c.if-whole.false),
      refl,
    )
