-- `sets::summand` meets its contract.
use mathlib.Core.Path.{sym, ◌∙◌}
use native.Mathlib.Omega.{arith}
use Rattle.model.specs.Body.{given_set}
use Rattle.model.specs.Run.{first_of}
use Rattle.zonotope.specs.Answer.{nothing_found}
use Rattle.answers.specs.Answer.{result-refused, result-next}
use Rattle.fields.specs.Sets.{of_layout}
use Rattle.fields.proofs.SetLaws.{summand_order, other_dimension, same-dimension, set_body}
use Rattle.fields.proofs.sets.summand.Goals as goal

pub returns-in_err-of_layout : goal.returns-in_err-of_layout
returns-in_err-of_layout c =
    let a = c.args in let m = given_set a.body.now in
    result-refused (first_of (of_layout a.body.now)) _ (summand_order a.n a.body.now m) m c.in_err-of_layout.ensures c.from_residual.ensures.1

pub byte_at-requires : goal.byte_at-requires
byte_at-requires c = let h = (set_body c.args.body.now (nothing_found _ c.in_ok-of_layout.ensures)).0 in omega arith

pub returns-then-byte_at-n : goal.returns-then-byte_at-n
returns-then-byte_at-n c =
    let a = c.args in let m = given_set a.body.now in
    result-next (first_of (of_layout a.body.now)) _ (summand_order a.n a.body.now m) m c.in_ok-of_layout.ensures
    (other_dimension a.n a.body.now m (λ e. c.if-byte_at-n.true (c.byte_at.ensures.0 ∙ e)))

pub read-requires : goal.read-requires
read-requires c = (set_body c.args.body.now (nothing_found _ c.in_ok-of_layout.ensures)).1

pub returns : goal.returns
returns c =
    let a = c.args in let m = given_set a.body.now in
    result-next (first_of (of_layout a.body.now)) _ (summand_order a.n a.body.now m) m c.in_ok-of_layout.ensures
    (same-dimension a.n a.body.now m (sym c.byte_at.ensures.0 ∙ c.if-byte_at-n.false) c.read.ensures)
