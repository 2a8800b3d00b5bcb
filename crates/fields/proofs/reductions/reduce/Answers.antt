-- `reductions::reduce` meets its contract.
use native.Mathlib.Omega.{arith}
use Rattle.model.specs.Field.{meaning}
use Rattle.model.specs.Run.{first_of}
use Rattle.zonotope.specs.Record.{view}
use Rattle.zonotope.specs.Answer.{nothing_found}
use Rattle.answers.specs.Answer.{of_result, result-refused, result-next}
use Rattle.fields.specs.Layout.{laid_out}
use Rattle.fields.specs.Reductions.{limits_layout, LimitsLaid, reduced, reduction_order, limits_read, limits_reduced}
use Rattle.fields.proofs.reductions.reduce.Goals as goal
use Rattle.fields.proofs.reductions.reduce.Goals.{In_ok-of_layout}

pub returns-in_err-of_layout : goal.returns-in_err-of_layout
unfolding meaning
returns-in_err-of_layout c =
    let b = c.args.body.now in
    let m = reduced b (view c.args.s) in
    result-refused (first_of (limits_layout b)) (of_result m) (reduction_order b (view c.args.s)) m
    c.in_err-of_layout.ensures c.from_residual.ensures.1

-- where the layout doesn't refuse the body
body-laid : (i : In_ok-of_layout) → LimitsLaid i.args.body.now
body-laid i = laid_out _ _ _ _ (nothing_found _ i.in_ok-of_layout.ensures)

pub byte_at-terms-requires : goal.byte_at-terms-requires
byte_at-terms-requires c = omega (arith, (body-laid (goal.at.byte_at-terms-requires c).In_ok-of_layout).counts_in)

pub byte_at-generators-requires : goal.byte_at-generators-requires
byte_at-generators-requires c = (body-laid (goal.at.byte_at-generators-requires c).In_ok-of_layout).counts_in

pub reduced-requires : goal.reduced-requires
reduced-requires c =
    let l = limits_read c.args.body.now (body-laid (goal.at.reduced-requires c).In_ok-of_layout) c.byte_at-terms.ensures.0 c.byte_at-generators.ensures.0 in
    (c.requires, l.0, l.1)

pub returns : goal.returns
unfolding meaning
returns c =
    let b = c.args.body.now in
    let s = c.args.s in
    let m = reduced b (view s) in
    result-next (first_of (limits_layout b)) (of_result m) (reduction_order b (view s)) m c.in_ok-of_layout.ensures
    (limits_reduced b c.byte_at-terms.ensures.0 c.byte_at-generators.ensures.0 s c.reduced.ensures)
