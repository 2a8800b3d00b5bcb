-- `starts::given` meets its contract.
use Rattle.model.specs.Field.{meaning}
use Rattle.model.specs.Body.{given_set}
use Rattle.model.specs.Run.{first_of}
use Rattle.zonotope.specs.Answer.{nothing_found}
use Rattle.answers.specs.Answer.{result-refused, result-next}
use Rattle.fields.specs.Sets.{of_layout, of_contents}
use Rattle.fields.proofs.SetLaws.{start_order, set_body}
use Rattle.fields.proofs.starts.given.Goals as goal

pub returns-in_err-of_layout : goal.returns-in_err-of_layout
unfolding meaning
returns-in_err-of_layout c =
    let b = c.args.body.now in
    result-refused (first_of (of_layout b)) (first_of (of_contents b)) (start_order b) (given_set b)
    c.in_err-of_layout.ensures c.from_residual.ensures.1

pub read-requires : goal.read-requires
read-requires c = (set_body c.args.body.now (nothing_found _ c.in_ok-of_layout.ensures)).1

pub returns : goal.returns
unfolding meaning
returns c =
    let b = c.args.body.now in
    result-next (first_of (of_layout b)) (first_of (of_contents b)) (start_order b) (given_set b) c.in_ok-of_layout.ensures c.read.ensures
