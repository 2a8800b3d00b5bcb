-- `feeding::take` meets its contract.
use native.Mathlib.Omega.{arith}
use Prim.Native.Nat.{◌≤◌}
use lib.ListN.{length}
use Rattle.model.specs.Run.{first_field}
use Rattle.feeding.specs.Reached.{longest_field}
use Rattle.feeding.proofs.First.{tag-first}
use Rattle.feeding.proofs.Written.{running, sides_few, answer_is, state_is}
use Rattle.feeding.proofs.Written.{place_fits, field-placed, field_done, turn_placed}
use Rattle.feeding.proofs.take.Goals as goal
use Rattle.feeding.proofs.take.Goals.{Start}

-- the field is not longer than the longest
few : (s : Start) → length (first_field s.args.rest.now) ≤ longest_field
few s = omega (arith, s.requires.3, s.requires.4)

pub advance-r-requires : goal.advance-r-requires
advance-r-requires c =
    (running c.args.p c.requires.0, c.requires.6, c.requires.7)

pub answer_line-written-requires : goal.answer_line-written-requires
answer_line-written-requires c =
    (sides_few c.args.p (first_field c.args.rest.now) c.advance-r.ensures.value c.requires.0, c.requires.5)

pub overflow_add-result : goal.overflow_add-result
overflow_add-result c =
    omega (arith, c.requires.3, place_fits c.args.p (first_field c.args.rest.now) c.requires.0 c.requires.2 c.requires.1 (few (goal.at.overflow_add-result c).Start))

pub returns : goal.returns
returns c =
    let p = c.args.p in
    let f = first_field c.args.rest.now in
    let e = c.advance-r.ensures.value in
    let tag = tag-first c.args.rest.now c.tag_of.ensures in
    let d = field_done p f c.requires.3 (answer_is p f e) (state_is p f e) tag c.answer_line-written.ensures in
    (d, turn_placed d (field-placed p f c.requires.0 c.requires.2 c.requires.1 (few (goal.at.returns c).Start)))
