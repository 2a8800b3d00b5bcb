-- `refusals::of_radii` meets its contract.
use mathlib.Core.Path.{◌≡◌, sym, ◌∙◌}
use mathlib.Core.Bool.{Bool, true, false}
use mathlib.Core.List.{List}
use Prim.Native.Nat.{ℕ}
use borrow.Author.Tests.{eq-eqb, ne_eqb}
use lib.Dec.{ltb}
use lib.ListN.{length}
use Rattle.whole.specs.Tab.{any}
use Rattle.model.specs.Limits.{max_disturbance}
use Rattle.model.specs.Run.{first_of}
use Rattle.model.specs.Field.{bad_dimension, all_zero}
use Rattle.model.specs.Library.{of_radii}
use Rattle.zonotope.specs.Answer.{Accepted, Refused, examined}
use Rattle.sums.proofs.refusals.of_radii.Goals as goal
use Rattle.sums.proofs.refusals.of_radii.Lts as lts
use Rattle.sums.proofs.refusals.of_radii.Tie as tie
use Rattle.sums.proofs.refusals.of_radii.Reads as reads

-- ---- radii that are as many as there are coordinates: the answer of each test, where those before it found nothing
module _ (n : ℕ) (radii : List ℕ) (dimension : ℕ) (counted : bad_dimension n ≡ false) (long : length radii ≡ n)
    (same : n ≡ dimension) where
  one-wide : any (ltb max_disturbance) radii ≡ true → Refused 6 ≡ examined (first_of (of_radii n radii dimension))
  unfolding first_of
  one-wide w = rw (counted, eq-eqb (length radii) n long, eq-eqb n dimension same, w)

  module _ (none-wide : any (ltb max_disturbance) radii ≡ false) where
    all-zero : all_zero radii ≡ true → Refused 14 ≡ examined (first_of (of_radii n radii dimension))
    unfolding first_of
    all-zero z = rw (counted, eq-eqb (length radii) n long, eq-eqb n dimension same, none-wide, z)

    some_radius : all_zero radii ≡ false → Accepted ≡ examined (first_of (of_radii n radii dimension))
    unfolding first_of
    some_radius z = rw (counted, eq-eqb (length radii) n long, eq-eqb n dimension same, none-wide, z)

-- ---- the tests in code
-- what that of the count says, where its answer is b
dimensions : (s : lts.After-bad_dimension tie.the-claims reads.Pre reads.Post) {b : Bool} → s.bad_dimension.result ≡ b → bad_dimension s.args.n ≡ b
dimensions s t = sym s.bad_dimension.ensures ∙ t

pub returns-then-bad_dimension : goal.returns-then-bad_dimension
unfolding first_of
returns-then-bad_dimension c = rw (dimensions c.before.before c.if-bad_dimension.true)

pub returns-then-radii-n : goal.returns-then-radii-n
unfolding first_of
returns-then-radii-n c = rw (dimensions c.before.before.before c.if-bad_dimension.false, ne_eqb _ _ c.if-radii-n.true)

pub returns-then-n-dimension : goal.returns-then-n-dimension
unfolding first_of
returns-then-n-dimension c =
    let l = c in
    rw (dimensions c.before.before.before.before l.if-bad_dimension.false, eq-eqb _ _ l.if-radii-n.false, ne_eqb _ _ c.if-n-dimension.true)

pub returns-then-any_above : goal.returns-then-any_above
returns-then-any_above c =
    let d = c in
    let l = d in
    let k = l in
    let a = k.args in
    one-wide a.n a.radii.now a.dimension (dimensions c.before.before.before.before.before.before l.if-bad_dimension.false) l.if-radii-n.false d.if-n-dimension.false
    (sym c.any_above.ensures ∙ c.if-any_above.true)

pub returns-then-radii_empty : goal.returns-then-radii_empty
returns-then-radii_empty c =
    let r = c in
    let d = r in
    let l = d in
    let k = l in
    let a = k.args in
    all-zero a.n a.radii.now a.dimension (dimensions c.before.before.before.before.before.before.before.before l.if-bad_dimension.false) l.if-radii-n.false d.if-n-dimension.false
    (sym r.any_above.ensures ∙ r.if-any_above.false) (sym c.radii_empty.ensures ∙ c.if-radii_empty.true)

pub returns : goal.returns
returns c =
    let r = c in
    let d = r in
    let l = d in
    let k = l in
    let a = k.args in
    some_radius a.n a.radii.now a.dimension (dimensions c.before.before.before.before.before.before.before.before l.if-bad_dimension.false) l.if-radii-n.false d.if-n-dimension.false
    (sym r.any_above.ensures ∙ r.if-any_above.false) (sym c.radii_empty.ensures ∙ c.if-radii_empty.false)
