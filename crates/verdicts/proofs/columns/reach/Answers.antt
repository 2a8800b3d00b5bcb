-- `columns::reach` meets its contract: the coordinates passed have their ends.
use Rattle.std.specs.Prelude.{◌≡◌, List, ℕ, ℤ, ◌+◌, ◌≤◌, nat_abs, get_or, set}
use Rattle.std.proofs.Common.{ap₂, ◌∙◌, arith, rules, to_z, of_z, w32, w64}
use mir.Val.{SFits}
use Rattle.whole.specs.Fits.{got64, abs_fits}
use Rattle.model.specs.Set.{at}
use Rattle.verdicts.specs.Six.{six_none, six-again}
use Rattle.verdicts.specs.Ends.{low-fits, low_made, high_made}
use Rattle.verdicts.proofs.columns.reach.Goals as goal
use Rattle.verdicts.proofs.columns.reach.Goals.{After-from-centre}

-- the centre, and the width of a coordinate
module _ (s : After-from-centre) where
  abbrev centre : ℤ
  centre = at s.args.s.now.centre s.loop-i.i

  abbrev width : ℕ
  width = get_or s.args.sizes.now s.loop-i.i 0 + get_or s.args.radii.now s.loop-i.i 0

  centre_is : to_z w64 (of_z w64 s.from-centre.result) ≡ centre
  centre_is = let is : s.from-centre.result ≡ centre = search rules in got64 is s.from-centre.type_inv

  centre_small : nat_abs centre ≤ 2147483648
  centre_small = let fits : SFits w32 centre = search rules in abs_fits {w = w32} {z = centre} fits

  width_small : width ≤ 103079215100
  width_small = let a = s.requires.3 s.loop-i.i in let b = s.requires.4 s.loop-i.i in omega arith

pub loop-i-init : goal.loop-i-init
loop-i-init c = (six_none _, six_none _)

pub overflow_sub-ends : goal.overflow_sub-ends
overflow_sub-ends c =
    let s = (goal.at.overflow_sub-ends c).After-from-centre in
    low-fits (centre s) (at c.args.terms.now.low c.loop-i.i) (width s) (centre_small s) (c.requires.1 c.loop-i.i) (width_small s) s.from-centre.result (centre_is s)

pub loop-i-preserved : goal.loop-i-preserved
loop-i-preserved c =
    let s = (goal.at.loop-i-preserved c).After-from-centre in
    let i = c.loop-i.i in
    let a = c.args in (
      ap₂ (λ (o : List ℤ) (z : ℤ). set o i z) c.loop-i.invariant.0
          (low_made (centre s) (at a.terms.now.low i) (width s) (centre_small s) (c.requires.1 i) (width_small s) s.from-centre.result (centre_is s))
          ∙ six-again _ i (omega (arith, c.requires.0)),
      ap₂ (λ (o : List ℤ) (z : ℤ). set o i z) c.loop-i.invariant.1
          (high_made (centre s) (at a.terms.now.high i) (width s) (centre_small s) (c.requires.2 i) (width_small s) s.from-centre.result (centre_is s))
          ∙ six-again _ i (omega (arith, c.requires.0)),
    )

pub returns : goal.returns
returns c =
    let e : c.loop-i.i ≡ c.args.s.now.dimension = omega arith in
    (rw e at c.loop-i.invariant.0, rw e at c.loop-i.invariant.1)
