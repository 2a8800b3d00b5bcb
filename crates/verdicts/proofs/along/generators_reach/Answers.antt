-- `along::generators_reach` meets its contract: the sum so far is that of the generators passed.
use native.Mathlib.Omega.{arith}
use mathlib.Core.Path.{◌≡◌, refl, sym, ap, ap₂, ◌∙◌}
use Prim.Native.Nat.{◌+◌, ◌≤◌}
use lib.IntN.{ℤ, nat_abs}
use Rattle.whole.specs.Fits.{got64}
use Rattle.whole.specs.Sum.{upto_by, upto_suc}
use Rattle.verdicts.specs.Along.{row_dot, row_bound, size_sum}
use Rattle.verdicts.proofs.along.generators_reach.Goals as goal
use Rattle.verdicts.proofs.along.generators_reach.Goals.{After-unsigned_abs-sum}

module _ (s : After-unsigned_abs-sum) where
  abbrev along : ℤ
  along = row_dot s.args.a.now s.args.s.now.vectors s.loop-g.g s.args.s.now.dimension

  size_is : s.unsigned_abs-sum.result ≡ nat_abs along
  size_is = s.unsigned_abs-sum.ensures.value ∙ ap nat_abs (got64 s.dot.ensures.0 s.dot.type_inv)

  small : s.unsigned_abs-sum.result ≤ row_bound
  small = omega (arith, size_is, ap nat_abs s.dot.ensures.0, s.dot.ensures.1)

pub loop-g-init : goal.loop-g-init
unfolding upto_by
loop-g-init c = (omega arith, refl, omega arith)

pub overflow_add-sum : goal.overflow_add-sum
overflow_add-sum c = omega (arith, small c)

pub loop-g-preserved : goal.loop-g-preserved
loop-g-preserved c = (omega arith, ap₂ ◌+◌ c.loop-g.invariant.1 (size_is c) ∙ sym (upto_suc 0 ◌+◌ _ _), omega (arith, small c))

pub returns : goal.returns
returns c =
    let a = c.args in
    let e : c.loop-g.g ≡ a.s.now.generators = omega arith in
    (c.loop-g.invariant.1 ∙ ap (size_sum a.a.now a.s.now.vectors a.s.now.dimension) e, omega arith)
