-- `blending::put_halves` meets its contract.
use borrow.Author.Rules.{rules}
use native.Mathlib.Omega.{arith}
use mathlib.Core.Path.{◌≡◌, refl, sym, ap, ◌∙◌}
use Prim.Native.Nat.{◌+◌, ◌*◌}
use native.Mathlib.Nat.{mul-le-mul}
use lib.IntN.{ℤ, ◌*ℤ◌}
use lib.ListN.{length-set}
use Rattle.whole.specs.Fits.{read64, got64}
use Rattle.whole.specs.Sum.{monoid_ℤ}
use Rattle.whole.specs.Write.{write, write_none, write_again}
use mir.Syntax.{w64}
use mir.Val.{of_z, to_z}
use Rattle.model.specs.Set as Set
use Rattle.hulling.specs.Blending.{times_at}
use Rattle.hulling.proofs.blending.put_halves.Goals as goal
use Rattle.hulling.proofs.blending.put_halves.Lts as lts
use Rattle.hulling.proofs.blending.put_halves.Tie as tie
use Rattle.hulling.proofs.blending.put_halves.Reads as reads

-- the two numbers that are multiplied
half_is : (z : lts.Start tie.the-claims reads.Pre reads.Post goal.the-invariant-loop-x goal.the-decreases-loop-x) → to_z w64 (of_z w64 z.args.half) ≡ z.args.half
half_is z = read64 z.args.half (omega (arith, z.requires.6))

v-is : (c : lts.After-v tie.the-claims reads.Pre reads.Post goal.the-invariant-loop-x goal.the-decreases-loop-x) →
    let l = c in
    let v = Set.at l.args.c.now (l.args.from * 6 + l.loop-x.x) in
    to_z w64 (of_z w64 v) ≡ v
v-is c = read64 _ c.v-1.given

pub loop-x-init : goal.loop-x-init
loop-x-init c = (search rules, sym (write_none _ _ _), refl, search rules)

pub multiply_add-y-requires : goal.multiply_add-y-requires
multiply_add-y-requires c =
    let l = c in
    let z = l in
    rw (half_is c.before.before.before, v-is c)
    (omega (
      arith,
      z.requires.6,
      z.requires.5.small (z.args.from * 6 + l.loop-x.x),
      mul-le-mul z.requires.6 (z.requires.5.small (z.args.from * 6 + l.loop-x.x)),
    ))

pub loop-x-preserved : goal.loop-x-preserved
loop-x-preserved c =
    let at = c in
    let l = at.loop-x in (
      omega arith,
      write_again _ _ _ l.w l.x _ l.invariant.1
          (got64
          (c.multiply_add-y.ensures
          ∙ monoid_ℤ.zero-add _
          ∙ ap (to_z w64 (of_z w64 at.args.half) *ℤ◌) (v-is c.before))
          c.multiply_add-y.type_inv),
      simp length-set l.invariant.2,
      l.invariant.3,
    )

pub returns : goal.returns
returns c =
    let at = c in
    let e : at.loop-x.x ≡ at.args.rows * 6 = omega arith in
    let z = at in
    at.loop-x.invariant.1
    ∙ ap (write _ _ _) e
    ∙ ap (λ (h : ℤ). write z.args.w.now (z.args.to * 6) (times_at h z.args.c.now z.args.from) (z.args.rows * 6))
    (half_is c.before.before)
