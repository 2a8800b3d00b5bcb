-- `region::any_apart` meets its contract: the set is apart from no halfspace passed.
use native.Mathlib.Omega.{arith}
use mathlib.Core.Path.{◌≡◌, refl, sym, ap, ap₂, ◌∙◌}
use mathlib.Core.Bool.{Bool}
use mathlib.Core.List.{List}
use Prim.Native.Nat.{ℕ, ◌+◌, ◌*◌, ◌≤◌}
use borrow.Author.Count.{below_more}
use lib.ListN.{length}
use lib.IntN.{ℤ}
use Rattle.whole.specs.Fits.{read64}
use Rattle.model.specs.Set.{at}
use Rattle.model.specs.Operations.{low_along}
use Rattle.zonotope.specs.Record.{view}
use Rattle.whole.specs.Tests.{any_found, any_none}
use lib.Signed.{lt_z}
use Rattle.whole.specs.Tab.{tab, length-tab}
use Rattle.model.specs.Operations.{safe}
use Rattle.verdicts.specs.Along.{low_by, view-low}
use Rattle.verdicts.specs.Region.{part-entries, part-tab, row_within}
use Rattle.verdicts.proofs.region.any_apart.Goals as goal
use Rattle.verdicts.proofs.region.any_apart.Goals.{In-loop-k, After-is_apart}

module _ (s : In-loop-k) where
  abbrev k : ℕ
  k = s.loop-k.k

  -- normal k lies in the slice
  within : k * s.args.n + s.args.n ≤ length s.args.normals.now
  within = omega (arith, row_within k s.args.n (length s.args.bounds.now) (omega arith), s.requires.3)

  abbrev normal : List ℤ
  normal = tab s.args.n (λ j. at s.args.normals.now (k * s.args.n + j))

answer : (s : After-is_apart) {b : Bool} → s.is_apart.result ≡ b → (lt_z (at s.args.bounds.now (k (goal.at.After-is_apart s).In-loop-k)) (low_along (normal (goal.at.After-is_apart s).In-loop-k) (view s.args.s.now)) ≡ b)
answer s t =
    let x = s.args.s.now in
    let bound = at s.args.bounds.now (k (goal.at.After-is_apart s).In-loop-k) in
    let radii = s.totals-radii in
    sym (s.is_apart.ensures ∙ ap₂ lt_z (read64 bound s.is_apart-arg-in-loop-k-1.given)
    (ap (λ v. low_by v x radii.result) (part-tab s.args.normals.now (k (goal.at.After-is_apart s).In-loop-k * s.args.n) s.args.n (within (goal.at.After-is_apart s).In-loop-k))
    ∙ sym (view-low x (normal (goal.at.After-is_apart s).In-loop-k) s.requires.0.dimension radii.ensures.0))) ∙ t

pub loop-k-init : goal.loop-k-init
loop-k-init c = (refl, omega arith, λ k l. absurd (omega arith))

pub overflow_mul-k : goal.overflow_mul-k
overflow_mul-k c = omega (arith, within c)

pub overflow_mul-k-in-loop-k : goal.overflow_mul-k-in-loop-k
overflow_mul-k-in-loop-k c = omega (arith, within c)

pub overflow_add-k : goal.overflow_add-k
overflow_add-k c = omega (arith, within c)

pub offset_bounds-normals-k : goal.offset_bounds-normals-k
offset_bounds-normals-k c = omega (arith, within c)

pub slice_bounds-is_apart-count : goal.slice_bounds-is_apart-count
slice_bounds-is_apart-count c = omega (arith, within c)

pub slice_bounds-is_apart-start : goal.slice_bounds-is_apart-start
slice_bounds-is_apart-start c = omega (arith, within c)

pub slice_bounds-is_apart-end : goal.slice_bounds-is_apart-end
slice_bounds-is_apart-end c = omega (arith, within c)

pub is_apart-requires : goal.is_apart-requires
is_apart-requires c =
    let limits = c.requires.0 in
    let e = c.requires.1 in
    rw (part-tab c.args.normals.now (k (goal.at.is_apart-requires c).In-loop-k * c.args.n) c.args.n (within (goal.at.is_apart-requires c).In-loop-k)) (
      part-entries _ _ _ c.requires.2,
      omega (arith, length-tab c.args.n (λ j. at c.args.normals.now (k (goal.at.is_apart-requires c).In-loop-k * c.args.n + j))),
      limits,
      c.totals-radii.ensures.1,
    )

pub returns-then-is_apart : goal.returns-then-is_apart
unfolding safe
returns-then-is_apart c = sym (any_found _ _ _ _ (omega arith) (answer (goal.at.returns-then-is_apart c).After-is_apart c.if-is_apart.true))

pub loop-k-preserved : goal.loop-k-preserved
loop-k-preserved c =
    (refl, omega arith, below_more _ _ c.loop-k.invariant.2 (answer (goal.at.loop-k-preserved c).After-is_apart c.if-is_apart.false))

pub returns : goal.returns
unfolding safe
returns c = sym (any_none _ _ _ (λ j l. c.loop-k.invariant.2 j (omega arith)))
