-- `finish::span::radius_at` meets its contract: four parts are added.
use native.Mathlib.Omega.{arith}
use mathlib.Core.Path.{refl}
use mathlib.Core.List.{List}
use Rattle.zonotope.specs.declared.WideRadii.{WideRadii}
use Rattle.fold.specs.Folding.{Under}
use Rattle.finish.specs.Held.{PartsUnder}
use Prim.Native.Nat.{ℕ, ◌+◌, ◌*◌, ◌^◌, ◌≤◌}
use Rattle.model.specs.Set.{radius_of, with_folded}
use Rattle.zonotope.specs.Record.{wide_parts_of}
use Rattle.finish.proofs.span.radius_at.Goals as goal

-- the sum is small
small : (parts : WideRadii) (folded : List ℕ) (i : ℕ) → PartsUnder (2 ^ 40) parts → Under (2 ^ 61) folded
    → radius_of (with_folded (wide_parts_of parts) folded) i ≤ 2 ^ 61 + 3 * 2 ^ 40
unfolding radius_of
small parts folded i p f = omega (arith, p.carried.under i, p.rounded.under i, p.given.under i, f.under i)

pub overflow_add-result : goal.overflow_add-result
unfolding radius_of
overflow_add-result c = omega (arith, small c.args.parts c.args.folded c.args.i c.requires.1 c.requires.2)

pub overflow_add-result-2 : goal.overflow_add-result-2
unfolding radius_of
overflow_add-result-2 c = omega (arith, small c.args.parts c.args.folded c.args.i c.requires.1 c.requires.2)

pub overflow_add-result-3 : goal.overflow_add-result-3
unfolding radius_of
overflow_add-result-3 c = omega (arith, small c.args.parts c.args.folded c.args.i c.requires.1 c.requires.2)

pub returns : goal.returns
unfolding radius_of
returns c = (refl, small c.args.parts c.args.folded c.args.i c.requires.1 c.requires.2)
