-- `disturbance::with_radii` meets its contract.
use mathlib.Core.Path.{ap, ◌∙◌}
use mathlib.Core.List.{List}
use Prim.Native.Nat.{ℕ}
use Rattle.summing.specs.Disturb.{with_given, with_radii, addable, disturbed_record}
use Rattle.summing.proofs.disturbance.with_radii.Goals as goal

pub add_radii-sums-requires : goal.add_radii-sums-requires
add_radii-sums-requires c = addable _ _ c.requires

pub returns : goal.returns
returns c =
    let s = c in
    ap (λ (g : List ℕ). with_radii s.args.s (with_given s.args.s.radii g)) c.add_radii-sums.ensures
    ∙ disturbed_record s.args.s s.args.radii.now s.requires
