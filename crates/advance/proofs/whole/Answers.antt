-- `whole` meets its contract.
use Prim.Native.Nat.{◌≤◌}
use native.Mathlib.Omega.{arith}
use lib.ListN.{length}
use Rattle.advance.proofs.FieldLaws.{used_as, first_there, first-ready, first_leavable, first-advanced, first_worked}
use Rattle.advance.proofs.whole.Goals as goal
use Rattle.advance.proofs.whole.Goals.{Start}

-- the field is there as a whole
there : (s : Start) → (3 ≤ s.args.bytes) × (s.args.bytes ≤ length s.args.rest.now)
there s = first_there s.args.st s.args.rest.now s.requires.2 s.requires.4

pub slice_bounds-effect-count : goal.slice_bounds-effect-count
slice_bounds-effect-count c = omega (arith, (there (goal.at.slice_bounds-effect-count c).Start).0)

pub slice_bounds-effect-start : goal.slice_bounds-effect-start
slice_bounds-effect-start c = let k = there (goal.at.slice_bounds-effect-start c).Start in omega (arith, k.0, k.1)

pub slice_bounds-effect-end : goal.slice_bounds-effect-end
slice_bounds-effect-end c = (there (goal.at.slice_bounds-effect-end c).Start).1

pub effect-r-requires : goal.effect-r-requires
effect-r-requires c =
    let a = c.args in (first-ready a.st a.rest.now c.requires.2 a.kind c.requires.3 c.requires.0, c.requires.5, c.requires.6)

pub concluded-requires : goal.concluded-requires
concluded-requires c =
    let a = c.args in (
      first_leavable a.st a.rest.now c.requires.2 a.kind c.requires.3 c.requires.0 c.requires.4 c.effect-r.ensures.value,
      (first-ready a.st a.rest.now c.requires.2 a.kind c.requires.3 c.requires.0).few,
    )

pub returns : goal.returns
returns c =
    let a = c.args in
    let r = c.effect-r.ensures in
    let said = first_worked a.st a.rest.now c.requires.2 a.kind c.requires.3 c.requires.0 c.requires.4 r.value a.place c.concluded.ensures in record {
      value = first-advanced a.st a.rest.now c.requires.2 a.kind c.requires.3 c.requires.0 c.requires.4 r.value c.requires.1 a.place
          c.concluded.ensures;
      numbers = used_as said r.numbers;
      exponents = used_as said r.exponents;
    }
