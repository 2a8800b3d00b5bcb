-- `rewriting::turn` meets its contract.
use Rattle.std.proofs.Common.{◌≡◌, ◌-◌, min, length, refl, sym, ap, ◌∙◌, arith}
use lib.Seq.{length-take-le}
use Rattle.rewriting.specs.Given.{held_bytes, still_open}
use Rattle.rewriting.proofs.OneByte.{held_below}
use Rattle.rewriting.proofs.Underway.{gathered_reached, gathered_left, gathered_count, join_turned}
use Rattle.rewriting.proofs.turn.Goals as goal
use Rattle.rewriting.proofs.turn.Goals.{After-min-n}

-- how many bytes can't decide their field
few : (c : After-min-n) → c.min-n.result ≡ min (still_open (held_bytes c.args.h)) (length c.args.rest.now - 1)
few c = let e = c.still_open.ensures ∙ ap still_open c.bytes.ensures in omega arith

pub slice_bounds-gather-end : goal.slice_bounds-gather-end
slice_bounds-gather-end c = sym (length-take-le c.min-n.result c.args.rest.now (omega arith))

pub still_open-requires : goal.still_open-requires
still_open-requires c = rw c.bytes.ensures c.requires.0.waiting

pub gather-requires : goal.gather-requires
gather-requires c =
    let h = c.args.h in
    let rest = c.args.rest.now in
    let z : h.left ≡ 0 = omega (arith, c.if-h-gt0.false) in
    let n = few (goal.at.gather-requires c).After-min-n in
    omega (
      arith,
      gathered_count h rest c.requires.0 z c.requires.1 n refl,
      held_below _ (gathered_reached h rest c.requires.0 z c.requires.1 n refl),
      length-take-le c.min-n.result rest (omega arith),
    )

pub join-g-requires : goal.join-g-requires
join-g-requires c =
    let h = c.args.h in
    let rest = c.args.rest.now in
    let z : h.left ≡ 0 = omega (arith, c.if-h-gt0.false) in
    let n = few (goal.at.join-g-requires c).After-min-n in (
      gathered_reached h rest c.requires.0 z c.requires.1 n c.gather.ensures,
      gathered_left h rest c.requires.0 z c.requires.1 n c.gather.ensures,
      omega (arith, gathered_count h rest c.requires.0 z c.requires.1 n c.gather.ensures, c.requires.1, c.requires.2),
    )

pub returns : goal.returns
returns c =
    let z : c.args.h.left ≡ 0 = omega (arith, c.if-h-gt0.false) in
    join_turned c.args.h c.args.rest.now c.requires.0 z c.requires.1 (few (goal.at.returns c).After-min-n) c.gather.ensures c.join-g.ensures
