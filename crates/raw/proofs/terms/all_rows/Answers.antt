-- `raw::terms::all_rows` meets its contract: the own terms' rows, and the pairs' rows after them.
use Rattle.std.proofs.Common.{rules, arith, sym, ◌∙◌, ap, ◌*◌, ◌≤◌, ◌++◌, length, drop, length-append, length-drop}
use Rattle.std.proofs.Math.Seq.{length-take-le}
use Rattle.rows.specs.Rows.{Small}
use Rattle.zonotope.specs.declared.PolyZonotope.{PolyZonotope}
use Rattle.forms.specs.Filling.{copied-first}
use Rattle.raw.specs.Accepted.{InSpan, RowsSized}
use Rattle.raw.specs.Unused.{counts_in}
use Rattle.raw.specs.Limits.{coefficients_small, exponents-low}
use Rattle.raw.specs.Terms.{own_bounded, raw-terms}
use Rattle.raw.proofs.terms.all_rows.Goals as goal
use Rattle.raw.proofs.terms.all_rows.Goals.{Start}

module _ (z : Start) where
  abbrev S : PolyZonotope
  S = z.args.s

  ok : InSpan S
  ok = z.requires.7

  sized : RowsSized S
  sized = record { centre = search rules; exponents = search rules; coefficients = search rules; vectors = search rules }

  coefficients_ok : Small 1048576 S.coefficients
  coefficients_ok = coefficients_small S ok sized

  -- there is room for the own terms
  room : (S.terms ≤ 40) × (S.terms * 12 ≤ length z.args.e.now) × (S.terms * 12 ≤ length S.exponents)
  room =
      let b = counts_in S ok in
      (b.2, omega (arith, b, z.requires.1), omega (arith, b, sized.exponents))

pub linear_numbers-requires : goal.linear_numbers-requires
linear_numbers-requires c =
    let z = (goal.at.linear_numbers-requires c).Start in
    let r = room z in
    (r.0, omega (arith, c.requires.0), omega (arith, (sized z).coefficients), c.requires.3, coefficients_ok z, c.requires.5)

pub overflow_mul-h : goal.overflow_mul-h
overflow_mul-h c = let r = room (goal.at.overflow_mul-h c).Start in omega arith

pub overflow_mul-exponents : goal.overflow_mul-exponents
overflow_mul-exponents c = let r = room (goal.at.overflow_mul-exponents c).Start in omega arith

pub slice_bounds-copy_from_slice-end : goal.slice_bounds-copy_from_slice-end
slice_bounds-copy_from_slice-end c = (room (goal.at.slice_bounds-copy_from_slice-end c).Start).1

pub slice_bounds-copy_from_slice-end-2 : goal.slice_bounds-copy_from_slice-end-2
slice_bounds-copy_from_slice-end-2 c = let r = room (goal.at.slice_bounds-copy_from_slice-end-2 c).Start in sym (length-take-le _ _ r.1)

pub slice_bounds-exponents-end : goal.slice_bounds-exponents-end
slice_bounds-exponents-end c = (room (goal.at.slice_bounds-exponents-end c).Start).2

pub slice_bounds-copy_from_slice-end-3 : goal.slice_bounds-copy_from_slice-end-3
slice_bounds-copy_from_slice-end-3 c = let r = room (goal.at.slice_bounds-copy_from_slice-end-3 c).Start in sym (length-take-le _ _ r.2)

pub copy_from_slice-requires : goal.copy_from_slice-requires
copy_from_slice-requires c =
    let r = room (goal.at.copy_from_slice-requires c).Start in
    length-take-le _ c.args.e.now r.1 ∙ sym (length-take-le _ c.args.s.exponents r.2)

pub pair_rows-requires : goal.pair_rows-requires
pair_rows-requires c =
    let z = (goal.at.pair_rows-requires c).Start in
    let r = room z in
    let l = ap length c.copy_from_slice.ensures.after ∙ length-take-le (c.args.s.terms * 12) c.args.s.exponents r.2 in (
      r.0,
      c.requires.2,
      search rules,
      omega (arith, l, r.1, c.requires.1, length-append c.copy_from_slice.new.self (drop (c.args.s.terms * 12) c.args.e.now), length-drop (c.args.s.terms * 12) c.args.e.now),
      c.pairs-table.ensures,
      c.requires.4,
      coefficients_ok z,
      exponents-low c.args.s c.requires.7 (sized z),
      own_bounded c.args.lines.now c.args.s c.requires.7 c.args.w.now _ c.requires.0 c.linear_numbers.ensures (coefficients_ok z) c.requires.3,
      c.requires.6,
    )

pub returns : goal.returns
returns c =
    let r = room (goal.at.returns c).Start in
    raw-terms c.args.lines.now c.args.both.now c.args.s c.requires.7 c.args.e.now _ _ c.args.w.now _ _ _ c.requires.1 c.requires.0
    (ap (◌++ drop (c.args.s.terms * 12) c.args.e.now) c.copy_from_slice.ensures.after
    ∙ copied-first c.args.e.now c.args.s.exponents (c.args.s.terms * 12) 0 r.1 r.2)
    c.linear_numbers.ensures c.pair_rows.ensures
