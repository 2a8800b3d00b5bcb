-- `form_row` meets its contract: where a row begins, and that it ends within the form.
use Rattle.std.proofs.Common.{arith, mul-le-mul, ◌+◌, ◌*◌, ◌≤◌}
use Rattle.widths.specs.Gained.{row_ends}
use Rattle.widths.proofs.form_row.Goals as goal
use Rattle.widths.proofs.form_row.Goals.{Start}

placed : (s : Start) → let g = s.args in (g.i * g.n ≤ 36) × ((g.i * g.n + g.j) * g.n ≤ 252)
placed s =
    let b : s.args.i * s.args.n ≤ 36 = mul-le-mul {n₂ = 6} (omega arith) s.requires.2 in
    (b, mul-le-mul {n₂ = 42} (omega arith) s.requires.2)

pub overflow_mul-i : goal.overflow_mul-i
overflow_mul-i c = let b = placed (goal.at.overflow_mul-i c).Start in omega arith

pub overflow_add-i : goal.overflow_add-i
overflow_add-i c = let b = placed (goal.at.overflow_add-i c).Start in omega arith

pub overflow_mul-i-2 : goal.overflow_mul-i-2
overflow_mul-i-2 c = let b = placed (goal.at.overflow_mul-i-2 c).Start in omega arith

pub row_gain-requires : goal.row_gain-requires
row_gain-requires c =
    let g = c.args in (
      c.requires.2,
      omega (arith, c.requires.3, row_ends g.n (g.i * g.n + g.n) (g.i * g.n + g.j) (omega (arith, c.requires.1))),
      c.requires.5.below g.j,
      c.requires.4,
      c.requires.5,
    )
