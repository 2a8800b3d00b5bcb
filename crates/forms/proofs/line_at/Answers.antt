-- `forms::line_at` meets its contract: a number of at most 39 bits, and 4096 times a 16-bit one.
use Rattle.std.proofs.Common.{rules, arith, ◌≡◌, ◌∙◌, ap₂, ℤ, pos, ◌+ℤ◌, ◌*ℤ◌, to_z, of_z, w64, to_z-of_z}
use Rattle.whole.specs.Fits.{fits_abs, got64}
use Rattle.model.specs.Set.{at}
use Rattle.model.specs.Step.{dot}
use Rattle.forms.specs.Tables.{row_of}
use Rattle.forms.specs.Numbers.{both-within, line_small}
use Rattle.forms.proofs.line_at.Goals as goal
use Rattle.forms.proofs.line_at.Goals.{After-dot_rows}

y_is : (c : After-dot_rows) → to_z w64 (of_z w64 c.dot_rows.result) ≡ dot 6 (row_of c.args.k.now 0) (row_of c.args.both.now c.args.x)
y_is c = got64 c.dot_rows.ensures c.dot_rows.type_inv

z_is : (c : After-dot_rows) → to_z w64 (of_z w64 (at c.args.a.now c.args.x)) ≡ at c.args.a.now c.args.x
z_is c = to_z-of_z {w = w64} (fits_abs (omega (arith, c.requires.1.small c.args.x)))

pub dot_rows-requires : goal.dot_rows-requires
dot_rows-requires c = (omega arith, omega arith, search rules, search rules, c.requires.3, both-within c.requires.2)

pub multiply_add-requires : goal.multiply_add-requires
multiply_add-requires c =
    let s = (goal.at.multiply_add-requires c).After-dot_rows in
    rw (y_is s, z_is s)
    (omega (arith, line_small c.args.a.now c.args.both.now c.args.k.now c.requires.1 c.requires.2 c.requires.3 c.args.x))

pub returns : goal.returns
returns c =
    let s = (goal.at.returns c).After-dot_rows in
    got64 (c.multiply_add.ensures ∙ ap₂ (λ (y z : ℤ). y +ℤ pos 4096 *ℤ z) (y_is s) (z_is s)) c.multiply_add.type_inv
