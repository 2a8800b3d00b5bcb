-- `raw::parts::centre_number` meets its contract: half of two sums that fit 62 bits, and a 45-bit number.
use Rattle.std.proofs.Common.{arith, ◌≡◌, ap, ap₂, ◌∙◌, ◌+◌, ◌*◌, ◌≤◌, ℤ, pos, nat_abs, ◌+ℤ◌, ◌*ℤ◌, to_z, of_z, w32, w64, to_z-of_z}
use Rattle.std.proofs.Math.IntN.{+ℤ_comm}
use Rattle.whole.specs.Fits.{fits_abs, got64}
use Rattle.whole.specs.Half.{half}
use Rattle.model.specs.Set.{at}
use Rattle.model.specs.Step.{dot}
use Rattle.forms.specs.Dot.{dot_comm, dot_right}
use Rattle.forms.specs.Tables.{row_of}
use Rattle.forms.specs.Numbers.{product_small}
use Rattle.raw.specs.Parts.{centre_half, centre_number, linear_room, half_room}
use Rattle.raw.specs.PairRows.{half_small}
use Rattle.raw.proofs.parts.centre_number.Goals as goal
use Rattle.raw.proofs.parts.centre_number.Goals.{Start, After-dot_rows-y, After-half-n, After-from}

module _ (s : Start) where
  abbrev X : ℤ
  X = dot 6 (row_of s.args.k.now 0) (row_of s.args.lines.now s.args.i)

  abbrev Y : ℤ
  Y = dot 6 (row_of s.args.a.now s.args.i) (at s.args.k.now)

  abbrev H : ℤ
  H = half (centre_half s.args.a.now s.args.lines.now s.args.k.now s.args.i)

  abbrev C : ℤ
  C = at s.args.c.now s.args.i

  -- A's row and the centre, in the order of the sum
  turned : dot 6 (row_of s.args.k.now 0) (row_of s.args.a.now s.args.i) ≡ Y
  turned =
      dot_comm 6 (row_of s.args.k.now 0) (row_of s.args.a.now s.args.i)
      ∙ dot_right 6 (row_of s.args.a.now s.args.i) (row_of s.args.k.now 0) (at s.args.k.now)
      (λ j _. let e : 0 * 6 + j ≡ j = omega arith in ap (at s.args.k.now) e)

  h_room : nat_abs H ≤ 2595762235225669632
  h_room =
      half_small (centre_half s.args.a.now s.args.lines.now s.args.k.now s.args.i) 2595762235225669632
      (half_room s.args.a.now s.args.lines.now s.args.k.now s.requires.2 s.requires.3 s.requires.4 s.args.i)

x_is : (c : After-dot_rows-y) → to_z w64 (of_z w64 c.dot_rows-x.result) ≡ X (goal.at.After-dot_rows-y c).Start
x_is c = got64 c.dot_rows-x.ensures c.dot_rows-x.type_inv

y_is : (c : After-dot_rows-y) → to_z w64 (of_z w64 c.dot_rows-y.result) ≡ Y (goal.at.After-dot_rows-y c).Start
y_is c = got64 (c.dot_rows-y.ensures ∙ turned (goal.at.After-dot_rows-y c).Start) c.dot_rows-y.type_inv

h-is : (c : After-half-n) → to_z w64 (of_z w64 c.half-n.result) ≡ H (goal.at.After-half-n c).Start
h-is c =
    let y = (goal.at.After-half-n c).After-dot_rows-y in
    got64 (c.half-n.ensures ∙ ap half (got64 (c.multiply_add.ensures
    ∙ ap₂ (λ (u v : ℤ). u +ℤ pos 4096 *ℤ v) (x_is y) (y_is y)) c.multiply_add.type_inv)) c.half-n.type_inv

v-is : (c : After-from) → to_z w64 (of_z w64 c.from.result) ≡ C (goal.at.After-from c).Start
v-is c = got64 (c.from.ensures ∙ to_z-of_z {w = w32} (fits_abs (omega (arith, c.requires.1.small c.args.i)))) c.from.type_inv

pub multiply_add-requires : goal.multiply_add-requires
multiply_add-requires c =
    let y = (goal.at.multiply_add-requires c).After-dot_rows-y in
    let g = c.args in
    rw (x_is y, y_is y)
    (omega (
      arith,
      product_small g.k.now g.lines.now c.requires.4 c.requires.3 0 g.i,
      linear_room g.a.now g.lines.now g.k.now c.requires.2 c.requires.3 c.requires.4 g.i,
    ))

pub multiply_add-requires-2 : goal.multiply_add-requires-2
multiply_add-requires-2 c =
    let s = (goal.at.multiply_add-requires-2 c).Start in
    let p = h_room s in
    rw (h-is (goal.at.multiply_add-requires-2 c).After-half-n, v-is (goal.at.multiply_add-requires-2 c).After-from)
    (omega (arith, c.requires.1.small c.args.i))

pub returns : goal.returns
unfolding centre_number
returns c =
    let s = (goal.at.returns c).Start in
    got64 (c.multiply_add-2.ensures
    ∙ ap₂ (λ (u w : ℤ). u +ℤ pos 16777216 *ℤ w) (h-is (goal.at.returns c).After-half-n) (v-is (goal.at.returns c).After-from)
    ∙ +ℤ_comm (H s) (pos 16777216 *ℤ C s)) c.multiply_add-2.type_inv
