-- The raw numbers of a step on six coordinates, from tables: Q + Qᵀ and the line of each coordinate, which are made once, and (Q + Qᵀ)v
-- for each coordinate, which is made for a term v and serves its pairs.
use Rattle.std.specs.Prelude.{List, ◌≡◌, ℕ, ◌+◌, ◌*◌, ◌/◌, ◌%◌, ◌<◌, ◌≤◌, ℤ, nat_abs, ◌+ℤ◌, ◌*ℤ◌, length}
use Rattle.std.proofs.Common.{◌∙◌, ap₂, arith}
use Rattle.std.proofs.Math.Path.{ap}
use Rattle.std.proofs.Math.IntN.{pos, +ℤ_comm}
use Rattle.whole.specs.Half.{half}
use Rattle.whole.specs.Round.{scale}
use Rattle.whole.specs.Size.{abs_add, abs_mul}
use Rattle.whole.specs.Tab.{tab, length-tab, get_d_tab}
use Rattle.rows.specs.Rows.{Small}
use Rattle.model.specs.Set.{Zonotope, at}
use Rattle.model.specs.Step.{Step, dot, bilinear, raw_centre, raw_linear, raw_square, raw_pair, slope}
use Rattle.forms.specs.Dot.{Vector, Form, dot_cong, dot-left, dot_right, dot_comm, dot_small}
use Rattle.forms.specs.Line.{turned, line, turned-dot, line-dot, square_half, centre-half}
use Rattle.forms.specs.Tables.{row_of, form_of, tab_small}

-- a step on six coordinates
abbrev pub six : List ℤ → List ℤ → List ℤ → Step
six c a q = record { rows = 6; columns = 6; constant = c; linear = a; quadratic = q }

-- row 6·i + j: row j of Q + Qᵀ, with form i of Q
unfoldable pub both_table : List ℤ → List ℤ
both_table q = tab 216 (λ x. form_of q (x / 36) (x / 6 % 6) (x % 6) +ℤ form_of q (x / 36) (x % 6) (x / 6 % 6))

-- row i: the line of coordinate i, with the table of Q + Qᵀ
unfoldable pub line_table : List ℤ → List ℤ → List ℤ → List ℤ
line_table a both k = tab 36 (λ x. dot 6 (row_of k 0) (row_of both x) +ℤ pos 4096 *ℤ at a x)

-- row i: (Q + Qᵀ)v for coordinate i and row t of v
unfoldable pub column_table : List ℤ → List ℤ → ℕ → List ℤ
column_table both v t = tab 36 (λ x. dot 6 (row_of v t) (row_of both x))

pub column_long : (both v : List ℤ) (t : ℕ) → length (column_table both v t) ≡ 36
unfolding column_table
column_long both v t = length-tab 36 (λ x. dot 6 (row_of v t) (row_of both x))

-- ---- sizes
-- no entry of Q + Qᵀ is larger
abbrev pub both_limit : ℕ
both_limit = 65536

-- no entry of a line or a column is larger
abbrev pub table_limit : ℕ
table_limit = 412451078144

-- no product of a row of numbers up to 2^20 with a row of a table is larger
abbrev pub raw_limit : ℕ
raw_limit = 2594917810295537664

-- no raw number is larger
abbrev pub round_limit : ℕ
round_limit = 4611686018427387904

pub both_small : (q : List ℤ) → Small 32768 q → Small both_limit (both_table q)
unfolding both_table
both_small q h =
    tab_small both_limit 216 (λ x. form_of q (x / 36) (x / 6 % 6) (x % 6) +ℤ form_of q (x / 36) (x % 6) (x / 6 % 6))
    (λ x _. omega (
      arith,
      abs_add (form_of q (x / 36) (x / 6 % 6) (x % 6)) (form_of q (x / 36) (x % 6) (x / 6 % 6)),
      h.small ((x / 36 * 6 + x / 6 % 6) * 6 + x % 6),
      h.small ((x / 36 * 6 + x % 6) * 6 + x / 6 % 6),
    ))

pub both-within : {b : List ℤ} → Small both_limit b → Small table_limit b
both-within h = record { small = λ x. omega (arith, h.small x) }

both-dot : (both v : List ℤ) → Small both_limit both → Small 1048576 v → (t x : ℕ)
    → nat_abs (dot 6 (row_of v t) (row_of both x)) ≤ 412316860416
both-dot both v hb hv t x =
    dot_small (row_of v t) (row_of both x) 1048576 both_limit (λ j. hv.small (t * 6 + j)) (λ j. hb.small (x * 6 + j)) 6

pub line_small : (a both k : List ℤ) → Small 32768 a → Small both_limit both → Small 1048576 k → (x : ℕ)
    → nat_abs (dot 6 (row_of k 0) (row_of both x)) + 4096 * nat_abs (at a x) ≤ table_limit
line_small a both k ha hb hk x = omega (arith, both-dot both k hb hk 0 x, ha.small x)

pub lines_small : (a both k : List ℤ) → Small 32768 a → Small both_limit both → Small 1048576 k → Small table_limit (line_table a both k)
unfolding line_table
lines_small a both k ha hb hk =
    tab_small table_limit 36 (λ x. dot 6 (row_of k 0) (row_of both x) +ℤ pos 4096 *ℤ at a x)
    (λ x _. omega (
      arith,
      abs_add (dot 6 (row_of k 0) (row_of both x)) (pos 4096 *ℤ at a x),
      abs_mul (pos 4096) (at a x),
      line_small a both k ha hb hk x,
    ))

pub column_small : (both v : List ℤ) → Small both_limit both → Small 1048576 v → (t : ℕ) → Small table_limit (column_table both v t)
unfolding column_table
column_small both v hb hv t =
    tab_small table_limit 36 (λ x. dot 6 (row_of v t) (row_of both x)) (λ x _. omega (arith, both-dot both v hb hv t x))

pub product_small : (u w : List ℤ) → Small 1048576 u → Small table_limit w → (s t : ℕ) → nat_abs (dot 6 (row_of u s) (row_of w t)) ≤ raw_limit
product_small u w hu hw s t =
    dot_small (row_of u s) (row_of w t) 1048576 table_limit (λ j. hu.small (s * 6 + j)) (λ j. hw.small (t * 6 + j)) 6

-- ---- rows of the tables
turned_cong : (q : Form) (u v : Vector) → ((j : ℕ) → j < 6 → u j ≡ v j) → (j : ℕ) → turned 6 q u j ≡ turned 6 q v j
unfolding turned
turned_cong q u v h j = dot_right 6 (λ l. q j l +ℤ q l j) u v h

-- the rows of Q + Qᵀ
both-row : (q : List ℤ) (i j l : ℕ) → i < 6 → j < 6 → l < 6 → row_of (both_table q) (i * 6 + j) l ≡ form_of q i j l +ℤ form_of q i l j
unfolding both_table
both-row q i j l hi hj hl =
    let x = (i * 6 + j) * 6 + l in
    let e : x / 36 ≡ i = omega arith in
    let f : x / 6 % 6 ≡ j = omega arith in
    let o : x % 6 ≡ l = omega arith in
    get_d_tab 216 (λ x. form_of q (x / 36) (x / 6 % 6) (x % 6) +ℤ form_of q (x / 36) (x % 6) (x / 6 % 6)) (pos 0) x (omega arith)
    ∙ ap₂ (λ (y z : ℕ). form_of q y z (x % 6) +ℤ form_of q y (x % 6) z) e f
    ∙ ap (λ (y : ℕ). form_of q i j y +ℤ form_of q i y j) o

both-turned : (q : List ℤ) (v : Vector) (i j : ℕ) → i < 6 → j < 6 → dot 6 v (row_of (both_table q) (i * 6 + j)) ≡ turned 6 (form_of q i) v j
unfolding turned
both-turned q v i j hi hj =
    dot_comm 6 v (row_of (both_table q) (i * 6 + j))
    ∙ dot-left 6 (row_of (both_table q) (i * 6 + j)) (λ l. form_of q i j l +ℤ form_of q i l j) v (λ l h. both-row q i j l hi hj h)

-- z's centre is k, in all six places
module _ (c a q k : List ℤ) (z : Zonotope) (centred : (j : ℕ) → j < 6 → at k j ≡ at z.centre j) (i : ℕ) (hi : i < 6) where
  abbrev P : Step
  P = six c a q

  first-row : (j : ℕ) → j < 6 → row_of k 0 j ≡ at z.centre j
  first-row j h =
      let e : 0 * 6 + j ≡ j = omega arith in
      ap (at k) e ∙ centred j h

  lines-row : (j : ℕ) → j < 6 → row_of (line_table a (both_table q) k) i j ≡ line 6 (row_of a i) (form_of q i) (at z.centre) j
  unfolding line_table line
  lines-row j l =
      get_d_tab 36 (λ x. dot 6 (row_of k 0) (row_of (both_table q) x) +ℤ pos 4096 *ℤ at a x) (pos 0) (i * 6 + j) (omega arith)
      ∙ +ℤ_comm (dot 6 (row_of k 0) (row_of (both_table q) (i * 6 + j))) (pos 4096 *ℤ row_of a i j)
      ∙ ap (λ (x : ℤ). pos 4096 *ℤ row_of a i j +ℤ x)
      (both-turned q (row_of k 0) i j hi l ∙ turned_cong (form_of q i) (row_of k 0) (at z.centre) first-row j)

  -- the slope that S is made of
  pub slope-number : (j : ℕ) → j < 6 → row_of (line_table a (both_table q) k) i j ≡ slope P z i j
  unfolding line turned dot
  slope-number j l = lines-row j l

  -- a term's or generator's number
  pub term-number : (v : List ℤ) (t : ℕ) (g : List ℤ) → ((j : ℕ) → j < 6 → row_of v t j ≡ at g j)
      → dot 6 (row_of v t) (row_of (line_table a (both_table q) k) i) ≡ raw_linear P z g i
  unfolding raw_linear
  term-number v t g h =
      dot_cong 6 (row_of v t) (at g) (row_of (line_table a (both_table q) k) i) (line 6 (row_of a i) (form_of q i) (at z.centre)) h lines-row
      ∙ line-dot 6 (row_of a i) (form_of q i) (at z.centre) (at g)

  -- the centre's
  pub centre-number : pos scale *ℤ at c i +ℤ half (dot 6 (row_of k 0) (row_of (line_table a (both_table q) k) i) +ℤ pos 4096 *ℤ dot 6 (row_of a i)
      (at k)) ≡ raw_centre P z i
  unfolding raw_centre
  centre-number =
      ap (λ (x : ℤ). pos scale *ℤ at c i +ℤ x)
      (ap₂ (λ (x y : ℤ). half (x +ℤ pos 4096 *ℤ y))
      (dot_cong 6 (row_of k 0) (at z.centre) (row_of (line_table a (both_table q) k) i) (line 6 (row_of a i) (form_of q i) (at z.centre)) first-row
      lines-row)
      (dot_right 6 (row_of a i) (at k) (at z.centre) centred)
      ∙ centre-half 6 (row_of a i) (form_of q i) (at z.centre))

-- row s of v is g and row t is h
module _ (c a q v : List ℤ) (z : Zonotope) (i s t : ℕ) (g h : List ℤ) (hi : i < 6)
    (first : (j : ℕ) → j < 6 → row_of v s j ≡ at g j) (second : (j : ℕ) → j < 6 → row_of v t j ≡ at h j) where
  column_row : (j : ℕ) → j < 6 → row_of (column_table (both_table q) v s) i j ≡ turned 6 (form_of q i) (at g) j
  unfolding column_table
  column_row j l =
      get_d_tab 36 (λ x. dot 6 (row_of v s) (row_of (both_table q) x)) (pos 0) (i * 6 + j) (omega arith)
      ∙ both-turned q (row_of v s) i j hi l
      ∙ turned_cong (form_of q i) (row_of v s) (at g) first j

  column_dot : dot 6 (row_of v t) (row_of (column_table (both_table q) v s) i) ≡ dot 6 (at h) (turned 6 (form_of q i) (at g))
  column_dot = dot_cong 6 (row_of v t) (at h) (row_of (column_table (both_table q) v s) i) (turned 6 (form_of q i) (at g)) second column_row

  -- a pair's number
  pub pair-number : dot 6 (row_of v t) (row_of (column_table (both_table q) v s) i) ≡ raw_pair (six c a q) z g h i
  unfolding raw_pair
  pair-number =
      column_dot
      ∙ turned-dot 6 (form_of q i) (at h) (at g)
      ∙ +ℤ_comm (bilinear 6 (form_of q i) (at h) (at g)) (bilinear 6 (form_of q i) (at g) (at h))

-- and a term's with itself
pub square_number : (c a q v : List ℤ) (z : Zonotope) (i t : ℕ) (g : List ℤ) → i < 6 → ((j : ℕ) → j < 6 → row_of v t j ≡ at g j)
    → half (dot 6 (row_of v t) (row_of (column_table (both_table q) v t) i)) ≡ raw_square (six c a q) z g i
unfolding raw_square
square_number c a q v z i t g hi h = ap half (column_dot c a q v z i t t g g hi h h) ∙ square_half 6 (form_of q i) (at g)
