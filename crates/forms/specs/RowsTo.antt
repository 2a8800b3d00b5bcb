-- A step to m coordinates has rows and forms for these only: what the tables hold past them is 0, and isn't worked out.
use Rattle.std.specs.Prelude.{Bool, true, false, cond, List, ◌≡◌, refl, ltb, ◌*ℤ◌}
use Rattle.std.proofs.Math.Path.{ap₂}
use Rattle.std.proofs.Common.{◌∙◌, arith}
use Prim.Native.Nat.{ℕ, ◌*◌, ◌+◌, ◌/◌, ◌%◌, ◌<◌, ◌≤◌}
use Rattle.std.proofs.Math.Decide.{dec_lt}
use Rattle.std.proofs.Math.IntN.{ℤ, pos, ◌+ℤ◌}
use Rattle.whole.specs.Tab.{tab, get_d_tab, get_d_tab_past}
use Rattle.model.specs.Set.{at}
use Rattle.model.specs.Step.{Step, dot}
use Rattle.forms.specs.Dot.{Vector, dot_comm, dot-zero}
use Rattle.forms.specs.Tables.{row_of, form_of}
use Rattle.forms.specs.Numbers.{both_table, line_table, column_table}
use Rattle.forms.specs.Wide.{entry, form_entry, wide_linear, wide_quadratic, wide, StepShaped}
use Rattle.forms.specs.Past.{linear_none, quadratic_none}

-- every place from row n on holds 0
pub record RowsTo (n : ℕ) (xs : List ℤ) : Type 0 where
  pub none : (x : ℕ) → n * 6 ≤ x → at xs x ≡ pos 0

tab_none : (n N : ℕ) (f : ℕ → ℤ) → ((x : ℕ) → x < N → n * 6 ≤ x → f x ≡ pos 0) → RowsTo n (tab N f)
tab_none n N f h = record { none = λ x l. go x l (dec_lt x N) }
  where
    go : (x : ℕ) → n * 6 ≤ x → Dec (x < N) → at (tab N f) x ≡ pos 0
    go x l (yes p) = get_d_tab N f (pos 0) x p ∙ h x p l
    go x l (no p) = get_d_tab_past N f (pos 0) x (omega arith)

-- a product with such a row is 0
pub dot_past : (n : ℕ) (v : Vector) (xs : List ℤ) → RowsTo n xs → (t : ℕ) → n ≤ t → dot 6 v (row_of xs t) ≡ pos 0
dot_past n v xs h t l = dot_comm 6 v (row_of xs t) ∙ dot-zero 6 (row_of xs t) v (λ j _. h.none (t * 6 + j) (omega arith))

-- where A and Q have rows and forms for the first m coordinates only, so have their tables
module _ (m : ℕ) where
  pub both_to : (q : List ℤ) → RowsTo (m * 6) q → RowsTo (m * 6) (both_table q)
  unfolding both_table
  both_to q h =
      tab_none (m * 6) 216 (λ x. form_of q (x / 36) (x / 6 % 6) (x % 6) +ℤ form_of q (x / 36) (x % 6) (x / 6 % 6))
      (λ x _ l. ap₂ ◌+ℤ◌ (h.none ((x / 36 * 6 + x / 6 % 6) * 6 + x % 6) (omega arith))
      (h.none ((x / 36 * 6 + x % 6) * 6 + x / 6 % 6) (omega arith)))

  pub lines_to : (a both k : List ℤ) → RowsTo m a → RowsTo (m * 6) both → RowsTo m (line_table a both k)
  unfolding line_table
  lines_to a both k ha hb =
      tab_none m 36 (λ x. dot 6 (row_of k 0) (row_of both x) +ℤ pos 4096 *ℤ at a x)
      (λ x _ l. ap₂ (λ (y z : ℤ). y +ℤ pos 4096 *ℤ z) (dot_past (m * 6) (row_of k 0) both hb x l) (ha.none x l))

  pub column_to : (both v : List ℤ) (t : ℕ) → RowsTo (m * 6) both → RowsTo m (column_table both v t)
  unfolding column_table
  column_to both v t h = tab_none m 36 (λ x. dot 6 (row_of v t) (row_of both x)) (λ x _ l. dot_past (m * 6) (row_of v t) both h x l)

-- the wide step has rows and forms for the step's coordinates only
module _ (p : Step) (shaped : StepShaped p) where
  entry_or : (b : Bool) {x : ℤ} → x ≡ pos 0 → cond b x (pos 0) ≡ pos 0
  entry_or true h = h
  entry_or false h = refl

  pub linear_to : RowsTo p.rows (wide p).linear
  unfolding wide_linear entry
  linear_to =
      tab_none p.rows 36 (λ x. entry p.linear p.columns (x / 6) (x % 6))
      (λ x _ l. entry_or (ltb (x % 6) p.columns) (linear_none p shaped (x / 6) (omega arith) (x % 6)))

  pub quadratic_to : RowsTo (p.rows * 6) (wide p).quadratic
  unfolding wide_quadratic form_entry entry
  quadratic_to =
      tab_none (p.rows * 6) 216 (λ x. form_entry p.quadratic p.columns (x / 36) (x / 6 % 6) (x % 6))
      (λ x _ l. entry_or (ltb (x / 6 % 6) p.columns)
      (entry_or (ltb (x % 6) p.columns) (quadratic_none p shaped (x / 36) (omega arith) (x / 6 % 6) (x % 6))))
