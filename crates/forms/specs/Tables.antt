-- Rows of six numbers and forms of six rows that stand in flat lists.
use Rattle.std.specs.Prelude.{◌≡◌, List, ℕ, ◌+◌, ◌*◌, ◌/◌, ◌%◌, ◌<◌, ◌≤◌, ℤ, pos, nat_abs}
use Rattle.std.proofs.Common.{arith, ap, ap₂, ◌∙◌}
use Rattle.std.proofs.Math.Decide.{dec_lt}
use Rattle.whole.specs.Tab.{tab, get_d_tab, get_d_tab_past}
use Rattle.rows.specs.Rows.{Small}
use Rattle.model.specs.Set.{at}
use Rattle.forms.specs.Dot.{Vector, Form}

-- row t of a list of rows of six
abbrev pub row_of : List ℤ → ℕ → Vector
row_of xs t j = at xs (t * 6 + j)

-- form i of a list of forms of six rows
abbrev pub form_of : List ℤ → ℕ → Form
form_of q i j l = at q ((i * 6 + j) * 6 + l)

-- place l of row x in a list of forms, by form, row and place
pub form-place : {A : Type 0} (f : ℕ → ℕ → ℕ → A) (x l : ℕ) → l < 6
    → f (x / 6) (x % 6) l ≡ f ((x * 6 + l) / 36) ((x * 6 + l) / 6 % 6) ((x * 6 + l) % 6)
form-place f x l h =
    let i : x / 6 ≡ (x * 6 + l) / 36 = omega arith in
    let j : x % 6 ≡ (x * 6 + l) / 6 % 6 = omega arith in
    let k : l ≡ (x * 6 + l) % 6 = omega arith in
    ap₂ (λ (a b : ℕ). f a b l) i j ∙ ap (f ((x * 6 + l) / 36) ((x * 6 + l) / 6 % 6)) k

-- a bound of a function is one of its table
pub tab_small : (K n : ℕ) (f : ℕ → ℤ) → ((x : ℕ) → x < n → nat_abs (f x) ≤ K) → Small K (tab n f)
tab_small K n f h = record { small = λ x. go x (dec_lt x n) }
  where
    go : (x : ℕ) → Dec (x < n) → nat_abs (at (tab n f) x) ≤ K
    go x (yes p) = rw (get_d_tab n f (pos 0) x p) (h x p)
    go x (no p) = rw (get_d_tab_past n f (pos 0) x (omega arith)) (omega arith)
