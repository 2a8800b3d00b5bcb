-- A step on six coordinates: rows of six, with 0 where the step has no entry.
use Rattle.std.specs.Prelude.{Bool, true, false, cond, List, ◌≡◌, ℕ, ◌+◌, ◌*◌, ◌/◌, ◌%◌, ◌<◌, ◌≤◌, ltb, ℤ, pos, nat_abs, length}
use Rattle.std.proofs.Common.{arith, lt-ltb, le-ltb}
use Rattle.whole.specs.Tab.{tab}
use Rattle.rows.specs.Rows.{Small}
use Rattle.model.specs.Set.{at}
use Rattle.model.specs.Step.{Step}
use Rattle.forms.specs.Tables.{tab_small}

-- entry j of row i of rows of n, 0 past them
unfoldable pub entry : List ℤ → ℕ → ℕ → ℕ → ℤ
entry xs n i j = cond (ltb j n) (at xs (i * n + j)) (pos 0)

-- entry l of row j of form i, in forms of n rows of n
unfoldable pub form_entry : List ℤ → ℕ → ℕ → ℕ → ℕ → ℤ
form_entry q n i j l = cond (ltb j n) (entry q n (i * n + j) l) (pos 0)

-- c in six places
unfoldable pub wide_constant : List ℤ → List ℤ
wide_constant c = tab 6 (at c)

-- A in six rows of six, and Q in six forms of six rows of six, where the step has n columns
unfoldable pub wide_linear : ℕ → List ℤ → List ℤ
wide_linear n a = tab 36 (λ x. entry a n (x / 6) (x % 6))

unfoldable pub wide_quadratic : ℕ → List ℤ → List ℤ
wide_quadratic n q = tab 216 (λ x. form_entry q n (x / 36) (x / 6 % 6) (x % 6))

-- the step from six coordinates to six
abbrev pub wide : Step → Step
wide p = record {
  rows = 6;
  columns = 6;
  constant = wide_constant p.constant;
  linear = wide_linear p.columns p.linear;
  quadratic = wide_quadratic p.columns p.quadratic;
}

-- the counts are in limits, and the lists as long as the counts say
pub record StepShaped (p : Step) : Type 0 where
  pub rows : p.rows ≤ 6
  pub columns : p.columns ≤ 6
  pub constants : length p.constant ≡ p.rows
  pub linears : length p.linear ≡ p.rows * p.columns
  pub quadratics : length p.quadratic ≡ p.rows * p.columns * p.columns

-- ---- entries
module _ (xs : List ℤ) (n i j : ℕ) where
  pub entry_is : j < n → entry xs n i j ≡ at xs (i * n + j)
  unfolding entry
  entry_is h = rw (lt-ltb j n h)

  pub entry_past : n ≤ j → entry xs n i j ≡ pos 0
  unfolding entry
  entry_past h = rw (le-ltb j n h)

module _ (q : List ℤ) (n i j l : ℕ) where
  pub form-entry_is : j < n → form_entry q n i j l ≡ entry q n (i * n + j) l
  unfolding form_entry
  form-entry_is h = rw (lt-ltb j n h)

  pub form-entry_past : n ≤ j → form_entry q n i j l ≡ pos 0
  unfolding form_entry
  form-entry_past h = rw (le-ltb j n h)

entry_small : (K : ℕ) (xs : List ℤ) → Small K xs → (n i j : ℕ) → nat_abs (entry xs n i j) ≤ K
unfolding entry
entry_small K xs h n i j = go (ltb j n)
  where
    go : (b : Bool) → nat_abs (cond b (at xs (i * n + j)) (pos 0)) ≤ K
    go true = h.small (i * n + j)
    go false = omega arith

form-entry_small : (K : ℕ) (q : List ℤ) → Small K q → (n i j l : ℕ) → nat_abs (form_entry q n i j l) ≤ K
unfolding form_entry
form-entry_small K q h n i j l = go (ltb j n)
  where
    go : (b : Bool) → nat_abs (cond b (entry q n (i * n + j) l) (pos 0)) ≤ K
    go true = entry_small K q h n (i * n + j) l
    go false = omega arith

pub constant_small : (K : ℕ) (c : List ℤ) → Small K c → Small K (wide_constant c)
unfolding wide_constant
constant_small K c h = tab_small K 6 (at c) (λ x _. h.small x)

pub linear_small : (K n : ℕ) (a : List ℤ) → Small K a → Small K (wide_linear n a)
unfolding wide_linear
linear_small K n a h = tab_small K 36 (λ x. entry a n (x / 6) (x % 6)) (λ x _. entry_small K a h n (x / 6) (x % 6))

pub quadratic_small : (K n : ℕ) (q : List ℤ) → Small K q → Small K (wide_quadratic n q)
unfolding wide_quadratic
quadratic_small K n q h =
    tab_small K 216 (λ x. form_entry q n (x / 36) (x / 6 % 6) (x % 6)) (λ x _. form-entry_small K q h n (x / 36) (x / 6 % 6) (x % 6))
