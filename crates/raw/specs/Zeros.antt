-- A list all of whose elements pass a test for zero holds zero at each place.
use Rattle.std.specs.Prelude.{Bool, true, List, [], ◌∷◌, ◌≡◌, refl, ℕ, zero, suc, ◌*◌, ◌<◌, ◌≤◌, T, eqb, ℤ, pos, nat_abs, get_or}
use Rattle.std.proofs.Common.{sym, ap, subst, ◌∙◌, arith, eqb→eq}
use Rattle.std.proofs.Math.Decide.{dec_lt}
use Rattle.std.proofs.Math.Facts.{and_yes}
use Rattle.whole.specs.Size.{abs_zero}
use Rattle.whole.specs.Tab.{tab, all, get_d_tab}
use Rattle.whole.specs.Tests.{all-passed}
use Rattle.model.specs.Set.{at}
use Rattle.model.specs.Valid.{is_zero, zeros, factorless}
use Rattle.forms.specs.RowsTo.{RowsTo}

all_are : {A : Type 0} (d : A) (test : A → Bool) → ((a : A) → T (test a) → a ≡ d) → (l : List A) → T (all test l) → (x : ℕ) → get_or l x d ≡ d
unfolding all
all_are d test sound [] t x = refl
all_are d test sound (a ∷ l) t zero = sound a (and_yes (test a) (all test l) t).0
all_are d test sound (a ∷ l) t (suc x) = all_are d test sound l (and_yes (test a) (all test l) t).1 x

pub zeros-at : (l : List ℤ) → T (zeros l) → (x : ℕ) → at l x ≡ pos 0
zeros-at = all_are (pos 0) is_zero (λ z t. abs_zero (eqb→eq (nat_abs z) 0 t))

pub constant_at : (l : List ℕ) → T (factorless l) → (x : ℕ) → get_or l x 0 ≡ 0
constant_at = all_are 0 (λ k. eqb k 0) (λ k t. eqb→eq k 0 t)

-- a table of zeros, and one that is found to be
pub table_zero : (n : ℕ) (f : ℕ → ℤ) → ((i : ℕ) → i < n → f i ≡ pos 0) → zeros (tab n f) ≡ true
table_zero n f h = all-passed is_zero n f (λ i l. ap is_zero (h i l))

pub table_at : (n : ℕ) (f : ℕ → ℤ) → zeros (tab n f) ≡ true → (i : ℕ) → i < n → f i ≡ pos 0
table_at n f e i l = sym (get_d_tab n f (pos 0) i l) ∙ zeros-at (tab n f) (subst T (sym e) tt) i

-- forms all of whose numbers are 0
pub no_forms : (m : ℕ) (both : List ℤ) → m ≤ 6 → RowsTo (m * 6) both → zeros (tab 216 (at both)) ≡ true → RowsTo 0 both
no_forms m both few l e = record { none = λ x _. go x (dec_lt x 216) }
  where
    go : (x : ℕ) → Dec (x < 216) → at both x ≡ pos 0
    go x (yes p) = table_at 216 (at both) e x p
    go x (no p) = l.none x (omega arith)
