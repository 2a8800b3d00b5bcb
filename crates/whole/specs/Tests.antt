-- Tests over the places 0 .. n - 1 of a table, and what a loop that stops early knows of one: some place passed, or none did.
use Rattle.std.specs.Prelude.{◌≡◌, Bool, ◌&&◌, eqb, length, get_or}
use Rattle.std.proofs.Math.Path.{refl, ap, ap₂}
use Rattle.std.proofs.Common.{sym, ◌∙◌, true≢false, le_of_suc-le-suc, arith, eq-eqb, ne_eqb}
use mathlib.Core.List.{List, [], ◌∷◌}
use Rattle.std.proofs.Math.Bool.{true, false, not, ◌||◌, or-true}
use Prim.Native.Nat.{ℕ, zero, suc, ◌<◌, ◌≤◌}
use Rattle.whole.specs.Tab.{tab, any, all, tab_get_d}

-- whether some place below n passes the test, and whether each does
abbrev pub some_below : ℕ → (ℕ → Bool) → Bool
some_below n p = any p (tab n (λ k. k))

abbrev pub each_below : ℕ → (ℕ → Bool) → Bool
each_below n p = all p (tab n (λ k. k))

-- ---- two tests, neither of which passes
pub or_left : (a b : Bool) → a || b ≡ false → a ≡ false
or_left true b e = e
or_left false b e = refl

pub or_right : (a b : Bool) → a || b ≡ false → b ≡ false
or_right true b e = absurd (true≢false e)
or_right false b e = e

-- ---- a number against 0
pub above_zero : (n : ℕ) → 0 < n → eqb n 0 ≡ false
above_zero n h = ne_eqb n 0 (λ e. omega arith)

pub not-above-zero : (n : ℕ) → n ≤ 0 → eqb n 0 ≡ true
not-above-zero n h = eq-eqb n 0 (omega arith)

-- ---- some entry of a table
module _ {A : Type 0} (p : A → Bool) where
  pub any_found : (n : ℕ) (f : ℕ → A) (k : ℕ) → k < n → p (f k) ≡ true → any p (tab n f) ≡ true
  unfolding tab any
  any_found zero f k h e = absurd (omega arith)
  any_found (suc n) f zero h e = ap (◌|| any p (tab n (λ i. f (suc i)))) e
  any_found (suc n) f (suc k) h e = ap (p (f 0) ||◌) (any_found n (λ i. f (suc i)) k (le_of_suc-le-suc h) e) ∙ or-true (p (f 0))

  pub any_none : (n : ℕ) (f : ℕ → A) → ((k : ℕ) → k < n → p (f k) ≡ false) → any p (tab n f) ≡ false
  unfolding tab any
  any_none zero f h = refl
  any_none (suc n) f h = ap₂ ◌||◌ (h 0 (omega arith)) (any_none n (λ i. f (suc i)) (λ k l. h (suc k) (omega arith)))

  pub none_at : (n : ℕ) (f : ℕ → A) → any p (tab n f) ≡ false → (k : ℕ) → k < n → p (f k) ≡ false
  unfolding tab any
  none_at zero f e k h = absurd (omega arith)
  none_at (suc n) f e zero h = or_left (p (f 0)) (any p (tab n (λ i. f (suc i)))) e
  none_at (suc n) f e (suc k) h =
      none_at n (λ i. f (suc i)) (or_right (p (f 0)) (any p (tab n (λ i. f (suc i)))) e) k (le_of_suc-le-suc h)

  -- a list is the table of its elements
  pub any_list : (d : A) (l : List A) → any p l ≡ any p (tab (length l) (λ i. get_or l i d))
  any_list d l = ap (any p) (sym (tab_get_d (length l) l d refl))

  -- a test of a table's entries is one of its places
  pub any-places : (n : ℕ) (f : ℕ → A) → any p (tab n f) ≡ some_below n (λ k. p (f k))
  unfolding tab any
  any-places n f = from n (λ k. k)
    where
      from : (n : ℕ) (g : ℕ → ℕ) → any p (tab n (λ k. f (g k))) ≡ any (λ k. p (f k)) (tab n g)
      from zero g = refl
      from (suc n) g = ap (p (f (g 0)) ||◌) (from n (λ k. g (suc k)))

-- some element passes one of two tests
pub any_or : {A : Type 0} (p q : A → Bool) (l : List A) → any (λ a. p a || q a) l ≡ any p l || any q l
unfolding any
any_or p q [] = refl
any_or p q (a ∷ l) = by_case (p a) (q a) (any p l) (any q l) (any_or p q l)
  where
    by_case : (a b c d : Bool) {x : Bool} → x ≡ c || d → a || b || x ≡ (a || c) || (b || d)
    by_case true b c d e = refl
    by_case false true true d e = refl
    by_case false true false d e = refl
    by_case false false c d e = e

pub any_cong : {A : Type 0} (p q : A → Bool) (n : ℕ) (f : ℕ → A) → ((k : ℕ) → k < n → p (f k) ≡ q (f k)) → any p (tab n f) ≡ any q (tab n f)
unfolding tab any
any_cong p q zero f e = refl
any_cong p q (suc n) f e = ap₂ ◌||◌ (e 0 (omega arith)) (any_cong p q n (λ i. f (suc i)) (λ k l. e (suc k) (omega arith)))

-- ---- every entry of a table
module _ {A : Type 0} where
  -- every element passes where none fails
  all_any : (p : A → Bool) (l : List A) → all p l ≡ not (any (λ a. not (p a)) l)
  unfolding any all
  all_any p [] = refl
  all_any p (a ∷ l) = ap (p a &&◌) (all_any p l) ∙ by_case (p a) (any (λ a. not (p a)) l)
    where
      by_case : (a b : Bool) → a && not b ≡ not (not a || b)
      by_case true b = refl
      by_case false b = refl

  pub all_failed : (p : A → Bool) (n : ℕ) (f : ℕ → A) (k : ℕ) → k < n → p (f k) ≡ false → all p (tab n f) ≡ false
  all_failed p n f k h e = all_any p (tab n f) ∙ ap not (any_found (λ a. not (p a)) n f k h (ap not e))

  pub all-passed : (p : A → Bool) (n : ℕ) (f : ℕ → A) → ((k : ℕ) → k < n → p (f k) ≡ true) → all p (tab n f) ≡ true
  all-passed p n f h = all_any p (tab n f) ∙ ap not (any_none (λ a. not (p a)) n f (λ k l. ap not (h k l)))

  pub all_cong : (p q : A → Bool) (n : ℕ) (f : ℕ → A) → ((k : ℕ) → k < n → p (f k) ≡ q (f k)) → all p (tab n f) ≡ all q (tab n f)
  all_cong p q n f e =
      all_any p (tab n f) ∙ ap not (any_cong (λ a. not (p a)) (λ a. not (q a)) n f (λ k l. ap not (e k l))) ∙ sym (all_any q (tab n f))
