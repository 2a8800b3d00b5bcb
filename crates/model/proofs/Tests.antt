-- Tests by Bool as facts, and back: `||`, `&&`, `any`, `all`, `rises`, and the first cause of a list.
use mathlib.Core.Path.{◌≡◌, refl, sym, ◌∙◌, ap}
use mathlib.Core.List.{List, [], ◌∷◌, ◌++◌}
use mathlib.Core.Bool.{Bool, true, false, not, cond, ◌&&◌, ◌||◌, true≢false}
use mathlib.Core.Option.{none, some, none-ne-some, get_or}
use Prim.Native.Nat.{ℕ, zero, suc, ◌<◌}
use native.Mathlib.Omega.{arith}
use borrow.Author.Tests.{eq-eqb, ne_eqb, eqb-false, lt-ltb}
use lib.Dec.{ltb, eqb}
use Rattle.whole.specs.Tab.{tab, any, all}
use Rattle.rational.specs.Sum as Sum
use Rattle.rational.proofs.Sum as SumLaws
use Rattle.rational.specs.Sum.{All, more}
use Rattle.model.specs.Valid.{rises}
use Rattle.model.specs.Field.{all_zero}
use Rattle.model.specs.Run.{Cause, first_of}
use Rattle.model.proofs.Lists.{Rising, nothing, first}

-- ---- two tests
pub or_false : (a b : Bool) → a || b ≡ false → (a ≡ false) × (b ≡ false)
or_false true b e = absurd (true≢false e)
or_false false b e = (refl, e)

pub false_or : {a b : Bool} → a ≡ false → b ≡ false → a || b ≡ false
false_or p q = rw (p, q)

pub and_true : (a b : Bool) → a && b ≡ true → (a ≡ true) × (b ≡ true)
and_true true b e = (refl, e)
and_true false b e = absurd (true≢false (sym e))

pub true_and : {a b : Bool} → a ≡ true → b ≡ true → a && b ≡ true
true_and p q = rw (p, q)

-- what holds of both choices holds of the choice
pub either : {A : Type 0} (P : A → Type 0) (b : Bool) {x y : A} → P x → P y → P (cond b x y)
either P true h k = h
either P false h k = k

-- ---- tests over a list
module _ {A : Type 0} (p : A → Bool) where
  pub any_false : (l : List A) → any p l ≡ false → All (λ a. p a ≡ false) l
  unfolding any
  any_false [] e = Sum.none
  any_false (a ∷ l) e = let h = or_false (p a) (any p l) e in more h.0 (any_false l h.1)

  pub false-any : {l : List A} → All (λ a. p a ≡ false) l → any p l ≡ false
  unfolding any
  false-any Sum.none = refl
  false-any (more h t) = false_or h (false-any t)

  pub all_true : (l : List A) → all p l ≡ true → All (λ a. p a ≡ true) l
  unfolding all
  all_true [] e = Sum.none
  all_true (a ∷ l) e = let h = and_true (p a) (all p l) e in more h.0 (all_true l h.1)

  pub true-all : {l : List A} → All (λ a. p a ≡ true) l → all p l ≡ true
  unfolding all
  true-all Sum.none = refl
  true-all (more h t) = true_and h (true-all t)

-- radii are all zero where none is above 0
pub zero-radii : (r : List ℕ) → all_zero r ≡ not (any (ltb 0) r)
unfolding any all
zero-radii [] = refl
zero-radii (zero ∷ r) = zero-radii r
zero-radii (suc n ∷ r) =
    ap (◌&& all_zero r) (ne_eqb (suc n) 0 (λ e. omega arith))
    ∙ sym (ap (λ b. not (b || any (ltb 0) r)) (lt-ltb 0 (suc n) (omega arith)))

-- what holds at each place below n holds of the table, and back
module _ {A : Type 0} {P : A → Type 0} where
  pub all-tab : (n : ℕ) (f : ℕ → A) → ((i : ℕ) → i < n → P (f i)) → All P (tab n f)
  unfolding tab
  all-tab zero f h = Sum.none
  all-tab (suc n) f h = more (h 0 (omega arith)) (all-tab n (λ i. f (suc i)) (λ i l. h (suc i) (omega arith)))

  pub tab-all : (n : ℕ) (f : ℕ → A) → All P (tab n f) → (i : ℕ) → i < n → P (f i)
  unfolding tab
  tab-all zero f h i l = absurd (omega arith)
  tab-all (suc n) f (more h t) zero l = h
  tab-all (suc n) f (more h t) (suc i) l = tab-all n (λ i. f (suc i)) t i (omega arith)

-- ---- a list that rises: by neighbours, where the relation is transitive, by all pairs
module _ {A : Type 0} (before : A → A → Bool) {Before : A → A → Type 0} where
  pub rises-true : ((a b : A) → before a b ≡ true → Before a b) → ((a b c : A) → Before a b → Before b c → Before a c)
      → (l : List A) → rises before l ≡ true → Rising Before l
  unfolding rises
  rises-true tells trans [] e = nothing
  rises-true tells trans (a ∷ []) e = first Sum.none nothing
  rises-true tells trans (a ∷ (b ∷ l)) e =
      let h = and_true (before a b) (rises before (b ∷ l)) e in
      onto (tells a b h.0) (rises-true tells trans (b ∷ l) h.1)
    where
      onto : Before a b → Rising Before (b ∷ l) → Rising Before (a ∷ (b ∷ l))
      onto q (first t r) = first (more q (SumLaws.All-imp (λ c s. trans a b c q s) t)) (first t r)

  pub true-rises : {l : List A} → ((a b : A) → Before a b → before a b ≡ true) → Rising Before l → rises before l ≡ true
  unfolding rises
  true-rises tells nothing = refl
  true-rises tells (first Sum.none r) = refl
  true-rises tells (first {a = a} (more {a = b} h t) r) = true_and (tells a b h) (true-rises tells r)

-- ---- the first cause: where there is none, no cause holds
pub no_cause : (cs : List Cause) → first_of cs ≡ none → All (λ c. c.holds ≡ false) cs
unfolding first_of
no_cause [] e = Sum.none
no_cause (c ∷ cs) e = go c.holds refl e (no_cause cs) where
  go : (b : Bool) → c.holds ≡ b → cond b (some c.number) (first_of cs) ≡ none → (first_of cs ≡ none → All (λ c. c.holds ≡ false) cs)
      → All (λ c. c.holds ≡ false) (c ∷ cs)
  go true p q ih = absurd (none-ne-some _ (sym q))
  go false p q ih = more p (ih q)

-- a number that no cause has, none has that holds
pub not_there : (n : ℕ) (cs : List Cause) → any (λ c. eqb c.number n) cs ≡ false
    → any (λ c. eqb c.number n && c.holds) cs ≡ false
not_there n cs e = false-any _ (SumLaws.All-imp (λ c h. rw h) (any_false _ cs e))

-- a number that no cause has that holds isn't the answer
pub not-answered : (n : ℕ) (cs : List Cause) → any (λ c. eqb c.number n && c.holds) cs ≡ false → first_of cs ≡ some n → ⊥
unfolding first_of any
not-answered n [] none-holds e = none-ne-some n e
not-answered n (c ∷ cs) none-holds e =
    let h = or_false (eqb c.number n && c.holds) (any (λ c. eqb c.number n && c.holds) cs) none-holds in
    go c.holds refl h.0 e (not-answered n cs h.1)
  where
    go : (b : Bool) → c.holds ≡ b → eqb c.number n && c.holds ≡ false → cond b (some c.number) (first_of cs) ≡ some n
        → (first_of cs ≡ some n → ⊥) → ⊥
    go true p h e rest = true≢false (sym (true_and (eq-eqb c.number n (ap (λ o. get_or o 0) e)) p) ∙ h)
    go false p h e rest = rest e

-- the causes before the first with the number that is the answer don't hold
pub passed-before : (n : ℕ) (cs ds : List Cause) → any (λ c. eqb c.number n) cs ≡ false → first_of (cs ++ ds) ≡ some n
    → All (λ c. c.holds ≡ false) cs × (first_of ds ≡ some n)
unfolding first_of any
passed-before n [] ds other e = (Sum.none, e)
passed-before n (c ∷ cs) ds other e =
    let h = or_false (eqb c.number n) (any (λ c. eqb c.number n) cs) other in
    go c.holds refl (eqb-false c.number n h.0) e (passed-before n cs ds h.1)
  where
    go : (b : Bool) → c.holds ≡ b → (c.number ≡ n → ⊥) → cond b (some c.number) (first_of (cs ++ ds)) ≡ some n
        → (first_of (cs ++ ds) ≡ some n → All (λ c. c.holds ≡ false) cs × (first_of ds ≡ some n))
        → All (λ c. c.holds ≡ false) (c ∷ cs) × (first_of ds ≡ some n)
    go true p other e rest = absurd (other (ap (λ o. get_or o 0) e))
    go false p other e rest = (more p (rest e).0, (rest e).1)
