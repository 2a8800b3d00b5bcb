-- Folding the smallest one at a time comes to folding at once all that lie below a bar: what is folded, and what comes of it, doesn't
-- depend on the order of folding.
use mathlib.Core.List.{List, [], ◌∷◌}
use mathlib.Core.Bool.{Bool, true, false, cond}
use mathlib.Core.Path.{◌≡◌, refl, sym, ap, ap₂, ◌∙◌}
use Prim.Native.Nat.{ℕ, zero, suc, ◌-◌, ◌≤◌, ◌<◌}
use native.Mathlib.Omega.{arith}
use lib.Dec.{ltb, eqb}
use lib.ListN.{length}
use borrow.Author.Tests.{lt-ltb, le-ltb, ltb-true, ltb-false, le-leb, lt-leb}
use Rattle.model.specs.Finish.{Core, Folded, fold_all, smallest, fold_smallest, fold_times}
use Rattle.model.proofs.FoldOrder.{folds_cons, folds-nothing}

-- ---- all that are larger than T are kept, and of those of size T the first r; the others are folded
-- the least size that is kept, while r of size T are still to be kept
abbrev pub bar : ℕ → ℕ → ℕ
bar T zero = suc T
bar T (suc r) = T

-- how many of size T are still to be kept after one of size x was
abbrev pub left : ℕ → ℕ → ℕ → ℕ
left T r x = cond (eqb x T) (r - 1) r

unfoldable pub keep_above : {A : Type 0} → (A → ℕ) → ℕ → ℕ → List A → List A
keep_above f T r [] = []
keep_above f T r (a ∷ l) = cond (ltb (f a) (bar T r)) (keep_above f T r l) (a ∷ keep_above f T (left T r (f a)) l)

unfoldable pub folded_below : {A : Type 0} → (A → ℕ) → ℕ → ℕ → List A → List A
folded_below f T r [] = []
folded_below f T r (a ∷ l) = cond (ltb (f a) (bar T r)) (a ∷ folded_below f T r l) (folded_below f T (left T r (f a)) l)

abbrev pub at_once : {A : Type 0} → (A → ℕ) → (A → Core → Core) → ℕ → ℕ → Core → List A → Folded A
at_once f fold T r k l = record { core = fold_all fold (folded_below f T r l) k; kept = keep_above f T r l }

-- a fact by which of two numbers is less
pub by_less : (x y : ℕ) {P : Type 0} → (x < y → P) → (y ≤ x → P) → P
by_less x y {P} h g = go (ltb x y) refl where
  go : (b : Bool) → ltb x y ≡ b → P
  go true e = h (ltb-true x y e)
  go false e = g (ltb-false x y e)

pub bar-low : (T r : ℕ) → T ≤ bar T r
bar-low T zero = omega arith
bar-low T (suc r) = omega arith

pub bar-high : (T r : ℕ) → bar T r ≤ suc T
bar-high T zero = omega arith
bar-high T (suc r) = omega arith

pub bar-left : (T r x : ℕ) → bar T r ≤ bar T (left T r x)
bar-left T r x = go (eqb x T) r where
  go : (b : Bool) (r : ℕ) → bar T r ≤ bar T (cond b (r - 1) r)
  go true zero = omega arith
  go true (suc r) = bar-low T (suc r - 1)
  go false r = omega arith

-- of equals the last is the smallest
pub last_of_equals : {A : Type 0} (a b c : A) → smallest (λ x. 1) a (b ∷ (c ∷ [])) ≡ record { out = c; rest = a ∷ (b ∷ []) }
unfolding smallest
last_of_equals a b c = refl

-- the smallest of a ∷ l
module _ {A : Type 0} (f : A → ℕ) where
  smallest-one : (a : A) → smallest f a [] ≡ record { out = a; rest = [] }
  unfolding smallest
  smallest-one a = refl

  module _ (a b : A) (l : List A) where
    smallest-later : f (smallest f b l).out ≤ f a →
        smallest f a (b ∷ l) ≡ record { out = (smallest f b l).out; rest = a ∷ (smallest f b l).rest }
    unfolding smallest
    smallest-later h = rw le-leb

    smallest-first : f a < f (smallest f b l).out → smallest f a (b ∷ l) ≡ record { out = a; rest = b ∷ l }
    unfolding smallest
    smallest-first h = rw lt-leb

module _ {A : Type 0} (f : A → ℕ) (T : ℕ) where
  module _ (r : ℕ) (a : A) (l : List A) where
    pub low_keeps : f a < bar T r → keep_above f T r (a ∷ l) ≡ keep_above f T r l
    unfolding keep_above
    low_keeps h = rw (lt-ltb (f a) (bar T r) h)

    pub low-folds : f a < bar T r → folded_below f T r (a ∷ l) ≡ a ∷ folded_below f T r l
    unfolding folded_below
    low-folds h = rw (lt-ltb (f a) (bar T r) h)

    pub high_keeps : bar T r ≤ f a → keep_above f T r (a ∷ l) ≡ a ∷ keep_above f T (left T r (f a)) l
    unfolding keep_above
    high_keeps h = rw (le-ltb (f a) (bar T r) h)

    pub high-folds : bar T r ≤ f a → folded_below f T r (a ∷ l) ≡ folded_below f T (left T r (f a)) l
    unfolding folded_below
    high-folds h = rw (le-ltb (f a) (bar T r) h)

  pub keeps_none : (r : ℕ) → keep_above f T r [] ≡ []
  unfolding keep_above
  keeps_none r = refl

  pub folds_none : (r : ℕ) → folded_below f T r [] ≡ []
  unfolding folded_below
  folds_none r = refl

  -- where even the smallest is larger than T none is folded
  none_folds : (a : A) (l : List A) (r : ℕ) → T < f (smallest f a l).out → folded_below f T r (a ∷ l) ≡ []
  none_folds a [] r h =
      let s : T < f a = rw (smallest-one f a) at h in
      high-folds r a [] (omega (arith, bar-high T r)) ∙ folds_none (left T r (f a))
  none_folds a (b ∷ l) r h =
      by_less (f a) (f (smallest f b l).out)
      (λ (d : f a < f (smallest f b l).out).
      let s : T < f a = rw (smallest-first f a b l d) at h in
      high-folds r a (b ∷ l) (omega (arith, bar-high T r)) ∙ none_folds b l (left T r (f a)) (omega arith))
      (λ (d : f (smallest f b l).out ≤ f a).
      let s : T < f (smallest f b l).out = rw (smallest-later f a b l d) at h in
      high-folds r a (b ∷ l) (omega (arith, bar-high T r)) ∙ none_folds b l (left T r (f a)) s)

  -- where the smallest is below the bar some are folded
  some_fold : (a : A) (l : List A) (r : ℕ) → f (smallest f a l).out < bar T r → 0 < length (folded_below f T r (a ∷ l))
  some_fold a [] r h =
      let s : f a < bar T r = rw (smallest-one f a) at h in
      rw (low-folds r a [] s) (omega arith)
  some_fold a (b ∷ l) r h =
      by_less (f a) (bar T r)
      (λ (c : f a < bar T r). rw (low-folds r a (b ∷ l) c) (omega arith))
      (λ (c : bar T r ≤ f a).
      by_less (f a) (f (smallest f b l).out)
      (λ (d : f a < f (smallest f b l).out).
      let s : f a < bar T r = rw (smallest-first f a b l d) at h in
      absurd (omega arith))
      (λ (d : f (smallest f b l).out ≤ f a).
      let s : f (smallest f b l).out < bar T r = rw (smallest-later f a b l d) at h in
      rw (high-folds r a (b ∷ l) c) (some_fold b l (left T r (f a)) (omega (arith, bar-left T r (f a))))))

  -- where none is folded all are kept
  keeps_all : (l : List A) (r : ℕ) → length (folded_below f T r l) ≡ 0 → keep_above f T r l ≡ l
  unfolding keep_above
  keeps_all [] r h = refl
  keeps_all (a ∷ l) r h =
      by_less (f a) (bar T r)
      (λ (c : f a < bar T r). absurd (omega (arith, ap length (low-folds r a l c))))
      (λ (c : bar T r ≤ f a). high_keeps r a l c ∙ ap (a ∷◌) (keeps_all l (left T r (f a)) (rw (high-folds r a l c) at h)))

-- ---- one after the other
module _ {A : Type 0} (f : A → ℕ) (fold : A → Core → Core) (swap : (a b : A) (k : Core) → fold a (fold b k) ≡ fold b (fold a k)) (T : ℕ)
  where
    -- m may be folded before the others of l: the rest is kept and folded as before
    record Before (r : ℕ) (l : List A) (m : A) (rest : List A) : Type 0 where
      keeps : keep_above f T r rest ≡ keep_above f T r l
      one_less : length (folded_below f T r l) ≡ suc (length (folded_below f T r rest))
      folds : (k : Core) → fold_all fold (folded_below f T r l) k ≡ fold_all fold (folded_below f T r rest) (fold m k)

    first-before : (a : A) (l : List A) (r : ℕ) → f a < bar T r → Before r (a ∷ l) a l
    first-before a l r c = record {
      keeps = sym (low_keeps f T r a l c);
      one_less = ap length (low-folds f T r a l c);
      folds = λ k. rw (low-folds f T r a l c) (folds_cons fold a (folded_below f T r l) k);
    }

    -- what may be folded before the others of l may be so where an element a stands in front, folded or kept
    low-before : (a m : A) (l rest : List A) (r : ℕ) → f a < bar T r → Before r l m rest → Before r (a ∷ l) m (a ∷ rest)
    low-before a m l rest r c g = record {
      keeps = low_keeps f T r a rest c ∙ g.keeps ∙ sym (low_keeps f T r a l c);
      one_less = rw (low-folds f T r a l c, low-folds f T r a rest c) (ap suc g.one_less);
      folds = λ k.
          rw (low-folds f T r a l c, low-folds f T r a rest c)
          (folds_cons fold a (folded_below f T r l) k ∙ g.folds (fold a k) ∙ ap (fold_all fold (folded_below f T r rest)) (swap m a k)
          ∙ sym (folds_cons fold a (folded_below f T r rest) (fold m k)));
    }

    high-before : (a m : A) (l rest : List A) (r : ℕ) → bar T r ≤ f a → Before (left T r (f a)) l m rest → Before r (a ∷ l) m (a ∷ rest)
    high-before a m l rest r c g = record {
      keeps = high_keeps f T r a rest c ∙ ap (a ∷◌) g.keeps ∙ sym (high_keeps f T r a l c);
      one_less = rw (high-folds f T r a l c, high-folds f T r a rest c) g.one_less;
      folds = λ k. rw (high-folds f T r a l c, high-folds f T r a rest c) (g.folds k);
    }

    -- where some are folded the smallest may be the first
    smallest-before : (a : A) (l : List A) (r : ℕ) → 0 < length (folded_below f T r (a ∷ l)) →
        Before r (a ∷ l) (smallest f a l).out (smallest f a l).rest
    smallest-before a [] r h =
        by_less (f a) (bar T r)
        (λ (c : f a < bar T r). rw (smallest-one f a) (first-before a [] r c))
        (λ (c : bar T r ≤ f a). absurd (omega (arith, ap length (high-folds f T r a [] c ∙ folds_none f T (left T r (f a))))))
    smallest-before a (b ∷ l) r h =
        by_less (f a) (f (smallest f b l).out)
        (λ (d : f a < f (smallest f b l).out).
        rw (smallest-first f a b l d)
        (by_less (f a) (bar T r)
        (λ (c : f a < bar T r). first-before a (b ∷ l) r c)
        (λ (c : bar T r ≤ f a).
        absurd (omega (
          arith,
          ap length (high-folds f T r a (b ∷ l) c
              ∙ none_folds f T b l (left T r (f a)) (omega (arith, bar-low T r))),
        )))))
        (λ (d : f (smallest f b l).out ≤ f a).
        rw (smallest-later f a b l d)
        (by_less (f a) (bar T r)
        (λ (c : f a < bar T r).
        low-before a (smallest f b l).out (b ∷ l) (smallest f b l).rest r c
        (smallest-before b l r (some_fold f T b l r (omega arith))))
        (λ (c : bar T r ≤ f a).
        high-before a (smallest f b l).out (b ∷ l) (smallest f b l).rest r c
        (smallest-before b l (left T r (f a)) (rw (high-folds f T r a (b ∷ l) c) at h)))))

    -- one at a time, as often as there are elements below the bar, is all of them at once
    pub times_at_once : (n r : ℕ) (l : List A) (k : Core) → length (folded_below f T r l) ≡ n → fold_times f fold n k l ≡
        at_once f fold T r k l
    unfolding fold_times fold_smallest
    times_at_once zero r l k h =
        ap₂ (λ (x : Core) (y : List A). record { core = x; kept = y }) (sym (folds-nothing fold (folded_below f T r l) k h))
        (sym (keeps_all f T l r h))
    times_at_once (suc n) r [] k h = absurd (omega (arith, ap length (folds_none f T r)))
    times_at_once (suc n) r (a ∷ l) k h =
        let g = smallest-before a l r (omega arith) in
        let q = g.one_less in
        times_at_once n r (smallest f a l).rest (fold (smallest f a l).out k) (omega arith)
        ∙ ap₂ (λ (x : Core) (y : List A). record { core = x; kept = y }) (sym (g.folds k)) g.keeps
