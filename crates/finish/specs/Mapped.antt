-- Selecting and folding commute with a change of every element and of the core, where the change keeps what the stage asks of an element:
-- its test, its size, and what folding it does.
use Rattle.std.specs.Prelude.{◌≡◌, Bool, leb, length}
use Rattle.std.proofs.Math.Path.{refl, ap}
use Rattle.std.proofs.Common.{◌∙◌}
use mathlib.Core.List.{List, ◌∷◌, map}
use Rattle.std.proofs.Math.Bool.{true, false, cond}
use Prim.Native.Nat.{ℕ, zero, suc, ◌-◌}
use Rattle.std.proofs.lemmas.List.{length-map}
use Rattle.rational.specs.Sum.{All, none, more}
use Rattle.model.specs.Finish.{Core, Taken, those, fold_all, smaller, smallest, fold_smallest, fold_times, fold_until}
use Rattle.model.proofs.Lists.{all_head, all_tail}
use Rattle.finish.specs.Wide.{wide_core, wide_folded}

-- those that pass a test
pub those_mapped : {A B : Type 0} (widen : A → B) (p : A → Bool) (q : B → Bool) {l : List A} → All (λ a. q (widen a) ≡ p a) l
    → those q (map widen l) ≡ map widen (those p l)
unfolding those
those_mapped widen p q none = refl
those_mapped widen p q (more {a = a} {l = l} e t) = rw e (go (p a) (those_mapped widen p q t)) where
  go : (b : Bool) → those q (map widen l) ≡ map widen (those p l)
      → cond b (widen a ∷ those q (map widen l)) (those q (map widen l)) ≡ map widen (cond b (a ∷ those p l) (those p l))
  go true h = ap (widen a ∷◌) h
  go false h = h

-- ---- the smallest, and the others
-- both in one list
abbrev together : {A : Type 0} → Taken A → List A
together t = t.out ∷ t.rest

-- what holds of all holds of the smallest and of the others
smallest-all : {A : Type 0} {P : A → Type 0} (f : A → ℕ) {a : A} {l : List A} → All P (a ∷ l) → All P (together (smallest f a l))
unfolding smallest
smallest-all f (more h none) = more h none
smallest-all {A} {P} f {a} (more h (more {a = b} {l = l} k t)) =
    go (leb (f (smallest f b l).out) (f a)) (smallest f b l) (smallest-all f (more k t)) where
      go : (c : Bool) (s : Taken A) → All P (together s)
          → All P (together (cond c (record { out = s.out; rest = a ∷ s.rest }) (record { out = a; rest = b ∷ l })))
      go true s r = more (all_head r) (more h (all_tail r))
      go false s r = more h (more k t)

-- both changed
abbrev map_taken : {A B : Type 0} → (A → B) → Taken A → Taken B
map_taken widen t = record { out = widen t.out; rest = map widen t.rest }

module _ {A B : Type 0} (widen : A → B) (f : A → ℕ) (g : B → ℕ) where
  smallest_mapped : {a : A} {l : List A} → All (λ a. g (widen a) ≡ f a) (a ∷ l)
      → smallest g (widen a) (map widen l) ≡ map_taken widen (smallest f a l)
  unfolding smallest
  smallest_mapped (more h none) = refl
  smallest_mapped {a} (more h (more {a = b} {l = l} k t)) =
      ap (smaller g (widen a) (map widen (b ∷ l))) (smallest_mapped (more k t))
      ∙ rw (all_head (smallest-all f (more k t)), h) (go (leb (f (smallest f b l).out) (f a)) (smallest f b l))
    where
      go : (c : Bool) (s : Taken A)
          → cond c (record { out = widen s.out; rest = widen a ∷ map widen s.rest })
          (record { out = widen a; rest = widen b ∷ map widen l })
          ≡ map_taken widen (cond c (record { out = s.out; rest = a ∷ s.rest }) (record { out = a; rest = b ∷ l }))
      go true s = refl
      go false s = refl

-- ---- folding
module _ {A B : Type 0} (widen : A → B) (fold : A → Core → Core) (wideFold : B → Core → Core) where
  -- folding the changed element into the wide core gives the wide core
  abbrev pub Commutes : A → Type 0
  Commutes a = (k : Core) → wideFold (widen a) (wide_core k) ≡ wide_core (fold a k)

  pub all_mapped : {l : List A} → All Commutes l → (k : Core) → fold_all wideFold (map widen l) (wide_core k) ≡ wide_core (fold_all fold l k)
  unfolding fold_all
  all_mapped none k = refl
  all_mapped (more {a = a} {l = l} e t) k = ap (fold_all wideFold (map widen l)) (e k) ∙ all_mapped t (fold a k)

  module _ (f : A → ℕ) (g : B → ℕ) where
    times_mapped : (n : ℕ) {l : List A} → All (λ a. g (widen a) ≡ f a) l → All Commutes l → (k : Core)
        → fold_times g wideFold n (wide_core k) (map widen l) ≡ wide_folded widen (fold_times f fold n k l)
    unfolding fold_times fold_smallest
    times_mapped zero sizes folds k = refl
    times_mapped (suc n) none folds k = times_mapped n none none k
    times_mapped (suc n) (more {a = a} {l = l} e t) folds k =
        let s = smallest f a l in
        let sizes = smallest-all f (more e t) in
        let after = smallest-all f folds in
        ap (λ (r : Taken B). fold_times g wideFold n (wideFold r.out (wide_core k)) r.rest) (smallest_mapped widen f g (more e t))
        ∙ ap (λ (c : Core). fold_times g wideFold n c (map widen s.rest)) (all_head after k)
        ∙ times_mapped n (all_tail sizes) (all_tail after) (fold s.out k)

    pub until_mapped : (limit : ℕ) {l : List A} → All (λ a. g (widen a) ≡ f a) l → All Commutes l → (k : Core)
        → fold_until g wideFold limit (wide_core k) (map widen l) ≡ wide_folded widen (fold_until f fold limit k l)
    until_mapped limit {l} sizes folds k =
        ap (λ (n : ℕ). fold_times g wideFold (n - limit) (wide_core k) (map widen l)) (length-map l widen)
        ∙ times_mapped (length l - limit) sizes folds k
