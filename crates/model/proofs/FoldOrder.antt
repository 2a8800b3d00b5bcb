-- Folding in any order comes to the same: vectors, and so terms and generators, fold in either order.
use mathlib.Core.List.{List, [], ◌∷◌, ◌++◌, map}
use mathlib.Core.Bool.{Bool, false}
use mathlib.Core.Path.{◌≡◌, refl, ap, ap₂, ◌∙◌}
use Prim.Native.Nat.{ℕ}
use native.Mathlib.Omega.{arith}
use lib.ListN.{length}
use lib.IntN.{ℤ}
use Rattle.whole.specs.Sum.{monoid_ℕ, monoid_ℤ}
use Rattle.model.specs.Set.{Term}
use Rattle.model.specs.Finish.{Core, shift, growth, fold_vector, fold_term, fold_generator, fold_all}
use Rattle.model.proofs.Vectors.{longer-swap}

-- two vectors fold in either order, and so do terms and generators
pub vector_swap : (b c : Bool) (u v : List ℤ) (k : Core) → fold_vector b u (fold_vector c v k) ≡ fold_vector c v (fold_vector b u k)
unfolding fold_vector
vector_swap b c u v k =
    ap₂ (λ (x : List ℤ) (r : List ℕ). record { centre = x; radii = r })
    (longer-swap monoid_ℤ k.centre (map (shift c) v) (map (shift b) u))
    (longer-swap monoid_ℕ k.radii (map (growth c) v) (map (growth b) u))

pub term-swap : (t u : Term) (k : Core) → fold_term t (fold_term u k) ≡ fold_term u (fold_term t k)
term-swap t u k = vector_swap _ _ t.coefficients u.coefficients k

pub generator_swap : (g h : List ℤ) (k : Core) → fold_generator g (fold_generator h k) ≡ fold_generator h (fold_generator g k)
generator_swap g h k = vector_swap false false g h k

pub folds_cons : {A : Type 0} (fold : A → Core → Core) (a : A) (l : List A) (k : Core) → fold_all fold (a ∷ l) k ≡ fold_all fold l (fold a k)
unfolding fold_all
folds_cons fold a l k = refl

pub folds-nothing : {A : Type 0} (fold : A → Core → Core) (l : List A) (k : Core) → length l ≡ 0 → fold_all fold l k ≡ k
unfolding fold_all
folds-nothing fold [] k h = refl
folds-nothing fold (a ∷ l) k h = absurd (omega arith)

-- folds that commute give the same whichever of a list is folded first
pub any-first : {A : Type 0} (fold : A → Core → Core) → ((a b : A) (k : Core) → fold a (fold b k) ≡ fold b (fold a k)) →
    (x : List A) (a : A) (y : List A) (k : Core) → fold_all fold (x ++ (a ∷ y)) k ≡ fold_all fold (a ∷ (x ++ y)) k
unfolding fold_all
any-first fold swap [] a y k = refl
any-first fold swap (b ∷ x) a y k = any-first fold swap x a y (fold b k) ∙ ap (fold_all fold (x ++ y)) (swap a b k)
