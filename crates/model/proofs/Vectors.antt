-- Sums of vectors, number by number, where the shorter one counts as continued by zeros: laws for any monoid, and so for ℤ and ℕ. And a
-- function of each number.
use mathlib.Core.Path.{◌≡◌, refl, sym, ◌∙◌, ap, ap₂, subst}
use mathlib.Core.List.{List, [], ◌∷◌, map}
use Prim.Native.Nat.{ℕ, zero, suc, ◌+◌}
use native.Mathlib.Nat.{suc_inj}
use lib.ListN.{length, get_or, get_or-map}
use lib.IntN.{ℤ, pos, ◌+ℤ◌}
use Rattle.whole.specs.Sum.{Monoid, monoid_ℕ, monoid_ℤ}
use Rattle.model.specs.Set.{longer, plus_ℤ, plus_ℕ, at}

module _ {M : Type 0} {z : M} {add : M → M → M} (L : Monoid M z add) where
  pub longer_comm : (xs ys : List M) → longer add xs ys ≡ longer add ys xs
  unfolding longer
  longer_comm [] [] = refl
  longer_comm [] (y ∷ ys) = refl
  longer_comm (x ∷ xs) [] = refl
  longer_comm (x ∷ xs) (y ∷ ys) = ap₂ ◌∷◌ (L.comm x y) (longer_comm xs ys)

  pub longer_assoc : (xs ys zs : List M) → longer add (longer add xs ys) zs ≡ longer add xs (longer add ys zs)
  unfolding longer
  longer_assoc [] ys zs = refl
  longer_assoc (x ∷ xs) [] zs = refl
  longer_assoc (x ∷ xs) (y ∷ ys) [] = refl
  longer_assoc (x ∷ xs) (y ∷ ys) (w ∷ zs) = ap₂ ◌∷◌ (L.assoc x y w) (longer_assoc xs ys zs)

  pub longer-swap : (xs ys zs : List M) → longer add (longer add xs ys) zs ≡ longer add (longer add xs zs) ys
  longer-swap xs ys zs = longer_assoc xs ys zs ∙ ap (longer add xs) (longer_comm ys zs) ∙ sym (longer_assoc xs zs ys)

  pub longer-at : (xs ys : List M) (i : ℕ) → get_or (longer add xs ys) i z ≡ add (get_or xs i z) (get_or ys i z)
  unfolding longer
  longer-at [] ys i = sym (L.zero-add (get_or ys i z))
  longer-at (x ∷ xs) [] i = sym (L.comm (get_or (x ∷ xs) i z) z ∙ L.zero-add (get_or (x ∷ xs) i z))
  longer-at (x ∷ xs) (y ∷ ys) zero = refl
  longer-at (x ∷ xs) (y ∷ ys) (suc i) = longer-at xs ys i

pub longer-length : {M : Type 0} (add : M → M → M) (xs ys : List M) → length xs ≡ length ys → length (longer add xs ys) ≡ length xs
unfolding longer
longer-length add [] ys e = sym e
longer-length add (x ∷ xs) [] e = refl
longer-length add (x ∷ xs) (y ∷ ys) e = ap suc (longer-length add xs ys (suc_inj e))

pub plus_ℤ-at : (u v : List ℤ) (i : ℕ) → at (plus_ℤ u v) i ≡ at u i +ℤ at v i
plus_ℤ-at u v i = longer-at monoid_ℤ u v i

pub plus_ℕ-at : (u v : List ℕ) (i : ℕ) → get_or (plus_ℕ u v) i 0 ≡ get_or u i 0 + get_or v i 0
plus_ℕ-at u v i = longer-at monoid_ℕ u v i

-- ---- a function of each number that leaves 0
pub at_map : (f : ℤ → ℤ) → f (pos 0) ≡ pos 0 → (v : List ℤ) (i : ℕ) → at (map f v) i ≡ f (at v i)
at_map f e v i = subst (λ z. get_or (map f v) i z ≡ f (at v i)) e (get_or-map f v i (pos 0))
