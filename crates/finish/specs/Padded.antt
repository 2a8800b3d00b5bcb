-- A list continued by zeros reads as before, passes the same tests, and has the same size and place in the order; sums of vectors and
-- maps commute with continuing.
use Rattle.std.specs.Prelude.{◌≡◌, Bool, true, false, cond, ◌&&◌, ◌||◌, ltb, length, get_or, ℤ, pos, nat_abs}
use Rattle.std.proofs.Math.Path.{refl, sym, ap}
use Rattle.std.proofs.Common.{◌∙◌, le_of_suc-le-suc, arith}
use mathlib.Core.List.{List, [], ◌∷◌, map}
use Prim.Native.Nat.{ℕ, zero, suc, ◌+◌, ◌*◌, ◌≤◌}
use Rattle.std.proofs.Math.Nat.{suc_inj}
use Rattle.std.proofs.Math.ListN.{get_or-map}
use Rattle.whole.specs.Sum.{Monoid}
use Rattle.whole.specs.Tab.{tab, any, all, tab_cong, map-tab}
use Rattle.model.specs.Set.{longer}
use Rattle.model.specs.Valid.{less, greater, order}
use Rattle.model.specs.Finish.{size, keep_at}
use Rattle.model.proofs.Vectors.{longer-at}
use Rattle.finish.specs.Wide.{padded}

module _ {A : Type 0} (d : A) where
  pub padded-at : (n : ℕ) (l : List A) → length l ≤ n → (i : ℕ) → get_or (padded n d l) i d ≡ get_or l i d
  unfolding tab
  padded-at zero [] h i = refl
  padded-at zero (x ∷ l) h i = absurd (omega arith)
  padded-at (suc n) [] h zero = refl
  padded-at (suc n) [] h (suc i) = padded-at n [] (omega arith) i
  padded-at (suc n) (x ∷ l) h zero = refl
  padded-at (suc n) (x ∷ l) h (suc i) = padded-at n l (le_of_suc-le-suc h) i

  -- what is gathered from the end on, and stays where d comes last, is the same
  padded_gather : {B : Type 0} (f : List A → B) (step : A → B → B) → ((x : A) (l : List A) → f (x ∷ l) ≡ step x (f l))
      → step d (f []) ≡ f [] → (n : ℕ) (l : List A) → length l ≤ n → f (padded n d l) ≡ f l
  unfolding tab
  padded_gather f step steps stays zero [] h = refl
  padded_gather f step steps stays zero (x ∷ l) h = absurd (omega arith)
  padded_gather f step steps stays (suc n) [] h =
      steps d (padded n d []) ∙ ap (step d) (padded_gather f step steps stays n [] (omega arith)) ∙ stays
  padded_gather f step steps stays (suc n) (x ∷ l) h =
      steps x (padded n d l) ∙ ap (step x) (padded_gather f step steps stays n l (le_of_suc-le-suc h)) ∙ sym (steps x l)

  pub padded-all : (p : A → Bool) → p d ≡ true → (n : ℕ) (l : List A) → length l ≤ n → all p (padded n d l) ≡ all p l
  unfolding all
  padded-all p e = padded_gather (all p) (λ x b. p x && b) (λ x l. refl) (rw e)

  pub padded-any : (p : A → Bool) → p d ≡ false → (n : ℕ) (l : List A) → length l ≤ n → any p (padded n d l) ≡ any p l
  unfolding any
  padded-any p e = padded_gather (any p) (λ x b. p x || b) (λ x l. refl) (rw e)

  pub padded-map : {B : Type 0} (f : A → B) (n : ℕ) (l : List A) → map f (padded n d l) ≡ padded n (f d) (map f l)
  padded-map f n l = map-tab f n (λ i. get_or l i d) ∙ tab_cong n _ _ (λ i h. sym (get_or-map f l i d))

-- ---- sums
longer-tab : {M : Type 0} (add : M → M → M) (n : ℕ) (f g : ℕ → M) → longer add (tab n f) (tab n g) ≡ tab n (λ i. add (f i) (g i))
unfolding longer tab
longer-tab add zero f g = refl
longer-tab add (suc n) f g = ap (add (f 0) (g 0) ∷◌) (longer-tab add n (λ i. f (suc i)) (λ i. g (suc i)))

pub padded-longer : {M : Type 0} {z : M} {add : M → M → M} → Monoid M z add → (n : ℕ) (u v : List M)
    → longer add (padded n z u) (padded n z v) ≡ padded n z (longer add u v)
padded-longer L n u v = longer-tab _ n _ _ ∙ tab_cong n _ _ (λ i h. sym (longer-at L u v i))

-- ---- size and order
size_none : (weights : List ℕ) → size weights [] ≡ 0
unfolding size
size_none [] = refl
size_none (w ∷ weights) = refl

pub padded-size : (weights : List ℕ) (n : ℕ) (v : List ℤ) → length v ≤ n → size weights (padded n (pos 0) v) ≡ size weights v
unfolding size tab
padded-size [] n v h = refl
padded-size (w ∷ weights) zero [] h = refl
padded-size (w ∷ weights) zero (g ∷ v) h = absurd (omega arith)
padded-size (w ∷ weights) (suc n) [] h =
    let e = padded-size weights n [] (omega arith) in let z = size_none weights in omega arith
padded-size (w ∷ weights) (suc n) (g ∷ v) h = ap (w * nat_abs g +◌) (padded-size weights n v (le_of_suc-le-suc h))

pub padded-order : (n : ℕ) (xs ys : List ℕ) → length xs ≡ length ys → length xs ≤ n → order (padded n 0 xs) (padded n 0 ys) ≡ order xs ys
unfolding order tab
padded-order zero [] [] e h = refl
padded-order (suc n) [] [] e h = padded-order n [] [] refl (omega arith)
padded-order n [] (y ∷ ys) e h = absurd (omega arith)
padded-order n (x ∷ xs) [] e h = absurd (omega arith)
padded-order zero (x ∷ xs) (y ∷ ys) e h = absurd (omega arith)
padded-order (suc n) (x ∷ xs) (y ∷ ys) e h =
    ap (λ o. cond (ltb x y) less (cond (ltb y x) greater o)) (padded-order n xs ys (suc_inj e) (le_of_suc-le-suc h))

-- ---- leaving places out: those that were added go where all places past the end do
pub padded_keep : (p : ℕ → Bool) (n j : ℕ) (xs : List ℕ) → length xs ≤ n → ((i : ℕ) → length xs ≤ i → p (j + i) ≡ false)
    → keep_at p j (padded n 0 xs) ≡ keep_at p j xs
unfolding keep_at tab
padded_keep p zero j [] h past = refl
padded_keep p zero j (x ∷ xs) h past = absurd (omega arith)
padded_keep p (suc n) j [] h past =
    let here : p j ≡ false = ap p (omega arith) ∙ past 0 (omega arith) in
    rw here (padded_keep p n (j + 1) [] (omega arith) (λ i l. ap p (omega arith) ∙ past (suc i) (omega arith)))
padded_keep p (suc n) j (x ∷ xs) h past =
    ap (λ ys. cond (p j) (x ∷ ys) ys)
    (padded_keep p n (j + 1) xs (le_of_suc-le-suc h) (λ i l. ap p (omega arith) ∙ past (suc i) (omega arith)))
