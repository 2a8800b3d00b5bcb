-- The list f 0, f 1 .. f (n - 1), and tests over lists.
use Rattle.std.specs.Prelude.{◌≡◌, Bool, true, false, ◌&&◌, ◌||◌, length, get_or}
use Rattle.std.proofs.Math.Path.{refl, ap, ap₂}
use Rattle.std.proofs.Common.{sym, ◌∙◌, le_of_suc-le-suc, mod-eq_of_lt, add-one, arith, ext_get_or}
use mathlib.Core.List.{List, [], ◌∷◌, ◌++◌, map}
use Prim.Native.Nat.{ℕ, zero, suc, ◌+◌, ◌*◌, ◌/◌, ◌%◌, ◌<◌, ◌≤◌}
use Rattle.std.proofs.Math.Nat.{mul-add-div_right, div-eq_of_lt, mul-add-mod_self_right}

-- f 0, f 1 .. f (n - 1)
unfoldable pub tab : {A : Type 0} → ℕ → (ℕ → A) → List A
tab zero f = []
tab (suc n) f = f 0 ∷ tab n (λ i. f (suc i))

-- whether some element passes the test
unfoldable pub any : {A : Type 0} → (A → Bool) → List A → Bool
any p [] = false
any p (a ∷ l) = p a || any p l

-- whether every element passes the test
unfoldable pub all : {A : Type 0} → (A → Bool) → List A → Bool
all p [] = true
all p (a ∷ l) = p a && all p l

module _ {A : Type 0} where
  pub length-tab : (n : ℕ) (f : ℕ → A) → length (tab n f) ≡ n
  unfolding tab
  length-tab zero f = refl
  length-tab (suc n) f = ap suc (length-tab n (λ i. f (suc i)))

  pub get_d_tab : (n : ℕ) (f : ℕ → A) (d : A) (i : ℕ) → i < n → get_or (tab n f) i d ≡ f i
  unfolding tab
  get_d_tab zero f d i h = absurd (omega arith)
  get_d_tab (suc n) f d zero h = refl
  get_d_tab (suc n) f d (suc i) h = get_d_tab n (λ i. f (suc i)) d i (le_of_suc-le-suc h)

  pub get_d_tab_past : (n : ℕ) (f : ℕ → A) (d : A) (i : ℕ) → n ≤ i → get_or (tab n f) i d ≡ d
  unfolding tab
  get_d_tab_past zero f d i h = refl
  get_d_tab_past (suc n) f d zero h = absurd (omega arith)
  get_d_tab_past (suc n) f d (suc i) h = get_d_tab_past n (λ i. f (suc i)) d i (le_of_suc-le-suc h)

  pub tab_cong : (n : ℕ) (f g : ℕ → A) → ((i : ℕ) → i < n → f i ≡ g i) → tab n f ≡ tab n g
  unfolding tab
  tab_cong zero f g h = refl
  tab_cong (suc n) f g h = ap₂ ◌∷◌ (h 0 (omega arith)) (tab_cong n (λ i. f (suc i)) (λ i. g (suc i)) (λ i l. h (suc i) (omega arith)))

  -- a table grown at its end
  pub tab_none : (f : ℕ → A) → tab 0 f ≡ []
  unfolding tab
  tab_none f = refl

  pub tab_end : (n : ℕ) (f : ℕ → A) → tab (suc n) f ≡ tab n f ++ (f n ∷ [])
  unfolding tab
  tab_end zero f = refl
  tab_end (suc n) f = ap (f 0 ∷◌) (tab_end n (λ i. f (suc i)))

  pub tab-more : (n : ℕ) (f : ℕ → A) → tab (n + 1) f ≡ tab n f ++ (f n ∷ [])
  tab-more n f = rw add-one (tab_end n f)

  pub map-tab : {B : Type 0} (h : A → B) (n : ℕ) (f : ℕ → A) → map h (tab n f) ≡ tab n (λ i. h (f i))
  unfolding tab
  map-tab h zero f = refl
  map-tab h (suc n) f = ap (h (f 0) ∷◌) (map-tab h n (λ i. f (suc i)))

  -- a list of length n is the table of its elements
  pub tab_get_d : (n : ℕ) (l : List A) (d : A) → length l ≡ n → tab n (λ i. get_or l i d) ≡ l
  tab_get_d n l d e =
      ext_get_or d (tab n (λ i. get_or l i d)) l (length-tab n (λ i. get_or l i d) ∙ sym e)
      (λ i h. get_d_tab n (λ i. get_or l i d) d i (omega (arith, length-tab n (λ i. get_or l i d))))

  -- row t of a table that is written in rows of w
  pub tab-row : (d : A) (w n t : ℕ) (F : ℕ → ℕ → A) → t * w + w ≤ n
      → tab w (λ i. get_or (tab n (λ x. F (x / w) (x % w))) (t * w + i) d) ≡ tab w (F t)
  tab-row d w n t F m =
      tab_cong w _ _ (λ i l. get_d_tab n (λ x. F (x / w) (x % w)) d (t * w + i) (omega arith)
      ∙ ap₂ F (mul-add-div_right {m = w} (omega arith) t i ∙ ap (t +◌) (div-eq_of_lt (omega arith)) ∙ omega arith)
      (mul-add-mod_self_right t w i ∙ mod-eq_of_lt (omega arith)))
