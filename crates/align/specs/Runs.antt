-- Runs of places written one after the other, rows among them, and tables put together.
use Rattle.std.specs.Prelude.{◌≡◌, List, ◌∷◌, ◌++◌, length, get_or}
use Rattle.std.proofs.Common.{sym, ◌∙◌, ap₂, zero-add, suc-add, add-mul, suc-mul, mul-le-mul_right, arith}
use Rattle.std.proofs.Math.Path.{ap}
use Prim.Native.Nat.{ℕ, zero, suc, ◌+◌, ◌*◌, ◌/◌, ◌%◌, ◌<◌, ◌≤◌}
use Rattle.whole.specs.Tab.{tab, tab_cong}
use Rattle.whole.specs.Write.{write, write-length, write-at, write-before, write-after, write_on}

-- rows of w, one after the other
abbrev pub flat : {A : Type 0} → ℕ → (ℕ → ℕ → A) → ℕ → A
flat w f x = f (x / w) (x % w)

module _ {A : Type 0} where
  -- a table of n + m entries is two tables
  pub tab-++ : (n m : ℕ) (f : ℕ → A) → tab (n + m) f ≡ tab n f ++ tab m (λ i. f (n + i))
  unfolding tab
  tab-++ zero m f = rw (zero-add m) (tab_cong m f (λ i. f (0 + i)) (λ i l. ap f (sym (zero-add i))))
  tab-++ (suc n) m f =
      rw (suc-add n m)
      (ap (f 0 ∷◌) (tab-++ n m (λ i. f (suc i)) ∙ ap (tab n (λ i. f (suc i)) ++◌) (tab_cong m _ _ (λ i l. ap f (sym (suc-add n i))))))

  -- what the first n places of a list that is written from its start hold
  pub first-written : (ws : List A) (f : ℕ → A) (d : A) (n : ℕ) → n ≤ length ws → tab n (λ i. get_or (write ws 0 f n) i d) ≡ tab n f
  first-written ws f d n h =
      tab_cong n (λ i. get_or (write ws 0 f n) i d) f
      (λ i l. ap (λ x. get_or (write ws 0 f n) x d) (sym (zero-add i)) ∙ write-at ws 0 f d n i l (omega arith))

  -- a row of 12 that follows others
  pub flat-at : (f : ℕ → ℕ → A) (t k : ℕ) → k < 12 → flat 12 f (t * 12 + k) ≡ f t k
  flat-at f t k h =
      let p : (t * 12 + k) / 12 ≡ t = omega arith in
      let q : (t * 12 + k) % 12 ≡ k = omega arith in
      ap₂ f p q

  pub rows_on : (ws w next : List A) (f : ℕ → ℕ → A) (to t : ℕ) → w ≡ write ws (to * 12) (flat 12 f) (t * 12)
      → next ≡ write w ((to + t) * 12) (f t) 12 → next ≡ write ws (to * 12) (flat 12 f) ((t + 1) * 12)
  rows_on ws w next f to t p q =
      let e : (to + t) * 12 ≡ to * 12 + t * 12 = omega arith in
      let l : t * 12 + 12 ≡ (t + 1) * 12 = omega arith in
      q
      ∙ ap₂ (λ x y. write x y (f t) 12) p e
      ∙ write_on ws (to * 12) (t * 12) (flat 12 f) (f t) 12 (λ k h. sym (flat-at f t k h))
      ∙ ap (write ws (to * 12) (flat 12 f)) l

-- ---- two runs, the first from the start
abbrev pub twice : {A : Type 0} → List A → (ℕ → A) → ℕ → (ℕ → A) → ℕ → List A
twice ws f n g m = write (write ws 0 f n) n g m

module _ {A : Type 0} (ws : List A) (f g : ℕ → A) (d : A) (n m : ℕ) where
  pub in_first : n + m ≤ length ws → (k : ℕ) → k < n → get_or (twice ws f n g m) k d ≡ f k
  in_first fits k h =
      write-before (write ws 0 f n) n g d m k h
      ∙ ap (λ x. get_or (write ws 0 f n) x d) (sym (zero-add k))
      ∙ write-at ws 0 f d n k h (omega arith)

  pub in_second : n + m ≤ length ws → (k : ℕ) → k < m → get_or (twice ws f n g m) (n + k) d ≡ g k
  in_second fits k h = write-at (write ws 0 f n) n g d m k h (omega (arith, write-length ws 0 f n))

  pub after_both : (k : ℕ) → n + m ≤ k → get_or (twice ws f n g m) k d ≡ get_or ws k d
  after_both k h = write-after (write ws 0 f n) n g d m k h ∙ write-after ws 0 f d n k (omega arith)

-- rows of w: h of them that hold u, and then i more that hold v
module _ {A : Type 0} (w : ℕ) (d : A) (ws : List A) (f g : ℕ → A) (h i : ℕ) (u v : ℕ → ℕ → A) (fits : h * w + i * w ≤ length ws) where
  abbrev rows : List A
  rows = twice ws f (h * w) g (i * w)

  inside : (t j n : ℕ) → t < n → j < w → t * w + j < n * w
  inside t j n l m =
      let k : suc t * w ≤ n * w = mul-le-mul_right w l in
      let e : suc t * w ≡ t * w + w = suc-mul t w in
      omega arith

  pub row_first : ((t j : ℕ) → t < h → j < w → f (t * w + j) ≡ u t j) → (t : ℕ) → t < h
      → tab w (λ j. get_or rows (t * w + j) d) ≡ tab w (u t)
  row_first of t l = tab_cong w _ _ (λ j m. in_first ws f g d (h * w) (i * w) fits (t * w + j) (inside t j h l m) ∙ of t j l m)

  pub row-second : ((t j : ℕ) → t < i → j < w → g (t * w + j) ≡ v t j) → (t : ℕ) → t < i
      → tab w (λ j. get_or rows ((h + t) * w + j) d) ≡ tab w (v t)
  row-second of t l = tab_cong w _ _ (λ j m.
      let e : (h + t) * w + j ≡ h * w + (t * w + j) = rw (add-mul h t w) (omega arith) in
      ap (λ x. get_or rows x d) e ∙ in_second ws f g d (h * w) (i * w) fits (t * w + j) (inside t j i l m) ∙ of t j l m)
