-- Laws of dot products and bilinear forms over whole numbers.
use Rattle.std.specs.Prelude.{◌≡◌, refl, ℤ, pos, ◌+ℤ◌, ◌*ℤ◌}
use Rattle.std.proofs.Common.{sym, ◌∙◌, mul-le-mul, suc-mul, add-one}
use Rattle.std.proofs.Math.Path.{ap, ap₂}
use Prim.Native.Nat.{ℕ, zero, suc, ◌+◌, ◌*◌, ◌-◌, ◌<◌, ◌≤◌}
use native.Mathlib.Omega.{arith}
use Rattle.std.proofs.Math.IntN.{nat_abs, *ℤ_comm, zero-*ℤ}
use Rattle.whole.specs.AsNaturals.{as_ℕ}
use Rattle.whole.specs.Ring.{*ℤ-assoc, *ℤ-+ℤ}
use Rattle.whole.specs.Size.{abs_mul}
use Rattle.whole.specs.Sum.{Monoid, monoid_ℤ, upto_by, upto_add, upto_swap, upto_suc, upto_cong, upto_abs, upto_bound, upto_scale}
use Rattle.model.specs.Step.{dot, bilinear}

-- a vector
abbrev pub Vector : Type 0
Vector = ℕ → ℤ

-- the numbers of a form
abbrev pub Form : Type 0
Form = ℕ → Vector

-- ---- a sum of which only the first n places count
module _ {M : Type 0} {z : M} {add : M → M → M} (L : Monoid M z add) where
  pub upto_first : (f g : ℕ → M) (n k : ℕ) → ((j : ℕ) → j < n → f j ≡ g j) → ((j : ℕ) → j < k + n → n ≤ j → f j ≡ z) →
      upto_by z add f (k + n) ≡ upto_by z add g n
  unfolding upto_by
  upto_first f g n zero same none =
      let e : 0 + n ≡ n = omega arith in
      ap (upto_by z add f) e ∙ upto_cong z add f g n same
  upto_first f g n (suc k) same none =
      let e : suc k + n ≡ suc (k + n) = omega arith in
      ap (upto_by z add f) e
      ∙ ap₂ add (upto_first f g n k same (λ j l. none j (omega arith))) (none (k + n) (omega arith) (omega arith))
      ∙ L.comm (upto_by z add g n) z
      ∙ L.zero-add (upto_by z add g n)

  pub upto_short : (f g : ℕ → M) (n N : ℕ) → n ≤ N → ((j : ℕ) → j < n → f j ≡ g j) → ((j : ℕ) → j < N → n ≤ j → f j ≡ z) →
      upto_by z add f N ≡ upto_by z add g n
  upto_short f g n N l same none =
      let e : N ≡ (N - n) + n = omega arith in
      ap (upto_by z add f) e ∙ upto_first f g n (N - n) same (λ j h. none j (omega arith))

  pub upto_zero : (f : ℕ → M) (n : ℕ) → ((j : ℕ) → j < n → f j ≡ z) → upto_by z add f n ≡ z
  unfolding upto_by
  upto_zero f n h = upto_short f f 0 n (omega arith) (λ j l. absurd (omega arith)) (λ j l _. h j l)

-- ---- dot products
pub dot_none : (p u : Vector) → dot 0 p u ≡ pos 0
unfolding dot upto_by
dot_none p u = refl

pub dot-step : (p u : Vector) (n : ℕ) → dot (n + 1) p u ≡ dot n p u +ℤ p n *ℤ u n
unfolding dot
dot-step p u n = upto_suc (pos 0) ◌+ℤ◌ (λ j. p j *ℤ u j) n

pub dot_cong : (n : ℕ) (p q u v : Vector) → ((j : ℕ) → j < n → p j ≡ q j) → ((j : ℕ) → j < n → u j ≡ v j) → dot n p u ≡ dot n q v
unfolding dot
dot_cong n p q u v f g = upto_cong (pos 0) ◌+ℤ◌ (λ j. p j *ℤ u j) (λ j. q j *ℤ v j) n (λ j l. ap₂ ◌*ℤ◌ (f j l) (g j l))

pub dot-left : (n : ℕ) (p q u : Vector) → ((j : ℕ) → j < n → p j ≡ q j) → dot n p u ≡ dot n q u
dot-left n p q u f = dot_cong n p q u u f (λ j _. refl)

pub dot_right : (n : ℕ) (p u v : Vector) → ((j : ℕ) → j < n → u j ≡ v j) → dot n p u ≡ dot n p v
dot_right n p u v g = dot_cong n p p u v (λ j _. refl) g

pub dot-zero : (n : ℕ) (p u : Vector) → ((j : ℕ) → j < n → p j ≡ pos 0) → dot n p u ≡ pos 0
unfolding dot
dot-zero n p u h = upto_zero monoid_ℤ (λ j. p j *ℤ u j) n (λ j l. ap (λ (z : ℤ). z *ℤ u j) (h j l) ∙ zero-*ℤ (u j))

-- only the first n of N places of p count
pub dot-short : (p q u : Vector) (n N : ℕ) → n ≤ N → ((j : ℕ) → j < n → p j ≡ q j) → ((j : ℕ) → j < N → n ≤ j → p j ≡ pos 0) → dot N p u ≡
    dot n q u
unfolding dot
dot-short p q u n N l same none =
    upto_short monoid_ℤ (λ j. p j *ℤ u j) (λ j. q j *ℤ u j) n N l (λ j h. ap (λ (z : ℤ). z *ℤ u j) (same j h))
    (λ j h m. ap (λ (z : ℤ). z *ℤ u j) (none j h m) ∙ zero-*ℤ (u j))

pub dot_comm : (n : ℕ) (p u : Vector) → dot n p u ≡ dot n u p
unfolding dot
dot_comm n p u = upto_cong (pos 0) ◌+ℤ◌ (λ j. p j *ℤ u j) (λ j. u j *ℤ p j) n (λ j l. *ℤ_comm (p j) (u j))

pub dot-add : (n : ℕ) (p u v : Vector) → dot n p (λ j. u j +ℤ v j) ≡ dot n p u +ℤ dot n p v
unfolding dot
dot-add n p u v =
    upto_cong (pos 0) ◌+ℤ◌ (λ j. p j *ℤ (u j +ℤ v j)) (λ j. p j *ℤ u j +ℤ p j *ℤ v j) n (λ j l. *ℤ-+ℤ (p j) (u j) (v j))
    ∙ upto_add monoid_ℤ (λ j. p j *ℤ u j) (λ j. p j *ℤ v j) n

pub add-dot : (n : ℕ) (p q u : Vector) → dot n (λ j. p j +ℤ q j) u ≡ dot n p u +ℤ dot n q u
add-dot n p q u = dot_comm n (λ j. p j +ℤ q j) u ∙ dot-add n u p q ∙ ap₂ ◌+ℤ◌ (dot_comm n u p) (dot_comm n u q)

pub scale-dot : (n : ℕ) (c : ℤ) (p u : Vector) → dot n (λ j. c *ℤ p j) u ≡ c *ℤ dot n p u
unfolding dot
scale-dot n c p u =
    upto_cong (pos 0) ◌+ℤ◌ (λ j. (c *ℤ p j) *ℤ u j) (λ j. c *ℤ (p j *ℤ u j)) n (λ j l. *ℤ-assoc c (p j) (u j))
    ∙ upto_scale c (λ j. p j *ℤ u j) n

-- ---- bilinear forms
-- Q(u, v) is the transposed form at v and u
pub bilinear-swap : (n : ℕ) (q : Form) (u v : Vector) → bilinear n q u v ≡ bilinear n (λ l j. q j l) v u
unfolding bilinear dot
bilinear-swap n q u v =
    upto_cong (pos 0) ◌+ℤ◌ _ _ n (λ j _. sym (upto_scale (u j) (λ l. q j l *ℤ v l) n))
    ∙ upto_swap monoid_ℤ (λ j l. u j *ℤ (q j l *ℤ v l)) n n
    ∙ upto_cong (pos 0) ◌+ℤ◌ _ _ n (λ l _. upto_cong (pos 0) ◌+ℤ◌ _ _ n (λ j _. turn (u j) (q j l) (v l))
    ∙ upto_scale (v l) (λ j. q j l *ℤ u j) n)
  where
    turn : (a b c : ℤ) → a *ℤ (b *ℤ c) ≡ c *ℤ (b *ℤ a)
    turn a b c = simp as_ℕ (omega arith)

-- ---- sizes
module _ (p u : Vector) (A B : ℕ) (f : (j : ℕ) → nat_abs (p j) ≤ A) (g : (j : ℕ) → nat_abs (u j) ≤ B) where
  pub dot_small : (n : ℕ) → nat_abs (dot n p u) ≤ n * (A * B)
  unfolding dot
  dot_small n =
      let s = upto_abs (λ j. p j *ℤ u j) n in
      let b = upto_bound (λ j. nat_abs (p j *ℤ u j)) (A * B) n (λ j l. rw abs_mul (mul-le-mul (f j) (g j))) in
      omega arith

  -- one more product
  pub dot_room : (k : ℕ) → nat_abs (dot k p u) + nat_abs (p k) * nat_abs (u k) ≤ (k + 1) * (A * B)
  dot_room k =
      let s = dot_small k in
      let m : nat_abs (p k) * nat_abs (u k) ≤ A * B = mul-le-mul (f k) (g k) in
      rw (add-one, suc-mul k (A * B)) (omega arith)
