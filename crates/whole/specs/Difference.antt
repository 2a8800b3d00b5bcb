-- Whole numbers as differences of naturals: `p ⊖ n` is p − n. Every operation, order and size of ℤ at two differences is one of ℕ.
-- This is the only file that goes by cases on the sign.
use Rattle.std.specs.Prelude.{◌≡◌, refl, ◌↔◌, Bool, true, false, not, cond, ℕ, zero, suc, ◌+◌, ◌*◌, ◌-◌, ◌^◌, ◌<◌, ◌≤◌, T, ltb, ℤ, pos, negsuc, neg_ℤ, nat_abs, ◌+ℤ◌, ◌*ℤ◌, ◌≤ℤ◌, ◌<ℤ◌}
use Rattle.std.proofs.Common.{sym, ◌∙◌, ap, arith, ltb→lt, nltb→le, lt→ltb, le→leb, leb→le}
use Rattle.std.proofs.Math.IntN.{sub_ℕ, pos-ne-negsuc}
use Rattle.std.specs.Int.{Width}
use mir.Val.{SFits, hbits}

infix 60 ◌⊖◌
pub ◌⊖◌ : ℕ → ℕ → ℤ
p ⊖ n = sub_ℕ p n

-- the whole number p − n is `pos k` or `negsuc k`
data Case (p n : ℕ) : ℤ → Type 0 where
  up : (k : ℕ) → p ≡ n + k → Case p n (pos k)
  down : (k : ℕ) → n ≡ p + suc k → Case p n (negsuc k)

cond_ind : (c : Bool) (x y : ℤ) (F : ℤ → Type 0) → (T c → F x) → (T (not c) → F y) → F (cond c x y)
cond_ind true x y F f g = f tt
cond_ind false x y F f g = g tt

case : (p n : ℕ) → Case p n (p ⊖ n)
unfolding ◌⊖◌
case p n =
    cond_ind (ltb p n) (negsuc (n - suc p)) (pos (p - n)) (λ z. Case p n z)
    (λ t. down (n - suc p) (omega (arith, ltb→lt p n t)))
    (λ t. up (p - n) (omega (arith, nltb→le p n t)))

same : (p n q m : ℕ) {y z : ℤ} → Case p n y → Case q m z → p + m ≡ q + n → y ≡ z
same p n q m (up k e) (up j f) h = ap pos (omega arith)
same p n q m (up k e) (down j f) h = absurd (omega arith)
same p n q m (down k e) (up j f) h = absurd (omega arith)
same p n q m (down k e) (down j f) h = ap negsuc (omega arith)

apart : (p n q m : ℕ) {y z : ℤ} → Case p n y → Case q m z → y ≡ z → p + m ≡ q + n
apart p n q m (up k e) (up j f) h = let g : k ≡ j = ap nat_abs h in omega arith
apart p n q m (up k e) (down j f) h = absurd (pos-ne-negsuc k j h)
apart p n q m (down k e) (up j f) h = absurd (pos-ne-negsuc j k (sym h))
apart p n q m (down k e) (down j f) h = let g : suc k ≡ suc j = ap nat_abs h in omega arith

pub ⊖-eq : (p n q m : ℕ) → (p ⊖ n ≡ q ⊖ m) ↔ (p + m ≡ q + n)
⊖-eq p n q m = (apart p n q m (case p n) (case q m), same p n q m (case p n) (case q m))

pub ⊖-pos : (k : ℕ) → pos k ≡ k ⊖ 0
⊖-pos k = same k 0 k 0 (up k (omega arith)) (case k 0) refl

pub ⊖-negsuc : (k : ℕ) → negsuc k ≡ 0 ⊖ suc k
⊖-negsuc k = same 0 (suc k) 0 (suc k) (down k (omega arith)) (case 0 (suc k)) refl

pub ⊖-sub : (p n : ℕ) → sub_ℕ p n ≡ p ⊖ n
unfolding ◌⊖◌
⊖-sub p n = refl

-- ---- the operations
add : (p n q m : ℕ) {y z : ℤ} → Case p n y → Case q m z → y +ℤ z ≡ (p + q) ⊖ (n + m)
unfolding ◌⊖◌
add p n q m (up k e) (up j f) = same (k + j) 0 (p + q) (n + m) (up (k + j) (omega arith)) (case (p + q) (n + m)) (omega arith)
add p n q m (up k e) (down j f) = same k (suc j) (p + q) (n + m) (case k (suc j)) (case (p + q) (n + m)) (omega arith)
add p n q m (down k e) (up j f) = same j (suc k) (p + q) (n + m) (case j (suc k)) (case (p + q) (n + m)) (omega arith)
add p n q m (down k e) (down j f) =
    same 0 (suc (suc (k + j))) (p + q) (n + m) (down (suc (k + j)) (omega arith)) (case (p + q) (n + m)) (omega arith)

pub ⊖-add : (p n q m : ℕ) → (p ⊖ n) +ℤ (q ⊖ m) ≡ (p + q) ⊖ (n + m)
⊖-add p n q m = add p n q m (case p n) (case q m)

neg-pos : (k : ℕ) → Case 0 k (neg_ℤ (pos k))
neg-pos zero = up 0 (omega arith)
neg-pos (suc k) = down k (omega arith)

neg : (p n : ℕ) {y : ℤ} → Case p n y → neg_ℤ y ≡ n ⊖ p
neg p n (up k e) = same 0 k n p (neg-pos k) (case n p) (omega arith)
neg p n (down k e) = same (suc k) 0 n p (up (suc k) (omega arith)) (case n p) (omega arith)

pub ⊖-neg : (p n : ℕ) → neg_ℤ (p ⊖ n) ≡ n ⊖ p
⊖-neg p n = neg p n (case p n)

mul : (p n q m : ℕ) {y z : ℤ} → Case p n y → Case q m z → y *ℤ z ≡ (p * q + n * m) ⊖ (p * m + n * q)
mul p n q m (up k e) (up j f) =
    same (k * j) 0 (p * q + n * m) (p * m + n * q) (up (k * j) (omega arith)) (case (p * q + n * m) (p * m + n * q))
    (rw (e, f) (omega arith))
mul p n q m (up k e) (down j f) =
    same 0 (k * suc j) (p * q + n * m) (p * m + n * q) (neg-pos (k * suc j)) (case (p * q + n * m) (p * m + n * q))
    (rw (e, f) (omega arith))
mul p n q m (down k e) (up j f) =
    same 0 (suc k * j) (p * q + n * m) (p * m + n * q) (neg-pos (suc k * j)) (case (p * q + n * m) (p * m + n * q))
    (rw (e, f) (omega arith))
mul p n q m (down k e) (down j f) =
    same (suc k * suc j) 0 (p * q + n * m) (p * m + n * q) (up (suc k * suc j) (omega arith)) (case (p * q + n * m) (p * m + n * q))
    (rw (e, f) (omega arith))

pub ⊖-mul : (p n q m : ℕ) → (p ⊖ n) *ℤ (q ⊖ m) ≡ (p * q + n * m) ⊖ (p * m + n * q)
⊖-mul p n q m = mul p n q m (case p n) (case q m)

-- ---- the orders
le→ : (p n q m : ℕ) {y z : ℤ} → Case p n y → Case q m z → y ≤ℤ z → p + m ≤ q + n
le→ p n q m (up k e) (up j f) h = omega (arith, leb→le k j h.le)
le→ p n q m (up k e) (down j f) h = absurd h.le
le→ p n q m (down k e) (up j f) h = omega arith
le→ p n q m (down k e) (down j f) h = omega (arith, leb→le j k h.le)

→le : (p n q m : ℕ) {y z : ℤ} → Case p n y → Case q m z → p + m ≤ q + n → y ≤ℤ z
→le p n q m (up k e) (up j f) h = record { le = le→leb k j (omega arith) }
→le p n q m (up k e) (down j f) h = absurd (omega arith)
→le p n q m (down k e) (up j f) h = record { le = tt }
→le p n q m (down k e) (down j f) h = record { le = le→leb j k (omega arith) }

pub ⊖-le : (p n q m : ℕ) → (p ⊖ n ≤ℤ q ⊖ m) ↔ (p + m ≤ q + n)
⊖-le p n q m = (le→ p n q m (case p n) (case q m), →le p n q m (case p n) (case q m))

lt→ : (p n q m : ℕ) {y z : ℤ} → Case p n y → Case q m z → y <ℤ z → p + m < q + n
lt→ p n q m (up k e) (up j f) h = omega (arith, ltb→lt k j h.lt)
lt→ p n q m (up k e) (down j f) h = absurd h.lt
lt→ p n q m (down k e) (up j f) h = omega arith
lt→ p n q m (down k e) (down j f) h = omega (arith, ltb→lt j k h.lt)

→lt : (p n q m : ℕ) {y z : ℤ} → Case p n y → Case q m z → p + m < q + n → y <ℤ z
→lt p n q m (up k e) (up j f) h = record { lt = lt→ltb k j (omega arith) }
→lt p n q m (up k e) (down j f) h = absurd (omega arith)
→lt p n q m (down k e) (up j f) h = record { lt = tt }
→lt p n q m (down k e) (down j f) h = record { lt = lt→ltb j k (omega arith) }

pub ⊖-lt : (p n q m : ℕ) → (p ⊖ n <ℤ q ⊖ m) ↔ (p + m < q + n)
⊖-lt p n q m = (lt→ p n q m (case p n) (case q m), →lt p n q m (case p n) (case q m))

-- ---- the size, and what fits a width
abs : (p n : ℕ) {y : ℤ} → Case p n y → nat_abs y ≡ (p - n) + (n - p)
abs p n (up k e) = omega arith
abs p n (down k e) = omega arith

pub ⊖-abs : (p n : ℕ) → nat_abs (p ⊖ n) ≡ (p - n) + (n - p)
⊖-abs p n = abs p n (case p n)

fit→ : (w : Width) (p n : ℕ) {y : ℤ} → Case p n y → SFits w y → (n ≤ p + 2 ^ hbits w) × (p < n + 2 ^ hbits w)
fit→ w p n (up k e) h = let g : k < 2 ^ hbits w = h.sfits in omega arith
fit→ w p n (down k e) h = let g : k < 2 ^ hbits w = h.sfits in omega arith

→fit : (w : Width) (p n : ℕ) {y : ℤ} → Case p n y → (n ≤ p + 2 ^ hbits w) × (p < n + 2 ^ hbits w) → SFits w y
→fit w p n (up k e) h = record { sfits = omega arith }
→fit w p n (down k e) h = record { sfits = omega arith }

pub ⊖-fits : (w : Width) (p n : ℕ) → SFits w (p ⊖ n) ↔ ((n ≤ p + 2 ^ hbits w) × (p < n + 2 ^ hbits w))
⊖-fits w p n = (fit→ w p n (case p n), →fit w p n (case p n))

-- ---- a whole number is the difference of its positive and its negative part, one of which is 0
pub positive : ℤ → ℕ
positive (pos k) = k
positive (negsuc k) = 0

pub negative : ℤ → ℕ
negative (pos k) = 0
negative (negsuc k) = suc k

parts : (z : ℤ) → Case (positive z) (negative z) z
unfolding positive negative
parts (pos k) = up k (omega arith)
parts (negsuc k) = down k (omega arith)

pub ⊖-parts : (z : ℤ) → z ≡ positive z ⊖ negative z
⊖-parts z = same (positive z) (negative z) (positive z) (negative z) (parts z) (case (positive z) (negative z)) refl

pub abs_parts : (z : ℤ) → nat_abs (positive z ⊖ negative z) ≡ positive z + negative z
unfolding positive negative
abs_parts (pos k) = ⊖-abs k 0 ∙ omega arith
abs_parts (negsuc k) = ⊖-abs 0 (suc k) ∙ omega arith

pub le_parts : (a b : ℤ) → (a ≤ℤ b) ↔ (positive a + negative b ≤ positive b + negative a)
le_parts a b = (
  le→ (positive a) (negative a) (positive b) (negative b) (parts a) (parts b),
  →le (positive a) (negative a) (positive b) (negative b) (parts a) (parts b),
)

pub lt_parts : (a b : ℤ) → (a <ℤ b) ↔ (positive a + negative b < positive b + negative a)
lt_parts a b = (
  lt→ (positive a) (negative a) (positive b) (negative b) (parts a) (parts b),
  →lt (positive a) (negative a) (positive b) (negative b) (parts a) (parts b),
)
