-- The set `as_ℕ`: by it `simp` turns a goal over ℤ into one over ℕ, which `omega` reads. So a law of ℤ is one line:
--     law a b c = simp as-ℕ (omega arith)                        premises written with → are read too
--     law a b h = simp as-ℕ (omega (arith, simp as-ℕ at h))      a fact in hand
-- It reads ≡, ≤ℤ, <ℤ, the tests lt_z and le_z, `SFits w`, nat_abs, and sums, products, negatives and literals.
-- Its variants, for what it can't do:
--     as-ℕ-sizes      many |x| on the large side of a bound: no case splits, but it is lost that one part of x is 0
--     as-ℕ-shut-abs   nat_abs stays as it is, as a remainder by `nat_abs (pos d)` needs
--     as-ℕ-linear     a product of two unknowns is an unknown itself, so that there are fewer of them
-- How it works: `read z` is z and marks what is still to be read; the marks move inward, and an unknown becomes the difference of its
-- parts by the last rule, `read_atom`. This relies on `simp` trying the rules of a set in their order.
use Rattle.std.specs.Prelude.{◌≡◌, refl, ◌↔◌, Bool, true, false, ℕ, suc, ◌+◌, ◌-◌, ◌^◌, ◌<◌, ◌≤◌, T, ℤ, pos, negsuc, neg_ℤ, nat_abs, ◌+ℤ◌, ◌*ℤ◌, ◌≤ℤ◌, ◌<ℤ◌}
use Rattle.std.proofs.Common.{sym, ap, subst, arith}
use Rattle.std.proofs.Math.IntN.{sub_ℕ}
use Rattle.std.specs.Int.Signed.{le_z, lt_z, clash_ℤ}
use Rattle.std.specs.Int.{Width}
use mir.Val.{SFits, hbits}
use Rattle.whole.specs.Difference.{◌⊖◌, ⊖-eq, ⊖-pos, ⊖-negsuc, ⊖-sub, ⊖-add, ⊖-neg, ⊖-mul, ⊖-le, ⊖-lt, ⊖-abs, ⊖-fits, positive}
use Rattle.whole.specs.Difference.{negative, ⊖-parts, abs_parts, le_parts, lt_parts}

pub read : ℤ → ℤ
read z = z

pub read_add : (a b : ℤ) → read (a +ℤ b) ≡ read a +ℤ read b
unfolding read
read_add a b = refl

pub read_mul : (a b : ℤ) → read (a *ℤ b) ≡ read a *ℤ read b
unfolding read
read_mul a b = refl

pub read_scale : (k : ℕ) (a : ℤ) → read (pos k *ℤ a) ≡ (k ⊖ 0) *ℤ read a
unfolding read
read_scale k a = ap (λ x. x *ℤ a) (⊖-pos k)

pub read_neg : (a : ℤ) → read (neg_ℤ a) ≡ neg_ℤ (read a)
unfolding read
read_neg a = refl

pub read_pos : (k : ℕ) → read (pos k) ≡ k ⊖ 0
unfolding read
read_pos k = ⊖-pos k

pub read_negsuc : (k : ℕ) → read (negsuc k) ≡ 0 ⊖ suc k
unfolding read
read_negsuc k = ⊖-negsuc k

pub read_sub : (p n : ℕ) → read (sub_ℕ p n) ≡ p ⊖ n
unfolding read
read_sub p n = ⊖-sub p n

pub read-⊖ : (p n : ℕ) → read (p ⊖ n) ≡ p ⊖ n
unfolding read
read-⊖ p n = refl

pub read_atom : (z : ℤ) → read z ≡ positive z ⊖ negative z
unfolding read
read_atom z = ⊖-parts z

-- ---- the relations, with both sides marked
pub record ReadEq (a b : ℤ) : Type 0 where
  pub eq : a ≡ b

pub record ReadLe (a b : ℤ) : Type 0 where
  pub le : a ≤ℤ b

pub record ReadLt (a b : ℤ) : Type 0 where
  pub lt : a <ℤ b

pub record ReadFits (w : Width) (a : ℤ) : Type 0 where
  pub fits : SFits w a

pub read_abs : ℤ → ℕ
read_abs z = nat_abs z

pub begin_eq : (a b : ℤ) → (a ≡ b) ↔ ReadEq (read a) (read b)
unfolding read
begin_eq a b = ((λ h. record { eq = h }), (λ h. h.eq))

pub begin_le : (a b : ℤ) → (a ≤ℤ b) ↔ ReadLe (read a) (read b)
unfolding read
begin_le a b = ((λ h. record { le = h }), (λ h. h.le))

pub begin_lt : (a b : ℤ) → (a <ℤ b) ↔ ReadLt (read a) (read b)
unfolding read
begin_lt a b = ((λ h. record { lt = h }), (λ h. h.lt))

pub begin_fits : (w : Width) (a : ℤ) → SFits w a ↔ ReadFits w (read a)
unfolding read
begin_fits w a = ((λ h. record { fits = h }), (λ h. h.fits))

pub begin_abs : (a : ℤ) → nat_abs a ≡ read_abs (read a)
unfolding read read_abs
begin_abs a = refl

pub end_eq : (p n q m : ℕ) → ReadEq (p ⊖ n) (q ⊖ m) ↔ (p + m ≡ q + n)
end_eq p n q m = ((λ h. (⊖-eq p n q m).0 h.eq), (λ h. record { eq = (⊖-eq p n q m).1 h }))

pub end_le : (p n q m : ℕ) → ReadLe (p ⊖ n) (q ⊖ m) ↔ (p + m ≤ q + n)
end_le p n q m = ((λ h. (⊖-le p n q m).0 h.le), (λ h. record { le = (⊖-le p n q m).1 h }))

pub end_lt : (p n q m : ℕ) → ReadLt (p ⊖ n) (q ⊖ m) ↔ (p + m < q + n)
end_lt p n q m = ((λ h. (⊖-lt p n q m).0 h.lt), (λ h. record { lt = (⊖-lt p n q m).1 h }))

pub end_fits : (w : Width) (p n : ℕ) → ReadFits w (p ⊖ n) ↔ ((n ≤ p + 2 ^ hbits w) × (p < n + 2 ^ hbits w))
end_fits w p n = ((λ h. (⊖-fits w p n).0 h.fits), (λ h. record { fits = (⊖-fits w p n).1 h }))

pub end_abs : (p n : ℕ) → read_abs (p ⊖ n) ≡ (p - n) + (n - p)
unfolding read_abs
end_abs p n = ⊖-abs p n

pub end_abs_atom : (z : ℤ) → read_abs (positive z ⊖ negative z) ≡ positive z + negative z
unfolding read_abs
end_abs_atom z = abs_parts z

-- ---- the tests of the two orders, as a branch leaves them
true_yes : (b : Bool) → (b ≡ true) ↔ T b
true_yes b = ((λ e. subst T (sym e) tt), go b)
  where
    go : (b : Bool) → T b → b ≡ true
    go true t = refl
    go false t = absurd t

false_no : (b : Bool) → (b ≡ false) ↔ (T b → ⊥)
false_no b = ((λ e t. subst T e t), go b)
  where
    go : (b : Bool) → (T b → ⊥) → b ≡ false
    go true f = absurd (f tt)
    go false f = refl

pub lt_z_true : (a b : ℤ) → (lt_z a b ≡ true) ↔ (a <ℤ b)
lt_z_true a b = ((λ e. record { lt = (true_yes (lt_z a b)).0 e }), (λ h. (true_yes (lt_z a b)).1 h.lt))

pub le_z_true : (a b : ℤ) → (le_z a b ≡ true) ↔ (a ≤ℤ b)
le_z_true a b = ((λ e. record { le = (true_yes (le_z a b)).0 e }), (λ h. (true_yes (le_z a b)).1 h.le))

not_lt : (a b : ℤ) → (a <ℤ b → ⊥) → b ≤ℤ a
not_lt a b f = (le_parts b a).1 (turn (λ h. f ((lt_parts a b).1 h)))
  where
    turn : (positive a + negative b < positive b + negative a → ⊥) → positive b + negative a ≤ positive a + negative b
    turn g = omega arith

not_le : (a b : ℤ) → (a ≤ℤ b → ⊥) → b <ℤ a
not_le a b f = (lt_parts b a).1 (turn (λ h. f ((le_parts a b).1 h)))
  where
    turn : (positive a + negative b ≤ positive b + negative a → ⊥) → positive b + negative a < positive a + negative b
    turn g = omega arith

pub lt_z_false : (a b : ℤ) → (lt_z a b ≡ false) ↔ (b ≤ℤ a)
lt_z_false a b = (
  (λ e. not_lt a b (λ h. (false_no (lt_z a b)).0 e h.lt)),
  (λ h. (false_no (lt_z a b)).1 (λ t. clash_ℤ (record { lt = t }) h)),
)

pub le_z_false : (a b : ℤ) → (le_z a b ≡ false) ↔ (b <ℤ a)
le_z_false a b = (
  (λ e. not_le a b (λ h. (false_no (le_z a b)).0 e h.le)),
  (λ h. (false_no (le_z a b)).1 (λ t. clash_ℤ h (record { le = t }))),
)

-- ---- the sets. `read_atom` stands after every other rule for `read`
pub ruleset tests = (lt_z_true, lt_z_false, le_z_true, le_z_false)

pub ruleset begins = (begin_eq, begin_le, begin_lt, begin_fits)

pub ruleset ends = (⊖-add, ⊖-mul, ⊖-neg, end_eq, end_le, end_lt, end_fits)

pub ruleset atoms = (read_neg, read_pos, read_negsuc, read_sub, read-⊖, read_atom)

pub ruleset as_ℕ_shut_abs = (tests, begins, read_add, read_mul, atoms, ends)

pub ruleset as_ℕ_linear = (tests, begins, read_add, read_scale, atoms, ends)

pub ruleset as_ℕ = (as_ℕ_shut_abs, begin_abs, end_abs)

pub ruleset as_ℕ_sizes = (as_ℕ_shut_abs, begin_abs, end_abs_atom, end_abs)
