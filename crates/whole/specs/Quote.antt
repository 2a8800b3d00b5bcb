-- Ring identities of ℤ by the normaliser, for what `as_ℕ` can't do (many unknowns, high degree). With ρ the list of the unknowns:
--     law a b = let ρ = a ∷ b ∷ [] in simp (quote, con-of ρ, atom ρ 0, atom ρ 1) (by-norm refl)
-- `con_of ρ` and `con_neg ρ` only where the goal has constants ≥ 0 and < 0.
use Rattle.std.specs.Prelude.{◌≡◌, refl, ◌↔◌, List, [], ◌∷◌, ℕ, ℤ, pos, negsuc, neg_ℤ, ◌+ℤ◌, ◌-ℤ◌, ◌*ℤ◌, ◌≤ℤ◌}
use Rattle.std.proofs.Common.{arith}
use Rattle.std.proofs.Math.IntN.{+ℤ_assoc, +ℤ_comm, *ℤ_comm, +ℤ_idl, zero-*ℤ}
use Rattle.whole.specs.AsNaturals.{as_ℕ}
use Rattle.whole.specs.Ring.{*ℤ-assoc, *ℤ-+ℤ, one-*ℤ}
use Rattle.whole.specs.Order.{le_by, signs}
use Rattle.whole.specs.Polynomial.{Expr, var, con, ◌:+◌, ◌:*◌, negated, norm}
use Rattle.whole.specs.Normaliser.{Ring, at, eval, solve}

abbrev pub ℤ-of : ℤ → ℤ
ℤ-of z = z

pub ℤ-ring : Ring ℤ ℤ-of ◌+ℤ◌ ◌*ℤ◌ neg_ℤ
ℤ-ring = record {
  add_comm = +ℤ_comm;
  add_assoc = +ℤ_assoc;
  zero-add = +ℤ_idl;
  mul_comm = *ℤ_comm;
  mul_assoc = *ℤ-assoc;
  one-mul = one-*ℤ;
  zero-mul = zero-*ℤ;
  mul-add = *ℤ-+ℤ;
  neg_is = λ a. simp as_ℕ (omega arith);
  of_add = λ a b. refl;
  of_mul = λ a b. refl;
}

abbrev pub eval_ℤ : List ℤ → Expr → ℤ
eval_ℤ ρ e = eval ℤ-ring ρ e

pub ring : (ρ : List ℤ) (e f : Expr) → norm e ≡ norm f → eval_ℤ ρ e ≡ eval_ℤ ρ f
ring ρ e f h = solve ℤ-ring ρ e f h

-- ---- `Q z` is z, and marks what is still to be quoted; `ev ρ e` is `eval_ℤ ρ e`, shut
pub Q : ℤ → ℤ
Q z = z

pub ev : List ℤ → Expr → ℤ
ev ρ e = eval_ℤ ρ e

pub record EqQ (a b : ℤ) : Type 0 where
  pub eq : a ≡ b

pub quote_eq : (a b : ℤ) → (a ≡ b) ↔ EqQ (Q a) (Q b)
unfolding Q
quote_eq a b = ((λ h. record { eq = h }), (λ h. h.eq))

pub Q-add : (a b : ℤ) → Q (a +ℤ b) ≡ Q a +ℤ Q b
unfolding Q
Q-add a b = refl

pub Q-mul : (a b : ℤ) → Q (a *ℤ b) ≡ Q a *ℤ Q b
unfolding Q
Q-mul a b = refl

pub Q-neg : (a : ℤ) → Q (neg_ℤ a) ≡ neg_ℤ (Q a)
unfolding Q
Q-neg a = refl

pub con_of : (ρ : List ℤ) (k : ℕ) → Q (pos k) ≡ ev ρ (con (pos k))
unfolding Q ev
con_of ρ k = refl

pub con_neg : (ρ : List ℤ) (k : ℕ) → Q (negsuc k) ≡ ev ρ (con (negsuc k))
unfolding Q ev
con_neg ρ k = refl

pub atom : (ρ : List ℤ) (i : ℕ) → Q (at ℤ-ring ρ i) ≡ ev ρ (var i)
unfolding Q ev
atom ρ i = refl

pub ev_add : (ρ : List ℤ) (e f : Expr) → ev ρ e +ℤ ev ρ f ≡ ev ρ (e :+ f)
unfolding ev
ev_add ρ e f = refl

pub ev_mul : (ρ : List ℤ) (e f : Expr) → ev ρ e *ℤ ev ρ f ≡ ev ρ (e :* f)
unfolding ev
ev_mul ρ e f = refl

pub ev_neg : (ρ : List ℤ) (e : Expr) → neg_ℤ (ev ρ e) ≡ ev ρ (negated e)
unfolding ev
ev_neg ρ e = refl

pub record Same (ρ : List ℤ) (e f : Expr) : Type 0 where
  pub same : ev ρ e ≡ ev ρ f

pub quoted : (ρ : List ℤ) (e f : Expr) → EqQ (ev ρ e) (ev ρ f) ↔ Same ρ e f
quoted ρ e f = ((λ h. record { same = h.eq }), (λ h. record { eq = h.same }))

pub by_norm : {ρ : List ℤ} {e f : Expr} → norm e ≡ norm f → Same ρ e f
unfolding ev
by_norm {ρ} {e} {f} h = record { same = ring ρ e f h }

pub ruleset quote = (quote_eq, Q-add, Q-mul, Q-neg, ev_add, ev_mul, ev_neg, quoted)

-- ---- examples: cancellation with coefficients, and an inequality whose sides differ by a square
difference_of_squares : (a b : ℤ) → (a +ℤ b) *ℤ (a +ℤ b) -ℤ (a -ℤ b) *ℤ (a -ℤ b) ≡ pos 4 *ℤ (a *ℤ b)
difference_of_squares a b = let ρ = a ∷ b ∷ [] in simp (quote, con_of ρ, atom ρ 0, atom ρ 1) (by_norm refl)

cauchy : (a b c d : ℤ) → ((a *ℤ c +ℤ b *ℤ d) *ℤ (a *ℤ c +ℤ b *ℤ d)) ≤ℤ ((a *ℤ a +ℤ b *ℤ b) *ℤ (c *ℤ c +ℤ d *ℤ d))
cauchy a b c d =
    let ρ = a ∷ b ∷ c ∷ d ∷ [] in
    le_by _ _ ((a *ℤ d -ℤ b *ℤ c) *ℤ (a *ℤ d -ℤ b *ℤ c)) (simp (quote, atom ρ 0, atom ρ 1, atom ρ 2, atom ρ 3) (by_norm refl))
    (search signs)
