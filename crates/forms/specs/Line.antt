-- Each raw number of a step as one dot product: with the line of a coordinate, or with (Q + Qᵀ)h.
use Rattle.std.specs.Prelude.{◌≡◌, ℕ, ℤ, pos, ◌+ℤ◌, ◌*ℤ◌}
use Rattle.std.proofs.Common.{sym, ◌∙◌, ap, ap₂, arith}
use Rattle.whole.specs.AsNaturals.{as_ℕ}
use Rattle.whole.specs.Half.{half, half_twice}
use Rattle.model.specs.Step.{dot, bilinear}
use Rattle.forms.specs.Dot.{Vector, Form, dot-add, dot_right, dot_comm, add-dot, scale-dot, bilinear-swap}

-- (Q + Qᵀ)v
unfoldable pub turned : ℕ → Form → Vector → Vector
turned n q v j = dot n (λ l. q j l +ℤ q l j) v

-- 4096·A_j + sum over l of (Q_jl + Q_lj)·k_l
unfoldable pub line : ℕ → Vector → Form → Vector → Vector
line n a q k j = pos 4096 *ℤ a j +ℤ turned n q k j

-- ---- what one dot product gives
-- u·(Q + Qᵀ)v = Q(u, v) + Q(v, u)
pub turned-dot : (n : ℕ) (q : Form) (u v : Vector) → dot n u (turned n q v) ≡ bilinear n q u v +ℤ bilinear n q v u
unfolding turned bilinear
turned-dot n q u v =
    dot_right n u (turned n q v) (λ j. dot n (q j) v +ℤ dot n (λ l. q l j) v) (λ j _. add-dot n (q j) (λ l. q l j) v)
    ∙ dot-add n u (λ j. dot n (q j) v) (λ j. dot n (λ l. q l j) v)
    ∙ ap (λ (z : ℤ). dot n u (λ j. dot n (q j) v) +ℤ z) (sym (bilinear-swap n q v u))

-- a term's or generator's number is g·line
pub line-dot : (n : ℕ) (a : Vector) (q : Form) (k g : Vector)
    → dot n g (line n a q k) ≡ pos 4096 *ℤ dot n a g +ℤ (bilinear n q k g +ℤ bilinear n q g k)
unfolding line
line-dot n a q k g =
    dot-add n g (λ j. pos 4096 *ℤ a j) (turned n q k)
    ∙ ap₂ ◌+ℤ◌ (dot_comm n g (λ j. pos 4096 *ℤ a j) ∙ scale-dot n (pos 4096) a g)
    (turned-dot n q g k ∙ swap (bilinear n q g k) (bilinear n q k g))
  where
    swap : (x y : ℤ) → x +ℤ y ≡ y +ℤ x
    swap x y = simp as_ℕ (omega arith)

-- a term with itself is half of its pair
pub square_half : (n : ℕ) (q : Form) (g : Vector) → half (dot n g (turned n q g)) ≡ bilinear n q g g
square_half n q g = ap half (turned-dot n q g g) ∙ half_twice (bilinear n q g g)

-- the centre is half of what the line and A make of it
pub centre-half : (n : ℕ) (a : Vector) (q : Form) (k : Vector)
    → half (dot n k (line n a q k) +ℤ pos 4096 *ℤ dot n a k) ≡ pos 4096 *ℤ dot n a k +ℤ bilinear n q k k
centre-half n a q k =
    ap (λ (z : ℤ). half (z +ℤ pos 4096 *ℤ dot n a k)) (line-dot n a q k k)
    ∙ ap half (twice (pos 4096 *ℤ dot n a k) (bilinear n q k k))
    ∙ half_twice (pos 4096 *ℤ dot n a k +ℤ bilinear n q k k)
  where
    twice : (x y : ℤ) → x +ℤ (y +ℤ y) +ℤ x ≡ (x +ℤ y) +ℤ (x +ℤ y)
    twice x y = simp as_ℕ (omega arith)
