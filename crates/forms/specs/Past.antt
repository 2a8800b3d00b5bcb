-- Past a step's rows its raw numbers are 0.
use Rattle.std.specs.Prelude.{List, ◌≡◌, ℤ, ◌*ℤ◌}
use Rattle.std.proofs.Common.{◌∙◌, mul-le-mul_right, arith}
use Rattle.std.proofs.Math.Path.{ap₂}
use Prim.Native.Nat.{ℕ, ◌+◌, ◌*◌, ◌≤◌}
use Rattle.std.proofs.Math.IntN.{pos, ◌+ℤ◌}
use Rattle.std.proofs.Math.ListN.{get_or-eq_default}
use Rattle.whole.specs.Round.{scale}
use Rattle.whole.specs.Sum.{monoid_ℕ, monoid_ℤ}
use Rattle.model.specs.Set.{Zonotope, at, radius}
use Rattle.model.specs.Step.{Step, linear_at, quadratic_at, dot, bilinear, raw_centre, raw_linear, raw_square, raw_pair, slope, remainder}
use Rattle.forms.specs.Dot.{Vector, upto_zero, dot-zero, dot_comm}
use Rattle.forms.specs.Wide.{StepShaped}
use Rattle.forms.specs.Same.{both_zero, nothing, cross}

module _ (p : Step) (shaped : StepShaped p) (i : ℕ) (past : p.rows ≤ i) where
  abbrev width : ℕ
  width = p.columns

  constant_none : at p.constant i ≡ pos 0
  constant_none = let c = shaped.constants in get_or-eq_default p.constant (pos 0) {n = i} (omega arith)

  pub linear_none : (j : ℕ) → linear_at p i j ≡ pos 0
  linear_none j =
      let c = shaped.linears in
      let b : p.rows * width ≤ i * width = mul-le-mul_right width past in
      get_or-eq_default p.linear (pos 0) {n = i * width + j} (omega arith)

  pub quadratic_none : (j l : ℕ) → quadratic_at p i j l ≡ pos 0
  quadratic_none j l =
      let c = shaped.quadratics in
      let b : p.rows * width ≤ i * width = mul-le-mul_right width past in
      let d : p.rows * width * width ≤ (i * width + j) * width = mul-le-mul_right width (omega arith) in
      get_or-eq_default p.quadratic (pos 0) {n = (i * width + j) * width + l} (omega arith)

  dot_none : (u : Vector) → dot width (linear_at p i) u ≡ pos 0
  dot_none u = dot-zero width (linear_at p i) u (λ j _. linear_none j)

  form_none : (u v : Vector) → bilinear width (quadratic_at p i) u v ≡ pos 0
  unfolding bilinear
  form_none u v =
      dot_comm width u (λ j. dot width (quadratic_at p i j) v)
      ∙ dot-zero width (λ j. dot width (quadratic_at p i j) v) u (λ j _. dot-zero width (quadratic_at p i j) v (λ l _. quadratic_none j l))

  module _ (z : Zonotope) where
    pub centre_none : raw_centre p z i ≡ pos 0
    unfolding raw_centre
    centre_none =
        ap₂ (λ (c x : ℤ). pos scale *ℤ c +ℤ x) constant_none
        (ap₂ (λ (x y : ℤ). pos 4096 *ℤ x +ℤ y) (dot_none (at z.centre)) (form_none (at z.centre) (at z.centre)))

    pub term_none : (g : List ℤ) → raw_linear p z g i ≡ pos 0
    unfolding raw_linear
    term_none g =
        ap₂ (λ (x y : ℤ). pos 4096 *ℤ x +ℤ y) (dot_none (at g))
        (ap₂ ◌+ℤ◌ (form_none (at z.centre) (at g)) (form_none (at g) (at z.centre)))

    pub square_none : (g : List ℤ) → raw_square p z g i ≡ pos 0
    unfolding raw_square
    square_none g = form_none (at g) (at g)

    pub pair_none : (g h : List ℤ) → raw_pair p z g h i ≡ pos 0
    unfolding raw_pair
    pair_none g h = ap₂ ◌+ℤ◌ (form_none (at g) (at h)) (form_none (at h) (at g))

    slope_none : (j : ℕ) → slope p z i j ≡ pos 0
    slope_none j =
        ap₂ (λ (x y : ℤ). pos 4096 *ℤ x +ℤ y) (linear_none j)
        (upto_zero monoid_ℤ _ width (λ l _. both_zero (at z.centre l) (quadratic_none j l) (quadratic_none l j)))

    pub remainder_none : remainder p z i ≡ 0
    unfolding remainder
    remainder_none =
        ap₂ ◌+◌ (upto_zero monoid_ℕ _ width (λ j _. nothing (radius z j) (slope_none j)))
        (upto_zero monoid_ℕ _ width (λ j _. upto_zero monoid_ℕ _ width (λ l _. nothing (cross z j l) (quadratic_none j l))))
