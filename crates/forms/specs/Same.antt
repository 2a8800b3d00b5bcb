-- The raw numbers of the wide step are those of the step, in each of its six coordinates.
use Rattle.std.specs.Prelude.{List, ◌≡◌, ℤ, ◌*ℤ◌}
use Rattle.std.proofs.Common.{◌∙◌, zero-mul}
use Rattle.std.proofs.Math.Path.{ap, ap₂}
use Prim.Native.Nat.{ℕ, ◌+◌, ◌*◌, ◌/◌, ◌%◌, ◌<◌, ◌≤◌}
use Rattle.std.proofs.Math.Decide.{dec_lt}
use native.Mathlib.Omega.{arith}
use Rattle.std.proofs.Math.IntN.{pos, nat_abs, ◌+ℤ◌, zero-*ℤ}
use Rattle.whole.specs.Round.{scale}
use Rattle.whole.specs.Sum.{monoid_ℕ, monoid_ℤ}
use Rattle.whole.specs.Tab.{get_d_tab}
use Rattle.model.specs.Set.{Zonotope, at, radius, term_sizes, generator_sizes}
use Rattle.model.specs.Step.{Step, linear_at, quadratic_at, dot, bilinear, raw_centre, raw_linear, raw_square, raw_pair, slope, remainder}
use Rattle.forms.specs.Dot.{Vector, upto_short, upto_zero, dot-short, dot-zero, dot_comm}
use Rattle.forms.specs.Wide.{entry, form_entry, wide_constant, wide_linear, wide_quadratic, wide, StepShaped}
use Rattle.forms.specs.Wide.{entry_is, entry_past, form-entry_is, form-entry_past}

-- ---- products with 0
pub both_zero : {a b : ℤ} (c : ℤ) → a ≡ pos 0 → b ≡ pos 0 → (a +ℤ b) *ℤ c ≡ pos 0
both_zero c h l = ap₂ (λ (x y : ℤ). (x +ℤ y) *ℤ c) h l ∙ zero-*ℤ c

pub nothing : {a : ℤ} (c : ℕ) → a ≡ pos 0 → nat_abs a * c ≡ 0
nothing c h = ap (λ (x : ℤ). nat_abs x * c) h ∙ zero-mul c

-- D_j·r_l + r_j·D_l + r_j·r_l
abbrev pub cross : Zonotope → ℕ → ℕ → ℕ
cross z j l =
    term_sizes z j * (generator_sizes z l + radius z l)
    + (generator_sizes z j + radius z j) * term_sizes z l
    + (generator_sizes z j + radius z j) * (generator_sizes z l + radius z l)

module _ (p : Step) (shaped : StepShaped p) where
  wide-constant : (i : ℕ) → i < 6 → at (wide p).constant i ≡ at p.constant i
  unfolding wide_constant
  wide-constant i h = get_d_tab 6 (at p.constant) (pos 0) i h

  wide-linear : (i j : ℕ) → i < 6 → j < 6 → linear_at (wide p) i j ≡ entry p.linear p.columns i j
  unfolding wide_linear
  wide-linear i j h l =
      let e : (i * 6 + j) / 6 ≡ i = omega arith in
      let f : (i * 6 + j) % 6 ≡ j = omega arith in
      get_d_tab 36 (λ x. entry p.linear p.columns (x / 6) (x % 6)) (pos 0) (i * 6 + j) (omega arith)
      ∙ ap₂ (entry p.linear p.columns) e f

  wide-quadratic : (i j l : ℕ) → i < 6 → j < 6 → l < 6 → quadratic_at (wide p) i j l ≡ form_entry p.quadratic p.columns i j l
  unfolding wide_quadratic
  wide-quadratic i j l hi hj hl =
      let e : ((i * 6 + j) * 6 + l) / 36 ≡ i = omega arith in
      let f : ((i * 6 + j) * 6 + l) / 6 % 6 ≡ j = omega arith in
      let g : ((i * 6 + j) * 6 + l) % 6 ≡ l = omega arith in
      get_d_tab 216 (λ x. form_entry p.quadratic p.columns (x / 36) (x / 6 % 6) (x % 6)) (pos 0) ((i * 6 + j) * 6 + l) (omega arith)
      ∙ ap₂ (λ (x y : ℕ). form_entry p.quadratic p.columns x y (((i * 6 + j) * 6 + l) % 6)) e f
      ∙ ap (form_entry p.quadratic p.columns i j) g

  module _ (i : ℕ) (hi : i < 6) where
    abbrev n : ℕ
    n = p.columns

    linear_in : (j : ℕ) → j < n → linear_at (wide p) i j ≡ linear_at p i j
    linear_in j h = let c = shaped.columns in wide-linear i j hi (omega arith) ∙ entry_is p.linear n i j h

    linear_out : (j : ℕ) → j < 6 → n ≤ j → linear_at (wide p) i j ≡ pos 0
    linear_out j l h = wide-linear i j hi l ∙ entry_past p.linear n i j h

    quadratic_in : (j l : ℕ) → j < n → l < n → quadratic_at (wide p) i j l ≡ quadratic_at p i j l
    quadratic_in j l h m =
        let c = shaped.columns in
        wide-quadratic i j l hi (omega arith) (omega arith)
        ∙ form-entry_is p.quadratic n i j l h
        ∙ entry_is p.quadratic n (i * n + j) l m

    quadratic-row_out : (j l : ℕ) → j < 6 → l < 6 → n ≤ j → quadratic_at (wide p) i j l ≡ pos 0
    quadratic-row_out j l hj hl h = wide-quadratic i j l hi hj hl ∙ form-entry_past p.quadratic n i j l h

    quadratic_out : (j l : ℕ) → j < 6 → l < 6 → n ≤ l → quadratic_at (wide p) i j l ≡ pos 0
    quadratic_out j l hj hl h = go (dec_lt j n)
      where
        go : Dec (j < n) → quadratic_at (wide p) i j l ≡ pos 0
        go (yes b) =
            wide-quadratic i j l hi hj hl
            ∙ form-entry_is p.quadratic n i j l b
            ∙ entry_past p.quadratic n (i * n + j) l h
        go (no b) = quadratic-row_out j l hj hl (omega arith)

    wide-dot : (u : Vector) → dot 6 (linear_at (wide p) i) u ≡ dot n (linear_at p i) u
    wide-dot u = dot-short (linear_at (wide p) i) (linear_at p i) u n 6 shaped.columns linear_in linear_out

    form-row : (v : Vector) (j : ℕ) → j < n → dot 6 (quadratic_at (wide p) i j) v ≡ dot n (quadratic_at p i j) v
    form-row v j h =
        let c = shaped.columns in
        dot-short (quadratic_at (wide p) i j) (quadratic_at p i j) v n 6 c (λ l m. quadratic_in j l h m)
        (λ l m o. quadratic_out j l (omega arith) m o)

    wide_form : (u v : Vector) → bilinear 6 (quadratic_at (wide p) i) u v ≡ bilinear n (quadratic_at p i) u v
    unfolding bilinear
    wide_form u v =
        dot_comm 6 u (λ j. dot 6 (quadratic_at (wide p) i j) v)
        ∙ dot-short (λ j. dot 6 (quadratic_at (wide p) i j) v) (λ j. dot n (quadratic_at p i j) v) u n 6 shaped.columns (form-row v)
        (λ j h m. dot-zero 6 (quadratic_at (wide p) i j) v (λ l o. quadratic-row_out j l h o m))
        ∙ dot_comm n (λ j. dot n (quadratic_at p i j) v) u

    pub wide-centre : (z : Zonotope) → raw_centre (wide p) z i ≡ raw_centre p z i
    unfolding raw_centre
    wide-centre z =
        ap₂ (λ (c x : ℤ). pos scale *ℤ c +ℤ x) (wide-constant i hi)
        (ap₂ (λ (x y : ℤ). pos 4096 *ℤ x +ℤ y) (wide-dot (at z.centre)) (wide_form (at z.centre) (at z.centre)))

    pub wide-term : (z : Zonotope) (g : List ℤ) → raw_linear (wide p) z g i ≡ raw_linear p z g i
    unfolding raw_linear
    wide-term z g =
        ap₂ (λ (x y : ℤ). pos 4096 *ℤ x +ℤ y) (wide-dot (at g))
        (ap₂ ◌+ℤ◌ (wide_form (at z.centre) (at g)) (wide_form (at g) (at z.centre)))

    pub wide_square : (z : Zonotope) (g : List ℤ) → raw_square (wide p) z g i ≡ raw_square p z g i
    unfolding raw_square
    wide_square z g = wide_form (at g) (at g)

    pub wide-pair : (z : Zonotope) (g h : List ℤ) → raw_pair (wide p) z g h i ≡ raw_pair p z g h i
    unfolding raw_pair
    wide-pair z g h = ap₂ ◌+ℤ◌ (wide_form (at g) (at h)) (wide_form (at h) (at g))

    slope_in : (z : Zonotope) (j : ℕ) → j < n → slope (wide p) z i j ≡ slope p z i j
    slope_in z j h =
        let c = shaped.columns in
        ap₂ (λ (x y : ℤ). pos 4096 *ℤ x +ℤ y) (linear_in j h)
        (upto_short monoid_ℤ _ _ n 6 c
        (λ l m. ap (λ (x : ℤ). x *ℤ at z.centre l) (ap₂ ◌+ℤ◌ (quadratic_in j l h m) (quadratic_in l j m h)))
        (λ l m o. both_zero (at z.centre l) (quadratic_out j l (omega arith) m o) (quadratic-row_out l j m (omega arith) o)))

    slope_out : (z : Zonotope) (j : ℕ) → j < 6 → n ≤ j → slope (wide p) z i j ≡ pos 0
    slope_out z j l h =
        ap₂ (λ (x y : ℤ). pos 4096 *ℤ x +ℤ y) (linear_out j l h)
        (upto_zero monoid_ℤ _ 6 (λ k m. both_zero (at z.centre k) (quadratic-row_out j k l m h) (quadratic_out k j m l h)))

    pub wide-remainder : (z : Zonotope) → remainder (wide p) z i ≡ remainder p z i
    unfolding remainder
    wide-remainder z =
        ap₂ ◌+◌
        (upto_short monoid_ℕ _ _ n 6 shaped.columns (λ j h. ap (λ (x : ℤ). nat_abs x * radius z j) (slope_in z j h))
        (λ j l h. nothing (radius z j) (slope_out z j l h)))
        (upto_short monoid_ℕ _ _ n 6 shaped.columns
        (λ j h. upto_short monoid_ℕ _ _ n 6 shaped.columns (λ l m. ap (λ (x : ℤ). nat_abs x * cross z j l) (quadratic_in j l h m))
        (λ l m o. let c = shaped.columns in nothing (cross z j l) (quadratic_out j l (omega arith) m o)))
        (λ j l h. upto_zero monoid_ℕ _ 6 (λ k m. nothing (cross z j k) (quadratic-row_out j k l m h))))
