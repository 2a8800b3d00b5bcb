-- A step's entries and half-widths in arrays.
use Rattle.std.specs.Prelude.{◌≡◌, List, Bool, false, ℕ, ◌*◌, ◌-◌, ◌≤◌, length, replicate, ℤ}
use Rattle.std.proofs.Common.{subst, ◌∙◌, mul-le-mul, arith, length-take-le}
use Rattle.std.proofs.lemmas.List.{length-replicate}
use Rattle.model.specs.Step.{Step}
use Rattle.model.specs.Ranged.{Widths}
use Rattle.model.specs.Body.{step_rows, step_columns, step_length, given_step, ranged_length, given_widths}
use Rattle.model.specs.Field.{negative_width}
use Rattle.zonotope.specs.declared.PolyZonotope.{PolyZonotope}
use Rattle.answers.specs.Finishing.{part}
use Rattle.image.specs.StepAccepted.{step_of}
use Rattle.stepping.specs.Arguments.{counts_in}
use Rattle.widths.specs.Widths.{widths_of}
use Rattle.bodies.specs.Fields.{step_counts_out, StepBody, WidthsBody}
use Rattle.fields.specs.Steps.{Made, SteppedBy, RangedBy}

-- the first n places of an array of N zeros
abbrev pub zeros : {A : Type 0} → A → ℕ → ℕ → List A
zeros z n N = part n (replicate N z)

pub zeros-length : {A : Type 0} (z : A) (n N : ℕ) → n ≤ N → length (zeros z n N) ≡ n
zeros-length {A} z n N h = length-take-le (n - 0) (replicate N z) (omega (arith, length-replicate {A = A} N z)) ∙ omega arith

-- the counts of a body whose counts are in limits
laid_counts : (b : List ℕ) → step_counts_out b ≡ false → (step_rows b ≤ 6) × (step_columns b ≤ 6)
unfolding given_step
laid_counts b right = counts_in (given_step b) right

-- counts that are read from it
module _ (b : List ℕ) (right : step_counts_out b ≡ false) {m n : ℕ} (e₁ : m ≡ step_rows b) (e₂ : n ≡ step_columns b) where
  pub entries_few : (m ≤ 6) × (n ≤ 6) × (m * n ≤ 36) × (m * n * n ≤ 216)
  entries_few =
      let k = laid_counts b right in
      let rows : m ≤ 6 = omega arith in
      let columns : n ≤ 6 = omega arith in
      let two = mul-le-mul {n₁ = m} {m₁ = n} {n₂ = 6} {m₂ = 6} rows columns in
      (rows, columns, two, mul-le-mul {n₁ = m * n} {m₁ = n} {n₂ = 36} {m₂ = 6} two columns)

  -- slices that have room for the entries, and for the half-widths
  module _ {y z : ℕ} (linear : y ≡ m * n) (quadratic : z ≡ m * n * n) where
    linears_long : y ≡ step_rows b * step_columns b
    linears_long = linear ∙ rw (e₁, e₂)

    quadratics_long : z ≡ step_rows b * step_columns b * step_columns b
    quadratics_long = quadratic ∙ rw (e₁, e₂)

    pub entries_room : {x : ℕ} → step_length b ≤ length b → x ≡ m → StepBody b x y z
    entries_room long e = record { long = long; constant = e ∙ e₁; linear = linears_long; quadratic = quadratics_long }

    pub widths_room : length b ≡ ranged_length b → WidthsBody b y z
    widths_room whole = record { long = whole; linear = linears_long; quadratic = quadratics_long }

-- entries that are read from it are those of its step
module _ (b : List ℕ) {m n : ℕ} {c a q : List ℤ} (e₁ : m ≡ step_rows b) (e₂ : n ≡ step_columns b)
    (k : (c ≡ (given_step b).constant) × (a ≡ (given_step b).linear) × (q ≡ (given_step b).quadratic)) where
  entries_are : step_of m n c a q ≡ given_step b
  unfolding given_step
  entries_are = rw (e₁, e₂, k.0, k.1, k.2)

  module _ (s : PolyZonotope) {r : Made} {w₀ w : List ℤ} {e₀ e : List ℕ} where
    pub entries-stepped : SteppedBy (step_of m n c a q) s r w₀ w e₀ e → SteppedBy (given_step b) s r w₀ w e₀ e
    entries-stepped h = subst (λ (p : Step). SteppedBy p s r w₀ w e₀ e) entries_are h

    pub entries-ranged : RangedBy (step_of m n c a q) (given_widths b) (negative_width b) s r w₀ w e₀ e
        → RangedBy (given_step b) (given_widths b) (negative_width b) s r w₀ w e₀ e
    entries-ranged h = subst (λ (p : Step). RangedBy p (given_widths b) (negative_width b) s r w₀ w e₀ e) entries_are h

-- and so are half-widths
pub widths-ranged : (b : List ℕ) (p : Step) {da dq : List ℕ} {negative : Bool}
    → (da ≡ (given_widths b).linear) × (dq ≡ (given_widths b).quadratic) → negative ≡ negative_width b → (s : PolyZonotope) {r : Made} {w₀ w : List ℤ} {e₀ e : List ℕ}
    → RangedBy p (widths_of da dq) negative s r w₀ w e₀ e → RangedBy p (given_widths b) (negative_width b) s r w₀ w e₀ e
unfolding given_widths
widths-ranged b p {da} {dq} {negative} l f s {r} {w₀} {w} {e₀} {e} h =
    subst (λ (x : Bool). RangedBy p (given_widths b) x s r w₀ w e₀ e) f
    (subst (λ (d : Widths). RangedBy p d negative s r w₀ w e₀ e) widths_are h)
  where
    widths_are : widths_of da dq ≡ given_widths b
    widths_are = rw (l.0, l.1)
