-- Linear and bilinear forms over ℚ, summed over a list of places, and a quadratic function at a sum of vectors.
use mathlib.Core.Path.{◌≡◌, sym, ◌∙◌, ap, ap₂, fun_ext}
use mathlib.Core.List.{List}
use Prim.Native.Nat.{ℕ}
use Rattle.rational.specs.Rational.{ℚ, ◌+ℚ◌, ◌*ℚ◌}
use Rattle.rational.proofs.Ring.{ring, +ℚ-comm, *ℚ-comm, *ℚ-+ℚ}
use Rattle.rational.specs.Sum.{sum}
use Rattle.rational.proofs.Sum.{sum-+, sum-*, sum_cong, sum-swap}
use Rattle.model.specs.Points.{Vector}

-- ---- the sum of two vectors, and a vector times a number
infixl 65 ◌⊕◌
infixl 70 ◌⊙◌
unfoldable pub ◌⊕◌ : Vector → Vector → Vector
(u ⊕ v) j = u j +ℚ v j

unfoldable pub ◌⊙◌ : Vector → ℚ → Vector
(v ⊙ c) j = v j *ℚ c

-- ---- linear functions of a vector
pub record Linear (f : Vector → ℚ) : Type 0 where
  pub adds : (u v : Vector) → f (u ⊕ v) ≡ f u +ℚ f v
  pub scales : (u : Vector) (c : ℚ) → f (u ⊙ c) ≡ f u *ℚ c

module _ (l : List ℕ) where
  -- ---- the sum over the places j of a_j·x_j
  unfoldable pub dot_ℚ : Vector → Vector → ℚ
  dot_ℚ a x = sum (λ j. a j *ℚ x j) l

  dot_comm : (a x : Vector) → dot_ℚ a x ≡ dot_ℚ x a
  unfolding dot_ℚ
  dot_comm a x = sum_cong (λ j. a j *ℚ x j) (λ j. x j *ℚ a j) l (λ j. *ℚ-comm (a j) (x j))

  dot-+ : (a u v : Vector) → dot_ℚ a (u ⊕ v) ≡ dot_ℚ a u +ℚ dot_ℚ a v
  unfolding dot_ℚ ◌⊕◌
  dot-+ a u v =
      sum_cong (λ j. a j *ℚ (u j +ℚ v j)) (λ j. a j *ℚ u j +ℚ a j *ℚ v j) l (λ j. *ℚ-+ℚ (a j) (u j) (v j))
      ∙ sum-+ (λ j. a j *ℚ u j) (λ j. a j *ℚ v j) l

  dot-* : (a u : Vector) (c : ℚ) → dot_ℚ a (u ⊙ c) ≡ dot_ℚ a u *ℚ c
  unfolding dot_ℚ ◌⊙◌
  dot-* a u c =
      sum_cong (λ j. a j *ℚ (u j *ℚ c)) (λ j. c *ℚ (a j *ℚ u j)) l (λ j. turn (a j) (u j))
      ∙ sum-* c (λ j. a j *ℚ u j) l ∙ *ℚ-comm c (sum (λ j. a j *ℚ u j) l)
    where
      turn : (x y : ℚ) → x *ℚ (y *ℚ c) ≡ c *ℚ (x *ℚ y)
      turn x y = simp ring

  +-dot : (a b x : Vector) → dot_ℚ (a ⊕ b) x ≡ dot_ℚ a x +ℚ dot_ℚ b x
  +-dot a b x = dot_comm (a ⊕ b) x ∙ dot-+ x a b ∙ ap₂ ◌+ℚ◌ (dot_comm x a) (dot_comm x b)

  *-dot : (a : Vector) (c : ℚ) (x : Vector) → dot_ℚ (a ⊙ c) x ≡ dot_ℚ a x *ℚ c
  *-dot a c x = dot_comm (a ⊙ c) x ∙ dot-* x a c ∙ ap (◌*ℚ c) (dot_comm x a)

  module _ (q : ℕ → Vector) where
    -- ---- the sum over the places j and l of q_jl·u_j·v_l
    unfoldable pub row : Vector → Vector
    row v j = dot_ℚ (q j) v

    unfoldable pub bilinear_ℚ : Vector → Vector → ℚ
    bilinear_ℚ u v = dot_ℚ u (row v)

    row-+ : (u v : Vector) → row (u ⊕ v) ≡ row u ⊕ row v
    unfolding row ◌⊕◌
    row-+ u v = fun_ext (λ j. dot-+ (q j) u v)

    row-* : (u : Vector) (c : ℚ) → row (u ⊙ c) ≡ row u ⊙ c
    unfolding row ◌⊙◌
    row-* u c = fun_ext (λ j. dot-* (q j) u c)

    +-bilinear : (u v w : Vector) → bilinear_ℚ (u ⊕ v) w ≡ bilinear_ℚ u w +ℚ bilinear_ℚ v w
    unfolding bilinear_ℚ
    +-bilinear u v w = +-dot u v (row w)

    *-bilinear : (u : Vector) (c : ℚ) (v : Vector) → bilinear_ℚ (u ⊙ c) v ≡ bilinear_ℚ u v *ℚ c
    unfolding bilinear_ℚ
    *-bilinear u c v = *-dot u c (row v)

    bilinear-+ : (u v w : Vector) → bilinear_ℚ u (v ⊕ w) ≡ bilinear_ℚ u v +ℚ bilinear_ℚ u w
    unfolding bilinear_ℚ
    bilinear-+ u v w = ap (dot_ℚ u) (row-+ v w) ∙ dot-+ u (row v) (row w)

    bilinear-* : (u v : Vector) (c : ℚ) → bilinear_ℚ u (v ⊙ c) ≡ bilinear_ℚ u v *ℚ c
    unfolding bilinear_ℚ
    bilinear-* u v c = ap (dot_ℚ u) (row-* v c) ∙ dot-* u (row v) c

    pub bilinear-linear : (u : Vector) → Linear (bilinear_ℚ u)
    bilinear-linear u = record { adds = bilinear-+ u; scales = bilinear-* u }

    -- as one double sum
    pub bilinear_double : (u v : Vector) → bilinear_ℚ u v ≡ sum (λ j. sum (λ k. q j k *ℚ (u j *ℚ v k)) l) l
    unfolding bilinear_ℚ row dot_ℚ
    bilinear_double u v = sum_cong _ _ l (λ j.
        sym (sum-* (u j) (λ k. q j k *ℚ v k) l) ∙ sum_cong _ _ l (λ k. turn (u j) (q j k) (v k)))
      where
        turn : (a b c : ℚ) → a *ℚ (b *ℚ c) ≡ b *ℚ (a *ℚ c)
        turn a b c = simp ring

    -- both ways round
    unfoldable pub both : Vector → Vector → ℚ
    both u v = bilinear_ℚ u v +ℚ bilinear_ℚ v u

    pub both-linear : (u : Vector) → Linear (both u)
    unfolding both
    both-linear u = record { adds = λ v w. simp (+-bilinear, bilinear-+, ring); scales = λ v c. simp (*-bilinear, bilinear-*, ring) }

    pub square : (u : Vector) (c : ℚ) (v : Vector)
        → bilinear_ℚ (u ⊙ c ⊕ v) (u ⊙ c ⊕ v) ≡ bilinear_ℚ u u *ℚ (c *ℚ c) +ℚ both u v *ℚ c +ℚ bilinear_ℚ v v
    unfolding both
    square u c v = simp (+-bilinear, bilinear-+, *-bilinear, bilinear-*, ring)

    -- ---- the function c·(a·x) + q(x, x)
    module _ (c : ℚ) (a : Vector) where
      unfoldable pub quadratic : Vector → ℚ
      quadratic x = c *ℚ dot_ℚ a x +ℚ bilinear_ℚ x x

      -- what is linear in u, about k
      unfoldable pub about : Vector → Vector → ℚ
      about k u = c *ℚ dot_ℚ a u +ℚ both k u

      pub about-linear : (k : Vector) → Linear (about k)
      unfolding about both
      about-linear k = record {
        adds = λ v w. simp (dot-+, +-bilinear, bilinear-+, ring);
        scales = λ v d. simp (dot-*, *-bilinear, bilinear-*, ring);
      }

      pub expand : (k t g d : Vector) → quadratic (k ⊕ t ⊕ (g ⊕ d)) ≡ quadratic k +ℚ (about k t +ℚ bilinear_ℚ t t) +ℚ about k g
          +ℚ (about k d +ℚ (bilinear_ℚ t (g ⊕ d) +ℚ bilinear_ℚ (g ⊕ d) t +ℚ bilinear_ℚ (g ⊕ d) (g ⊕ d)))
      unfolding quadratic about both
      expand k t g d = simp (dot-+, +-bilinear, bilinear-+, ring)

  -- a sum of coefficients
  pub quadratic-+ : (q r : ℕ → Vector) (c : ℚ) (a b x : Vector)
      → quadratic (λ j. q j ⊕ r j) c (a ⊕ b) x ≡ quadratic q c a x +ℚ quadratic r c b x
  unfolding quadratic bilinear_ℚ row ◌⊕◌
  quadratic-+ q r c a b x =
      ap₂ (λ y z. c *ℚ y +ℚ dot_ℚ x z) (+-dot a b x) rows ∙ ap (c *ℚ (dot_ℚ a x +ℚ dot_ℚ b x) +ℚ◌) (dot-+ x (row q x) (row r x))
      ∙ regroup c (dot_ℚ a x) (dot_ℚ b x) (dot_ℚ x (row q x)) (dot_ℚ x (row r x))
    where
      rows : row (λ j. q j ⊕ r j) x ≡ row q x ⊕ row r x
      rows = fun_ext (λ j. +-dot (q j) (r j) x)

      regroup : (c a b u v : ℚ) → c *ℚ (a +ℚ b) +ℚ (u +ℚ v) ≡ c *ℚ a +ℚ u +ℚ (c *ℚ b +ℚ v)
      regroup c a b u v = simp ring

  -- ---- the transposed form
  transpose : (q : ℕ → Vector) (u v : Vector) → bilinear_ℚ q u v ≡ bilinear_ℚ (λ i j. q j i) v u
  transpose q u v =
      bilinear_double q u v ∙ sum-swap (λ j k. q j k *ℚ (u j *ℚ v k)) l l
      ∙ sum_cong _ _ l (λ k. sum_cong _ _ l (λ j. ap (q j k *ℚ◌) (*ℚ-comm (u j) (v k))))
      ∙ sym (bilinear_double (λ i j. q j i) v u)

  -- both ways round, as one row of numbers
  both-row : (q : ℕ → Vector) (k d : Vector) → both q k d ≡ dot_ℚ (λ j. dot_ℚ (q j ⊕ (λ i. q i j)) k) d
  unfolding both bilinear_ℚ row ◌⊕◌
  both-row q k d =
      +ℚ-comm (bilinear_ℚ q k d) (bilinear_ℚ q d k) ∙ ap (bilinear_ℚ q d k +ℚ◌) (transpose q k d)
      ∙ sym (dot-+ d (row q k) (row (λ i j. q j i) k)) ∙ dot_comm d (row q k ⊕ row (λ i j. q j i) k)
      ∙ ap (λ r. dot_ℚ r d) (fun_ext (λ j. sym (+-dot (q j) (λ i. q i j) k)))

  -- what is linear in d, as one row of numbers
  pub about-row : (q : ℕ → Vector) (c : ℚ) (a k d : Vector)
      → about q c a k d ≡ dot_ℚ (λ j. a j *ℚ c +ℚ dot_ℚ (q j ⊕ (λ i. q i j)) k) d
  unfolding about ◌⊕◌ ◌⊙◌
  about-row q c a k d =
      ap₂ ◌+ℚ◌ (*ℚ-comm c (dot_ℚ a d) ∙ sym (*-dot a c d)) (both-row q k d)
      ∙ sym (+-dot (a ⊙ c) (λ j. dot_ℚ (q j ⊕ (λ i. q i j)) k) d)
