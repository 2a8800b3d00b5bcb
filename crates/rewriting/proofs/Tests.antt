-- The tests of a field, as code asks them.
use mathlib.Core.Path.{◌≡◌, refl, sym, ap, ap₂, ◌∙◌}
use mathlib.Core.Bool.{Bool, true, false, not, ◌&&◌, ◌||◌}
use mathlib.Core.List.{List, [], ◌∷◌}
use Prim.Native.Nat.{ℕ, ◌+◌, ◌-◌, ◌≤◌, ◌<◌}
use native.Mathlib.Omega.{arith}
use borrow.Author.Tests.{lt-ltb, le-ltb, eq-eqb, ne_eqb}
use lib.Dec.{ltb, leb, eqb}
use lib.ListN.{length, take, drop}
use Rattle.model.specs.Bytes.{number}
use Rattle.model.specs.Body.{dimension, given_radii}
use Rattle.model.specs.Field.{bad_dimension, all_zero}
use Rattle.model.specs.Run.{tag, body_length, body, cut, field_length}
use Rattle.model.specs.Rewrite.{empty_disturbance}
use Rattle.model.proofs.Rewritten.{cut_stays, other_stays, may_be_empty}
use Rattle.bodies.specs.Fields.{radii_length}
use Rattle.rewriting.specs.Given.{undecided, zero_radii}

-- ---- a body of n radii of 0
pub no_count : (b : List ℕ) → length b ≡ 0 → false ≡ zero_radii b
unfolding zero_radii
no_count [] e = refl
no_count (x ∷ b) e = absurd (omega arith)

module _ (b : List ℕ) where
  pub bad_count : bad_dimension (dimension b) ≡ true → false ≡ zero_radii b
  unfolding zero_radii
  bad_count h = sym (ap (λ x. not x && (eqb (length b) (radii_length b) && all_zero (given_radii b))) h)

  module _ (h : bad_dimension (dimension b) ≡ false) where
    pub bad_size : (length b ≡ radii_length b → ⊥) → false ≡ zero_radii b
    unfolding zero_radii
    bad_size l = sym (ap₂ (λ x y. not x && (y && all_zero (given_radii b))) h (ne_eqb (length b) (radii_length b) l))

    pub all_sized : {x : Bool} → length b ≡ radii_length b → x ≡ all_zero (given_radii b) → x ≡ zero_radii b
    unfolding zero_radii
    all_sized l x = x ∙ sym (ap₂ (λ x y. not x && (y && all_zero (given_radii b))) h (eq-eqb (length b) (radii_length b) l))

-- ---- an empty disturbance
module _ (f : List ℕ) where
  pub empty_cut : length f < field_length f → false ≡ empty_disturbance f
  empty_cut h = sym (cut_stays f h)

  pub empty_other : (tag f ≡ 3 → ⊥) → false ≡ empty_disturbance f
  empty_other h = sym (other_stays f (ap (◌&& leb (body_length f) 25) (ne_eqb (tag f) 3 h)))

  pub empty_whole : {n : ℕ} {r : Bool} → n ≡ number 2 f 1 → 3 + n ≤ length f → tag f ≡ 3
      → r ≡ zero_radii (take (3 + n - 3) (drop 3 f)) → r ≡ empty_disturbance f
  unfolding empty_disturbance cut zero_radii
  empty_whole {n} e l t r =
      let m : 3 + n - 3 ≡ body_length f = omega arith in
      r ∙ ap (λ m. zero_radii (take m (drop 3 f))) m
      ∙ sym (ap₂ (λ x y. not x && (y && zero_radii (body f)))
      (ap₂ ◌||◌ (le-ltb (length f) 3 (omega arith)) (le-ltb (length f) (field_length f) (omega arith))) (eq-eqb (tag f) 3 t))

  -- ---- whether the bytes of a field's start may become one
  pub open_header : length f < 3 → true ≡ undecided f
  unfolding undecided
  open_header h = sym (ap (◌|| (may_be_empty f && ltb (length f) (field_length f))) (lt-ltb (length f) 3 h))

  module _ (h : 3 ≤ length f) where
    pub open_other : (tag f ≡ 3 → ⊥) → false ≡ undecided f
    unfolding undecided
    open_other t =
        sym (ap₂ (λ x y. x || (y && leb (body_length f) 25 && ltb (length f) (field_length f)))
        (le-ltb (length f) 3 h) (ne_eqb (tag f) 3 t))

    pub open_body : {n : ℕ} → n ≡ number 2 f 1 → tag f ≡ 3 → leb n 25 && ltb (length f) (3 + n) ≡ undecided f
    unfolding undecided
    open_body e t =
        ap (λ m. leb m 25 && ltb (length f) (3 + m)) e
        ∙ sym (ap₂ (λ x y. x || (y && leb (body_length f) 25 && ltb (length f) (field_length f)))
        (le-ltb (length f) 3 h) (eq-eqb (tag f) 3 t))
