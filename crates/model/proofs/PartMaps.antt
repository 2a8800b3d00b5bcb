-- Parts of which each vector is changed alike, a linear function of what parts come to, and sums over the vectors of parts.
use mathlib.Core.Path.{◌≡◌, refl, sym, ◌∙◌, ap, subst, fun_ext}
use mathlib.Core.List.{List, [], ◌∷◌, map}
use Prim.Native.Nat.{ℕ, ◌+◌}
use native.Mathlib.Omega.{arith}
use lib.ListN.{length}
use lib.IntN.{ℤ, pos, nat_abs}
use Rattle.whole.specs.Sum.{sum_by, sum_ℕ}
use Rattle.rational.specs.Rational.{ℚ, ◌+ℚ◌, ◌*ℚ◌, ι, 0ℚ}
use Rattle.rational.proofs.Ring.{*ℚ-zero}
use Rattle.rational.proofs.Pinned.{ι-+}
use Rattle.rational.specs.Bounds.{Within}
use Rattle.rational.proofs.Bounds.{within-ι, within-scaled}
use Rattle.rational.specs.Sum.{sum, All}
use Rattle.rational.proofs.Sum.{sum-map, sum-within, All-imp}
use Rattle.model.specs.Set.{Term, at}
use Rattle.model.specs.Points.{Vector}
use Rattle.model.proofs.Parts.{Part, term_part, generator_part, term_parts, generator_parts, comes, spread, Ranged}
use Rattle.model.proofs.Forms.{Linear, ◌⊕◌, ◌⊙◌}

-- ---- each vector changed by f
abbrev pub through : (List ℤ → List ℤ) → Part → Part
through f p = record { vector = f p.vector; times = p.times; square = p.square }

abbrev pub through_term : (List ℤ → List ℤ) → Term → Term
through_term f t = record { exponents = t.exponents; coefficients = f t.coefficients }

module _ (f : List ℤ → List ℤ) where
  pub term_parts-map : (α : Vector) (ids : List ℕ) (ts : List Term)
      → term_parts α ids (map (through_term f) ts) ≡ map (through f) (term_parts α ids ts)
  unfolding term_parts
  term_parts-map α ids [] = refl
  term_parts-map α ids (t ∷ ts) = ap (through f (term_part α ids t) ∷◌) (term_parts-map α ids ts)

  pub generator_parts-map : (gs : List (List ℤ)) (bs : List ℚ) → generator_parts (map f gs) bs ≡ map (through f) (generator_parts gs bs)
  unfolding generator_parts
  generator_parts-map [] bs = refl
  generator_parts-map (g ∷ gs) [] = refl
  generator_parts-map (g ∷ gs) (b ∷ bs) = ap (through f (generator_part g b) ∷◌) (generator_parts-map gs bs)

  pub spread-map : (ps : List Part) (i : ℕ) → spread (map (through f) ps) i ≡ sum (λ p. ι (at (f p.vector) i) *ℚ p.times) ps
  unfolding spread
  spread-map ps i = sum-map (comes i) (through f) ps

-- ---- a linear function of what parts come to
abbrev pub coordinates : List ℤ → Vector
coordinates v j = ι (at v j)

pub spread_cons : (p : Part) (ps : List Part) → spread (p ∷ ps) ≡ coordinates p.vector ⊙ p.times ⊕ spread ps
unfolding spread sum ◌⊕◌ ◌⊙◌
spread_cons p ps = refl

module _ {f : Vector → ℚ} (L : Linear f) where
  pub linear_nil : f (spread []) ≡ 0ℚ
  unfolding spread sum ◌⊙◌
  linear_nil = ap f (fun_ext (λ j. sym (*ℚ-zero 0ℚ))) ∙ L.scales (spread []) 0ℚ ∙ *ℚ-zero (f (spread []))

  pub linear_cons : (p : Part) (ps : List Part) → f (spread (p ∷ ps)) ≡ f (coordinates p.vector) *ℚ p.times +ℚ f (spread ps)
  linear_cons p ps =
      ap f (spread_cons p ps) ∙ L.adds (coordinates p.vector ⊙ p.times) (spread ps)
      ∙ ap (◌+ℚ f (spread ps)) (L.scales (coordinates p.vector) p.times)

  pub linear-spread : (ps : List Part) → f (spread ps) ≡ sum (λ p. f (coordinates p.vector) *ℚ p.times) ps
  unfolding sum
  linear-spread [] = linear_nil
  linear-spread (p ∷ ps) = linear_cons p ps ∙ ap ((f (coordinates p.vector) *ℚ p.times) +ℚ◌) (linear-spread ps)

-- ---- a sum over the vectors of parts
module _ (f : List ℤ → ℕ) where
  pub term_parts-sum : (α : Vector) (ids : List ℕ) (ts : List Term)
      → sum_ℕ (λ p. f p.vector) (term_parts α ids ts) ≡ sum_ℕ (λ t. f t.coefficients) ts
  unfolding term_parts sum_by
  term_parts-sum α ids [] = refl
  term_parts-sum α ids (t ∷ ts) = ap (f t.coefficients +◌) (term_parts-sum α ids ts)

  pub generator_parts-sum : (gs : List (List ℤ)) (bs : List ℚ) → length bs ≡ length gs
      → sum_ℕ (λ p. f p.vector) (generator_parts gs bs) ≡ sum_ℕ f gs
  unfolding generator_parts sum_by
  generator_parts-sum [] bs e = refl
  generator_parts-sum (g ∷ gs) [] e = absurd (omega (arith, e))
  generator_parts-sum (g ∷ gs) (b ∷ bs) e = ap (f g +◌) (generator_parts-sum gs bs (omega (arith, e)))

pub ι-sum_ℕ : {A : Type 0} (f : A → ℕ) (l : List A) → ι (pos (sum_ℕ f l)) ≡ sum (λ a. ι (pos (f a))) l
unfolding sum_by sum
ι-sum_ℕ f [] = refl
ι-sum_ℕ f (a ∷ l) = ι-+ (pos (f a)) (pos (sum_ℕ f l)) ∙ ap (ι (pos (f a)) +ℚ◌) (ι-sum_ℕ f l)

-- parts come to no more than their sizes together
pub spread-within : {ps : List Part} → All Ranged ps → (j : ℕ)
    → Within (spread ps j) (ι (pos (sum_ℕ (λ p. nat_abs (at p.vector j)) ps)))
unfolding spread
spread-within {ps} h j = subst (Within (spread ps j)) (sym (ι-sum_ℕ (λ p. nat_abs (at p.vector j)) ps))
    (sum-within (All-imp (λ p r. within-scaled (within-ι (at p.vector j)) r.in_one) h))
