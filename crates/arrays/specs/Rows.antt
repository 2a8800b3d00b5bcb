-- Rows of a list, and sums and tests over them, by place, as the code takes them.
use Rattle.std.specs.Prelude.{◌≡◌, List, Bool, ◌||◌, ltb, eqb, get_or, ℤ, pos, nat_abs}
use Rattle.std.proofs.Math.Path.{refl, sym, ap}
use Rattle.std.proofs.Common.{◌∙◌}
use Prim.Native.Nat.{ℕ, zero, suc, ◌+◌, ◌*◌}
use Rattle.whole.specs.Sum.{Monoid, sum_by, upto_by, upto_ℕ}
use Rattle.whole.specs.Tab.{tab}
use Rattle.model.specs.Limits.{record_identifiers, max_exponent}

-- the first k of row t of a list of rows of w
abbrev pub row : {A : Type 0} → ℕ → A → List A → ℕ → ℕ → List A
row w d xs t k = tab k (λ i. get_or xs (t * w + i) d)

-- an identifier that isn't in a record's range, an exponent that is too large
abbrev pub identifier_out : ℕ → Bool
identifier_out k = eqb k 0 || ltb record_identifiers k

abbrev pub exponent_out : ℕ → Bool
exponent_out k = ltb max_exponent k

-- the sizes at place i of the first rows of 6, added up
abbrev pub column_sizes : List ℤ → ℕ → ℕ → ℕ
column_sizes xs i rows = upto_ℕ (λ t. nat_abs (get_or xs (t * 6 + i) (pos 0))) rows

-- the most that a radius can be: four parts of 32 bits together
abbrev pub most_radius : ℕ
most_radius = 17179869180

-- the span of coordinate i of a record with h terms and q generators: its centre's size, the sizes of its two columns, its radius
abbrev pub span_at : List ℤ → List ℤ → List ℤ → List ℕ → ℕ → ℕ → ℕ → ℕ
span_at centre coefficients vectors radii h q i =
    nat_abs (get_or centre i (pos 0)) + column_sizes coefficients i h + column_sizes vectors i q + get_or radii i 0

-- ---- a sum over a table is one over its places
module _ {M : Type 0} {z : M} {add : M → M → M} (L : Monoid M z add) where
  upto_first : (h : ℕ → M) (n : ℕ) → upto_by z add h (suc n) ≡ add (h 0) (upto_by z add (λ i. h (suc i)) n)
  unfolding upto_by
  upto_first h zero = L.comm z (h 0)
  upto_first h (suc n) =
      ap (λ x. add x (h (suc n))) (upto_first h n) ∙ L.assoc (h 0) (upto_by z add (λ i. h (suc i)) n) (h (suc n))

  pub sum-tab : {A : Type 0} (f : A → M) (n : ℕ) (g : ℕ → A) → sum_by z add f (tab n g) ≡ upto_by z add (λ i. f (g i)) n
  unfolding sum_by tab upto_by
  sum-tab f zero g = refl
  sum-tab f (suc n) g = ap (add (f (g 0))) (sum-tab f n (λ i. g (suc i))) ∙ sym (upto_first (λ i. f (g i)) n)
