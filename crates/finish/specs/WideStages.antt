-- Each stage of finishing after collecting, on lists of terms and of generators: for wide rows it gives what it gives for rows of the set's
-- own width, widened.
use Rattle.std.specs.Prelude.{◌≡◌, List, ◌∷◌, map, Bool, false, not, ℕ, ◌≤◌, ltb, length, ℤ, pos}
use Rattle.std.proofs.Math.Path.{refl, ap₂, fun_ext}
use Rattle.std.proofs.Common.{sym, ◌∙◌, ap, zero-add, arith}
use Rattle.std.proofs.lemmas.Simd.{map-map}
use Rattle.std.proofs.Math.Bool.{◌||◌}
use Rattle.std.proofs.Math.ListN.{get_or-eq_default}
use Rattle.whole.specs.Sum.{Monoid, monoid_ℕ, monoid_ℤ}
use Rattle.whole.specs.Tab.{any}
use Rattle.rational.specs.Power.{even}
use Rattle.rational.specs.Sum.{All, none, more}
use Rattle.rational.proofs.Sum.{All-imp}
use Rattle.model.specs.Limits.{max_exponent}
use Rattle.model.specs.Set.{Term, longer}
use Rattle.model.specs.Valid.{is_zero, zeros, occurs}
use Rattle.model.specs.Finish.{Core, those, all_even, shift, growth, fold_vector}
use Rattle.model.specs.Finish.{fold_term, fold_generator, fold_all, too_high, size, fold_until, keep_exponents}
use Rattle.model.proofs.Shape.{Row}
use Rattle.model.proofs.FoldCovers.{shift_zero, growth-zero}
use Rattle.model.proofs.Tests.{false-any}
use Rattle.finish.specs.Wide.{padded, wide_vector, wide_term, wide_coefficients, wide_core, wide_folded}
use Rattle.finish.specs.Padded.{padded-at, padded-all, padded-any, padded-map, padded-longer, padded-size, padded_keep}
use Rattle.finish.specs.Mapped.{those_mapped, all_mapped, until_mapped}

-- ---- folding a vector, of any length
-- a sum to which f of each number of a vector is added
sum-wide : {M : Type 0} {z : M} {add : M → M → M} (L : Monoid M z add) (f : ℤ → M) → f (pos 0) ≡ z → (n : ℕ) (u : List M) (v : List ℤ)
    → longer add (padded n z u) (map f (padded n (pos 0) v)) ≡ padded n z (longer add u (map f v))
sum-wide {z = z} {add = add} L f e n u v =
    ap (longer add (padded n z u)) (padded-map (pos 0) f n v ∙ ap (λ d. padded n d (map f v)) e) ∙ padded-longer L n u (map f v)

pub vector_wide : (b : Bool) (v : List ℤ) (k : Core) → fold_vector b (wide_vector v) (wide_core k) ≡ wide_core (fold_vector b v k)
unfolding fold_vector
vector_wide b v k = λ i. record {
  centre = sum-wide monoid_ℤ (shift b) (shift_zero b) 6 k.centre v i;
  radii = sum-wide monoid_ℕ (growth b) (growth-zero b) 6 k.radii v i;
}

pub zeros-wide : (v : List ℤ) → length v ≤ 6 → zeros (wide_vector v) ≡ zeros v
zeros-wide v h = padded-all (pos 0) is_zero refl 6 v h

map_same : {A B : Type 0} {f g : A → B} {l : List A} → All (λ a. f a ≡ g a) l → map f l ≡ map g l
map_same none = refl
map_same (more e t) = ap₂ ◌∷◌ e (map_same t)

-- ---- rows of at most 12 exponents and 6 numbers
module _ {p n : ℕ} (factors : p ≤ 12) (coordinates : n ≤ 6) where
  -- ---- what a stage asks of a term
  few : (t : Term) → Row p n t → length t.exponents ≤ 12
  few t r = omega arith

  short : (t : Term) → Row p n t → length t.coefficients ≤ 6
  short t r = omega arith

  pub high-wide : (t : Term) → Row p n t → too_high (wide_term t) ≡ too_high t
  high-wide t r = padded-any 0 (λ e. ltb max_exponent e) refl 12 t.exponents (few t r)

  pub even-wide : (t : Term) → Row p n t → all_even (padded 12 0 t.exponents) ≡ all_even t.exponents
  unfolding even
  even-wide t r = padded-all 0 even refl 12 t.exponents (few t r)

  pub fold-wide : (t : Term) → Row p n t → (k : Core) → fold_term (wide_term t) (wide_core k) ≡ wide_core (fold_term t k)
  fold-wide t r k =
      ap (λ b. fold_vector b (wide_vector t.coefficients) (wide_core k)) (even-wide t r)
      ∙ vector_wide (all_even t.exponents) t.coefficients k

  -- ---- 2. terms and generators that aren't zero
  pub nonzero-terms-wide : {ts : List Term} → All (Row p n) ts
      → those (λ t. not (zeros t.coefficients)) (map wide_term ts) ≡ map wide_term (those (λ t. not (zeros t.coefficients)) ts)
  nonzero-terms-wide rows = those_mapped wide_term _ _ (All-imp (λ t r. ap not (zeros-wide t.coefficients (short t r))) rows)

  pub nonzero_generators_wide : {gs : List (List ℤ)} → All (λ g. length g ≡ n) gs
      → those (λ g. not (zeros g)) (map wide_vector gs) ≡ map wide_vector (those (λ g. not (zeros g)) gs)
  nonzero_generators_wide long = those_mapped wide_vector _ _ (All-imp (λ g e. ap not (zeros-wide g (omega arith))) long)

  -- ---- 3. terms with an exponent that is too large, those without, and folding
  pub high-terms-wide : {ts : List Term} → All (Row p n) ts → those too_high (map wide_term ts) ≡ map wide_term (those too_high ts)
  high-terms-wide rows = those_mapped wide_term too_high too_high (All-imp high-wide rows)

  pub low-terms-wide : {ts : List Term} → All (Row p n) ts
      → those (λ t. not (too_high t)) (map wide_term ts) ≡ map wide_term (those (λ t. not (too_high t)) ts)
  low-terms-wide rows = those_mapped wide_term _ _ (All-imp (λ t r. ap not (high-wide t r)) rows)

  pub fold-terms-wide : {ts : List Term} → All (Row p n) ts → (k : Core)
      → fold_all fold_term (map wide_term ts) (wide_core k) ≡ wide_core (fold_all fold_term ts k)
  fold-terms-wide rows k = all_mapped wide_term fold_term fold_term (All-imp fold-wide rows) k

  -- ---- 4. the smallest terms and generators, until a limit is met
  module _ (weights : List ℕ) (limit : ℕ) where
    pub until_terms_wide : {ts : List Term} → All (Row p n) ts → (k : Core)
        → fold_until (λ t. size weights t.coefficients) fold_term limit (wide_core k) (map wide_term ts)
        ≡ wide_folded wide_term (fold_until (λ t. size weights t.coefficients) fold_term limit k ts)
    until_terms_wide rows k =
        until_mapped wide_term fold_term fold_term _ _ limit
        (All-imp (λ t r. padded-size weights 6 t.coefficients (short t r)) rows) (All-imp fold-wide rows) k

    pub until_generators_wide : {gs : List (List ℤ)} → All (λ g. length g ≡ n) gs → (k : Core)
        → fold_until (size weights) fold_generator limit (wide_core k) (map wide_vector gs)
        ≡ wide_folded wide_vector (fold_until (size weights) fold_generator limit k gs)
    until_generators_wide long k =
        until_mapped wide_vector fold_generator fold_generator _ _ limit
        (All-imp (λ g e. padded-size weights 6 g (omega arith)) long) (All-imp (λ g e. vector_wide false g) long) k

  -- ---- 5. factors that occur in no term
  pub occurs-wide : {ts : List Term} → All (Row p n) ts → (j : ℕ) → occurs (map wide_term ts) j ≡ occurs ts j
  unfolding any
  occurs-wide none j = refl
  occurs-wide (more {a = t} r rows) j = ap₂ ◌||◌ (ap (ltb 0) (padded-at 0 12 t.exponents (few t r) j)) (occurs-wide rows j)

  pub occurs_past : {ts : List Term} → All (Row p n) ts → (j : ℕ) → p ≤ j → occurs ts j ≡ false
  occurs_past rows j h = false-any _ (All-imp (λ t r. ap (ltb 0) (get_or-eq_default t.exponents 0 (omega arith))) rows)

  pub keep_wide : (q : ℕ → Bool) → ((j : ℕ) → p ≤ j → q j ≡ false) → (t : Term) → Row p n t
      → keep_exponents q (wide_term t) ≡ wide_coefficients (keep_exponents q t)
  keep_wide q past t r = λ i. record {
    exponents = padded_keep q 12 0 t.exponents (few t r) (λ j h. ap q (zero-add j) ∙ past j (omega arith)) i;
    coefficients = wide_vector t.coefficients;
  }

  pub unused_wide : {ts : List Term} → All (Row p n) ts
      → map (keep_exponents (occurs (map wide_term ts))) (map wide_term ts) ≡ map wide_coefficients (map (keep_exponents (occurs ts)) ts)
  unused_wide {ts} rows =
      ap (λ (q : ℕ → Bool). map (keep_exponents q) (map wide_term ts)) (fun_ext (occurs-wide rows))
      ∙ map-map _ _ ts ∙ map_same (All-imp (keep_wide (occurs ts) (occurs_past rows)) rows) ∙ sym (map-map _ _ ts)
