-- A sum before finishing has the shape of its summands, written for the identifiers of both, and each of its terms has a factor.
use mathlib.Core.Path.{◌≡◌, refl, sym, ◌∙◌, ap, subst}
use mathlib.Core.List.{List, [], ◌∷◌}
use mathlib.Core.Bool.{Bool, true, false, cond, ◌&&◌}
use Prim.Native.Nat.{ℕ, zero, suc, ◌+◌, ◌<◌, ◌≤◌}
use native.Mathlib.Nat.{suc_inj}
use native.Mathlib.Omega.{arith}
use lib.Dec.{ltb, eqb}
use lib.ListN.{length}
use lib.IntN.{◌+ℤ◌}
use borrow.Author.Tests.{lt-ltb, eq-eqb, ne_eqb}
use Rattle.whole.specs.Tab.{tab, all, length-tab}
use Rattle.rational.specs.Sum.{All}
use Rattle.rational.proofs.Sum.{All-imp, All-map, All-++}
use Rattle.model.specs.Set.{Zonotope}
use Rattle.model.specs.Valid.{factorless}
use Rattle.model.specs.Operations.{union, align, aligned, joined, renumbered, disturb}
use Rattle.model.proofs.Vectors.{longer-length}
use Rattle.model.proofs.Radii.{PartsLong, plus-long}
use Rattle.model.proofs.Lists.{Rising, nothing, first, all_both}
use Rattle.model.proofs.Tests.{all-tab, true-rises}
use Rattle.model.proofs.Shape.{Row, Shaped}
use Rattle.model.proofs.Aligned.{Found, all_found, here, later, found_left, found_right}
use Rattle.model.proofs.Union.{union_rising}
use Rattle.model.proofs.Finished.{Ready}

-- ---- exponents written for the union
pub align-length : (ks es ms : List ℕ) → length (align ks es ms) ≡ length ms
unfolding align
align-length ks es [] = refl
align-length [] es (m ∷ ms) = ap suc (align-length [] es ms)
align-length (k ∷ ks) [] (m ∷ ms) = ap suc (align-length (k ∷ ks) [] ms)
align-length (k ∷ ks) (e ∷ es) (m ∷ ms) = go (eqb k m) (align-length ks es ms) (align-length (k ∷ ks) (e ∷ es) ms) where
  go : (b : Bool) → length (align ks es ms) ≡ length ms → length (align (k ∷ ks) (e ∷ es) ms) ≡ length ms
      → length (cond b (e ∷ align ks es ms) (0 ∷ align (k ∷ ks) (e ∷ es) ms)) ≡ suc (length ms)
  go true p q = ap suc p
  go false p q = ap suc q

-- where every identifier is found, the row is constant as before
align_none : (ms : List ℕ) → factorless (align [] [] ms) ≡ true
unfolding align all
align_none [] = refl
align_none (m ∷ ms) = align_none ms

align_constant : {ks ms : List ℕ} (es : List ℕ) → length es ≡ length ks → Found ks ms → factorless (align ks es ms) ≡ factorless es
unfolding align all
align_constant [] e (all_found ms) = align_none ms
align_constant (x ∷ es) e (all_found ms) = absurd (omega arith)
align_constant [] e (here f) = absurd (omega arith)
align_constant (x ∷ es) e (here {k = k} f) = rw (eq-eqb k k refl) (ap (λ c. eqb x 0 && c) (align_constant es (suc_inj e) f))
align_constant [] e (later l f) = absurd (omega arith)
align_constant (x ∷ es) e (later {k = k} {m = m} l f) = rw (ne_eqb k m (λ q. omega arith)) (align_constant (x ∷ es) e f)

-- ---- the sum
aligned-rows : {n : ℕ} (ms : List ℕ) (s : Zonotope) → Shaped s → s.dimension ≡ n → All (Row (length ms) n) (aligned ms s)
aligned-rows ms s h e = All-map _ (All-imp (λ t r. record {
  exponents-long = align-length s.identifiers t.exponents ms;
  coefficients-long = r.coefficients-long ∙ e;
}) h.rows)

aligned-factors : (ms : List ℕ) (s : Zonotope) → Found s.identifiers ms → Ready s
    → All (λ t. factorless t.exponents ≡ false) (aligned ms s)
aligned-factors ms s a r = All-map _ (All-imp (λ t h. align_constant t.exponents h.0.exponents-long a ∙ h.1)
    (all_both r.shaped.rows r.has_factors))

-- The sum of two sets that are ready for finishing, or finished, is ready.
pub joined-ready : {s u : Zonotope} → Ready s → Ready u → u.dimension ≡ s.dimension → Ready (joined s u)
unfolding joined
joined-ready {s} {u} a b e =
    let ms = union s.identifiers u.identifiers in
    record {
      shaped = record {
        centre-long = longer-length ◌+ℤ◌ s.centre u.centre (a.shaped.centre-long ∙ sym e ∙ sym b.shaped.centre-long)
            ∙ a.shaped.centre-long;
        radii-long = plus-long a.shaped.radii-long (subst (λ n. PartsLong n u.radii) e b.shaped.radii-long);
        rows = All-++ (aligned-rows ms s a.shaped refl) (aligned-rows ms u b.shaped e);
        generators_long = All-++ a.shaped.generators_long (All-imp (λ g h. h ∙ e) b.shaped.generators_long);
      };
      identifiers_rise = union_rising s.identifiers b.identifiers_rise;
      has_factors = All-++ (aligned-factors ms s (found_left s.identifiers u.identifiers
          (true-rises ltb (λ k m h. lt-ltb k m h) a.identifiers_rise)) a)
          (aligned-factors ms u (found_right s.identifiers u.identifiers) b);
    }

-- ---- fresh identifiers
tab_rising : (n : ℕ) (f : ℕ → ℕ) → ((i j : ℕ) → i < j → f i < f j) → Rising ◌<◌ (tab n f)
unfolding tab
tab_rising zero f h = nothing
tab_rising (suc n) f h = first (all-tab n (λ i. f (suc i)) (λ i l. h 0 (suc i) (omega arith)))
    (tab_rising n (λ i. f (suc i)) (λ i j l. h (suc i) (suc j) (omega arith)))

-- The set with the identifiers next, next + 1 .. is ready where the set is.
pub renumbered-ready : (next : ℕ) {u : Zonotope} → Ready u → Ready (renumbered next u)
unfolding renumbered
renumbered-ready next {u} r = record {
  shaped = record {
    centre-long = r.shaped.centre-long;
    radii-long = r.shaped.radii-long;
    rows = All-imp (λ t h. record {
      exponents-long = h.exponents-long ∙ sym (length-tab _ _);
      coefficients-long = h.coefficients-long;
    }) r.shaped.rows;
    generators_long = r.shaped.generators_long;
  };
  identifiers_rise = tab_rising _ _ (λ i j l. omega arith);
  has_factors = r.has_factors;
}

pub renumbered-dimension : (next : ℕ) (u : Zonotope) → (renumbered next u).dimension ≡ u.dimension
unfolding renumbered
renumbered-dimension next u = refl

-- its identifiers are next .. next + n - 1 for its n factors
pub renumbered_in : (next : ℕ) (u : Zonotope)
    → All (λ k. (next ≤ k) × (k < next + length u.identifiers)) (renumbered next u).identifiers
unfolding renumbered
renumbered_in next u = all-tab _ _ (λ i l. (omega arith, omega arith))

-- ---- disturbed
pub disturbed_shaped : (r : List ℕ) {s : Zonotope} → length r ≡ s.dimension → Shaped s → Shaped (disturb r s)
unfolding disturb
disturbed_shaped r {s} e h = record {
  centre-long = h.centre-long;
  radii-long = record {
    carried_long = h.radii-long.carried_long;
    rounded-long = h.radii-long.rounded-long;
    folded_long = h.radii-long.folded_long;
    given-long = longer-length ◌+◌ s.radii.given r (h.radii-long.given-long ∙ sym e) ∙ h.radii-long.given-long;
  };
  rows = h.rows;
  generators_long = h.generators_long;
}
