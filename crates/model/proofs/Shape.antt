-- The shape of a set, what its counts, ranges and order come to as facts, and valid sets: those that no test refuses.
use mathlib.Core.Path.{◌≡◌, refl, ap}
use mathlib.Core.Bool.{true, false, not, ◌||◌}
use Prim.Native.Nat.{ℕ, ◌<◌, ◌≤◌}
use native.Mathlib.Nat.{lt_trans}
use native.Mathlib.Omega.{arith}
use lib.Dec.{ltb, eqb}
use lib.ListN.{length}
use borrow.Author.Tests.{ltb-true, ltb-false, lt-ltb, le-ltb, eqb-false, ne_eqb, not-false}
use Rattle.whole.specs.Tab.{tab, any, all}
use Rattle.rational.specs.Sum.{All}
use Rattle.rational.proofs.Sum.{All-imp}
use Rattle.model.specs.Limits.{max_dimension, max_factors, max_terms, max_generators, max_exponent}
use Rattle.model.specs.Set.{Term, Zonotope}
use Rattle.model.specs.Valid.{Order, less, equal, greater, order, is_less, rises, zeros, factorless, occurs}
use Rattle.model.specs.Valid.{bad_counts, bad_range, bad_order, is_too_wide}
use Rattle.model.specs.Finish.{too_high}
use Rattle.model.proofs.Radii.{PartsLong}
use Rattle.model.proofs.Order.{order_trans}
use Rattle.model.proofs.Lists.{Rising}
use Rattle.model.proofs.Tests.{or_false, false_or, any_false, false-any, all_true, true-all, all-tab, tab-all, rises-true}
use Rattle.model.proofs.Tests.{true-rises}

-- ---- shape: a term of p factors in n coordinates; every vector of a set has its dimension
pub record Row (p n : ℕ) (t : Term) : Type 0 where
  pub exponents-long : length t.exponents ≡ p
  pub coefficients-long : length t.coefficients ≡ n

pub record Shaped (s : Zonotope) : Type 0 where
  pub centre-long : length s.centre ≡ s.dimension
  pub radii-long : PartsLong s.dimension s.radii
  pub rows : All (Row (length s.identifiers) s.dimension) s.terms
  pub generators_long : All (λ g. length g ≡ s.dimension) s.generators

-- ---- the tests as facts
pub record Counts (s : Zonotope) : Type 0 where
  pub dimension_some : 0 < s.dimension
  pub dimension_few : s.dimension ≤ max_dimension
  pub factors_few : length s.identifiers ≤ max_factors
  pub terms_few : length s.terms ≤ max_terms
  pub generators_few : length s.generators ≤ max_generators

-- no exponent is too large
abbrev pub Low : Term → Type 0
Low t = All (◌≤ max_exponent) t.exponents

pub record Ranges (largest : ℕ) (s : Zonotope) : Type 0 where
  pub identifiers_in : All (λ k. (0 < k) × (k ≤ largest)) s.identifiers
  pub exponents_in : All Low s.terms

-- the exponents of t come before those of u
abbrev pub Before : Term → Term → Type 0
Before t u = order t.exponents u.exponents ≡ less

-- a term that belongs in a set: it has a factor and is not zero
pub record Proper (t : Term) : Type 0 where
  pub has_factor : factorless t.exponents ≡ false
  pub not-zero : zeros t.coefficients ≡ false

pub record Ordered (s : Zonotope) : Type 0 where
  pub identifiers_rise : Rising ◌<◌ s.identifiers
  pub terms_rise : Rising Before s.terms
  pub terms_proper : All Proper s.terms
  pub generators_proper : All (λ g. zeros g ≡ false) s.generators
  pub factors_occur : (j : ℕ) → j < length s.identifiers → occurs s.terms j ≡ true

-- a set that no test refuses, with identifiers up to the largest
pub record Valid (largest : ℕ) (s : Zonotope) : Type 0 where
  pub shaped : Shaped s
  pub counts : bad_counts s ≡ false
  pub ranges : bad_range largest s ≡ false
  pub ordered : bad_order s ≡ false
  pub narrow : is_too_wide s ≡ false

-- ---- from a test to the facts, and back
pub counted : (s : Zonotope) → bad_counts s ≡ false → Counts s
unfolding bad_counts
counted s e =
    let a = or_false _ (ltb max_generators (length s.generators)) e in
    let b = or_false _ (ltb max_terms (length s.terms)) a.0 in
    let c = or_false _ (ltb max_factors (length s.identifiers)) b.0 in
    let d = or_false (eqb s.dimension 0) (ltb max_dimension s.dimension) c.0 in
    let z = eqb-false s.dimension 0 d.0 in
    record {
      dimension_some = omega arith;
      dimension_few = ltb-false _ _ d.1;
      factors_few = ltb-false _ _ c.1;
      terms_few = ltb-false _ _ b.1;
      generators_few = ltb-false _ _ a.1;
    }

not_none : {k : ℕ} → 0 < k → k ≡ 0 → ⊥
not_none h e = omega arith

pub counts-false : {s : Zonotope} → Counts s → bad_counts s ≡ false
unfolding bad_counts
counts-false {s} c =
    false_or (false_or (false_or (false_or (ne_eqb _ 0 (not_none c.dimension_some)) (le-ltb _ _ c.dimension_few))
    (le-ltb _ _ c.factors_few)) (le-ltb _ _ c.terms_few)) (le-ltb _ _ c.generators_few)

pub low : (t : Term) → too_high t ≡ false → Low t
low t e = All-imp (λ k h. ltb-false _ _ h) (any_false _ t.exponents e)

pub not-high : (t : Term) → Low t → too_high t ≡ false
not-high t h = false-any _ (All-imp (λ k l. le-ltb _ _ l) h)

pub ranged : (largest : ℕ) (s : Zonotope) → bad_range largest s ≡ false → Ranges largest s
unfolding bad_range
ranged largest s e =
    let a = or_false _ (any too_high s.terms) e in
    record {
      identifiers_in = All-imp (λ k h. identifier k (or_false (eqb k 0) (ltb largest k) h)) (any_false _ s.identifiers a.0);
      exponents_in = All-imp low (any_false too_high s.terms a.1);
    }
  where
    identifier : (k : ℕ) → (eqb k 0 ≡ false) × (ltb largest k ≡ false) → (0 < k) × (k ≤ largest)
    identifier k h = let z = eqb-false k 0 h.0 in (omega arith, ltb-false _ _ h.1)

pub ranges_false : {largest : ℕ} {s : Zonotope} → Ranges largest s → bad_range largest s ≡ false
unfolding bad_range
ranges_false {largest} {s} r =
    false_or (false-any _ (All-imp (λ k h. false_or (ne_eqb k 0 (not_none h.0)) (le-ltb _ _ h.1)) r.identifiers_in))
    (false-any too_high (All-imp not-high r.exponents_in))

is-less : (o : Order) → is_less o ≡ true → o ≡ less
is-less less e = refl
is-less equal e = cc
is-less greater e = cc

pub in_order : (s : Zonotope) → bad_order s ≡ false → Ordered s
unfolding bad_order
in_order s e =
    let a = or_false _ (not (all (occurs s.terms) (tab (length s.identifiers) (λ j. j)))) e in
    let b = or_false _ (any zeros s.generators) a.0 in
    let c = or_false _ (any (λ t. factorless t.exponents || zeros t.coefficients) s.terms) b.0 in
    let d = or_false (not (rises ltb s.identifiers)) _ c.0 in
    record {
      identifiers_rise = rises-true ltb (λ k m h. ltb-true k m h) (λ j k m p q. lt_trans p q) s.identifiers (not-false _ d.0);
      terms_rise = rises-true _ (λ t u h. is-less _ h) (λ t u v p q. order_trans _ _ _ p q) s.terms (not-false _ d.1);
      terms_proper = All-imp (λ t h. proper t (or_false (factorless t.exponents) (zeros t.coefficients) h))
          (any_false _ s.terms c.1);
      generators_proper = any_false zeros s.generators b.1;
      factors_occur = tab-all (length s.identifiers) (λ j. j) (all_true _ _ (not-false _ a.1));
    }
  where
    proper : (t : Term) → (factorless t.exponents ≡ false) × (zeros t.coefficients ≡ false) → Proper t
    proper t h = record { has_factor = h.0; not-zero = h.1 }

pub order-false : {s : Zonotope} → Ordered s → bad_order s ≡ false
unfolding bad_order
order-false {s} o =
    false_or (false_or (false_or (false_or (ap not (true-rises ltb (λ k m h. lt-ltb k m h) o.identifiers_rise))
    (ap not (true-rises _ (λ t u h. ap is_less h) o.terms_rise)))
    (false-any _ (All-imp (λ t h. false_or h.has_factor h.not-zero) o.terms_proper)))
    (false-any zeros o.generators_proper))
    (ap not (true-all _ (all-tab (length s.identifiers) (λ j. j) o.factors_occur)))
