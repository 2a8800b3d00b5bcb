-- The stages of finishing that leave the factors alone: collecting, then dropping and folding, which only take terms and generators away.
use mathlib.Core.Path.{◌≡◌, refl, sym, ◌∙◌}
use mathlib.Core.List.{List, map}
use mathlib.Core.Bool.{Bool, false}
use Prim.Native.Nat.{ℕ, ◌+◌, ◌≤◌}
use lib.ListN.{length, length-map}
use lib.IntN.{ℤ, ◌+ℤ◌}
use borrow.Author.Tests.{not-true}
use Rattle.rational.specs.Sum.{All}
use Rattle.rational.proofs.Sum.{All-imp}
use Rattle.model.specs.Set.{Term, Zonotope, with_folded}
use Rattle.model.specs.Valid.{factorless, zeros}
use Rattle.model.specs.Finish.{Core, plus_term, shift, growth, fold_vector, fold_term, fold_generator}
use Rattle.model.specs.Finish.{too_high, core, collect_terms, drop_zero_terms, drop_zero_generators, fold_high, fold_terms}
use Rattle.model.specs.Finish.{fold_generators, with_terms, with_generators}
use Rattle.model.proofs.Vectors.{longer-length}
use Rattle.model.proofs.Lists.{Rising, Sublist, sublist_refl, sublist_trans, sublist_all}
use Rattle.model.proofs.Shape.{Row, Shaped, Before, Low, low}
use Rattle.model.proofs.Selected.{those_sublist, those-pass, all-core, times_core, times_sublist, until_length}
use Rattle.model.proofs.Collected.{collect-all, collect_rising}

-- ---- collecting
-- what u is, made of s by collecting: its terms are rows of its shape, with a factor each, that rise
pub record Collected (s u : Zonotope) : Type 0 where
  pub same-dimension : u.dimension ≡ s.dimension
  pub same_identifiers : u.identifiers ≡ s.identifiers
  pub shaped : Shaped u
  pub has_factors : All (λ t. factorless t.exponents ≡ false) u.terms
  pub terms_rise : Rising Before u.terms

add_row : {p n : ℕ} (u t : Term) → Row p n u → Row p n t → Row p n (plus_term u t)
add_row u t a b = record {
  exponents-long = a.exponents-long;
  coefficients-long =
      longer-length ◌+ℤ◌ u.coefficients t.coefficients (a.coefficients-long ∙ sym b.coefficients-long) ∙ a.coefficients-long;
}

pub collected : {s : Zonotope} → Shaped s → All (λ t. factorless t.exponents ≡ false) s.terms → Collected s (collect_terms s)
unfolding collect_terms
collected {s} h f = record {
  same-dimension = refl;
  same_identifiers = refl;
  shaped = record {
    centre-long = h.centre-long;
    radii-long = h.radii-long;
    rows = collect-all add_row h.rows;
    generators_long = h.generators_long;
  };
  has_factors = collect-all (λ u t a b. a) f;
  terms_rise = collect_rising s.terms;
}

-- ---- what a stage takes away
-- u is s with some terms and generators gone, and perhaps another centre and other radii
pub record Lessened (s u : Zonotope) : Type 0 where
  pub same-dimension : u.dimension ≡ s.dimension
  pub same_identifiers : u.identifiers ≡ s.identifiers
  pub terms_among : Sublist u.terms s.terms
  pub generators_among : Sublist u.generators s.generators
  pub shapes : Shaped s → Shaped u

pub lessened_trans : {s t u : Zonotope} → Lessened s t → Lessened t u → Lessened s u
lessened_trans a b = record {
  same-dimension = b.same-dimension ∙ a.same-dimension;
  same_identifiers = b.same_identifiers ∙ a.same_identifiers;
  terms_among = sublist_trans b.terms_among a.terms_among;
  generators_among = sublist_trans b.generators_among a.generators_among;
  shapes = λ h. b.shapes (a.shapes h);
}

-- centre and folded parts keep their lengths
record CoreLong (n : ℕ) (k : Core) : Type 0 where
  pub centre-long : length k.centre ≡ n
  pub folded_long : length k.radii ≡ n

fold_sized : {n : ℕ} (b : Bool) (v : List ℤ) (k : Core) → length v ≡ n → CoreLong n k → CoreLong n (fold_vector b v k)
unfolding fold_vector
fold_sized b v k e h = record {
  centre-long = longer-length ◌+ℤ◌ k.centre (map (shift b) v) (h.centre-long ∙ sym e ∙ sym (length-map v (shift b))) ∙ h.centre-long;
  folded_long = longer-length ◌+◌ k.radii (map (growth b) v) (h.folded_long ∙ sym e ∙ sym (length-map v (growth b))) ∙ h.folded_long;
}

term_sized : {p n : ℕ} (t : Term) (k : Core) → Row p n t → CoreLong n k → CoreLong n (fold_term t k)
term_sized t k r h = fold_sized _ t.coefficients k r.coefficients-long h

-- a core of the set's own lengths
abbrev Fits : Zonotope → Core → Type 0
Fits s k = Shaped s → CoreLong s.dimension k

own-core : {s : Zonotope} → Fits s (core s)
own-core h = record { centre-long = h.centre-long; folded_long = h.radii-long.folded_long }

lessened : {s : Zonotope} {k : Core} {ts : List Term} {gs : List (List ℤ)} → Sublist ts s.terms → Sublist gs s.generators → Fits s k
    → Lessened s (record {
      dimension = s.dimension;
      identifiers = s.identifiers;
      centre = k.centre;
      terms = ts;
      generators = gs;
      radii = with_folded s.radii k.radii;
    })
lessened a b f = record {
  same-dimension = refl;
  same_identifiers = refl;
  terms_among = a;
  generators_among = b;
  shapes = λ h. record {
    centre-long = (f h).centre-long;
    radii-long = record {
      carried_long = h.radii-long.carried_long;
      rounded-long = h.radii-long.rounded-long;
      folded_long = (f h).folded_long;
      given-long = h.radii-long.given-long;
    };
    rows = sublist_all a h.rows;
    generators_long = sublist_all b h.generators_long;
  };
}

-- from terms alone, and from generators alone
fewer_terms : {s : Zonotope} {k : Core} {ts : List Term} → Sublist ts s.terms → Fits s k
    → Lessened s (with_terms s (record { core = k; kept = ts }))
fewer_terms {s} a f = lessened a (sublist_refl s.generators) f

fewer_generators : {s : Zonotope} {k : Core} {gs : List (List ℤ)} → Sublist gs s.generators → Fits s k
    → Lessened s (with_generators s (record { core = k; kept = gs }))
fewer_generators {s} b f = lessened (sublist_refl s.terms) b f

-- ---- each stage, and what it leaves
pub zero-terms : (s : Zonotope) → Lessened s (drop_zero_terms s)
unfolding drop_zero_terms
zero-terms s = fewer_terms (those_sublist _ s.terms) own-core

pub zero-terms_gone : (s : Zonotope) → All (λ t. zeros t.coefficients ≡ false) (drop_zero_terms s).terms
unfolding drop_zero_terms
zero-terms_gone s = All-imp (λ t h. not-true _ h) (those-pass _ s.terms)

pub zero_generators : (s : Zonotope) → Lessened s (drop_zero_generators s)
unfolding drop_zero_generators
zero_generators s = fewer_generators (those_sublist _ s.generators) own-core

pub zero_generators_gone : (s : Zonotope) → All (λ g. zeros g ≡ false) (drop_zero_generators s).generators
unfolding drop_zero_generators
zero_generators_gone s = All-imp (λ t h. not-true _ h) (those-pass _ s.generators)

pub high-terms : (s : Zonotope) → Lessened s (fold_high s)
unfolding fold_high
high-terms s = fewer_terms (those_sublist _ s.terms)
    (λ h. all-core fold_term term_sized (sublist_all (those_sublist too_high s.terms) h.rows) (own-core h))

pub high-terms_gone : (s : Zonotope) → All Low (fold_high s).terms
unfolding fold_high
high-terms_gone s = All-imp (λ t h. low t (not-true _ h)) (those-pass _ s.terms)

module _ (weights : List ℕ) (limit : ℕ) (s : Zonotope) where
  pub small_terms : Lessened s (fold_terms weights limit s)
  unfolding fold_terms
  small_terms = fewer_terms (times_sublist _ fold_term _ (core s) s.terms)
      (λ h. times_core fold_term term_sized _ _ h.rows (own-core h))

  pub terms-left : length (fold_terms weights limit s).terms ≤ limit
  unfolding fold_terms
  terms-left = until_length _ fold_term limit (core s) s.terms

  pub small_generators : Lessened s (fold_generators weights limit s)
  unfolding fold_generators
  small_generators = fewer_generators (times_sublist _ fold_generator _ (core s) s.generators)
      (λ h. times_core fold_generator (fold_sized false) _ _ h.generators_long (own-core h))

  pub generators_left : length (fold_generators weights limit s).generators ≤ limit
  unfolding fold_generators
  generators_left = until_length _ fold_generator limit (core s) s.generators
