-- Finishing: from a set of the right shape, whose identifiers rise and whose terms have factors, a set that is in order and within the
-- limits.
use mathlib.Core.Path.{◌≡◌, refl, sym, ◌∙◌, ap, ap₂, subst}
use mathlib.Core.List.{List, map}
use mathlib.Core.Bool.{Bool, false, ◌||◌}
use Prim.Native.Nat.{ℕ, ◌<◌, ◌≤◌}
use native.Mathlib.Nat.{le_trans}
use native.Mathlib.Omega.{arith}
use lib.Dec.{ltb}
use lib.ListN.{length, length-map}
use Rattle.whole.specs.Tab.{any}
use Rattle.rational.specs.Sum.{All, none, more}
use Rattle.rational.proofs.Sum.{All-imp, All-map}
use Rattle.model.specs.Set.{Term, Zonotope}
use Rattle.model.specs.Valid.{factorless, zeros, occurs}
use Rattle.model.specs.Finish.{keep_at, keep_exponents, collect_terms, drop_zero_terms, drop_zero_generators, fold_high, fold_terms}
use Rattle.model.specs.Finish.{fold_generators, drop_unused, finish}
use Rattle.model.proofs.Lists.{Rising, Sublist, sublist_all, sublist_rising, sublist_length, all_both, rising_map}
use Rattle.model.proofs.Shape.{Shaped, Before, Low, Proper, Ordered}
use Rattle.model.proofs.Stages.{collected, lessened_trans, zero-terms, zero-terms_gone, zero_generators}
use Rattle.model.proofs.Stages.{zero_generators_gone, high-terms, high-terms_gone, small_terms, terms-left, small_generators}
use Rattle.model.proofs.Stages.{generators_left}
use Rattle.model.proofs.Unused.{keep_sublist, keep_length, keep_constant, keep_order, Origin, origin, terms-clear}

-- what finishing asks of a set
pub record Ready (s : Zonotope) : Type 0 where
  pub shaped : Shaped s
  pub identifiers_rise : Rising ◌<◌ s.identifiers
  pub has_factors : All (λ t. factorless t.exponents ≡ false) s.terms

pub ordered_ready : {s : Zonotope} → Shaped s → Ordered s → Ready s
ordered_ready h o =
    record { shaped = h; identifiers_rise = o.identifiers_rise; has_factors = All-imp (λ t p. p.has_factor) o.terms_proper }

-- what u, made of s, is before its unused factors are dropped
record Reduced (term_count_limit generator_count_limit : ℕ) (s u : Zonotope) : Type 0 where
  pub shaped : Shaped u
  pub terms_rise : Rising Before u.terms
  pub terms_proper : All Proper u.terms
  pub generators_proper : All (λ g. zeros g ≡ false) u.generators
  pub exponents_in : All Low u.terms
  pub terms_few : length u.terms ≤ term_count_limit
  pub generators_few : length u.generators ≤ generator_count_limit
  pub same_identifiers : u.identifiers ≡ s.identifiers
  pub same-dimension : u.dimension ≡ s.dimension

-- what it is afterwards: in order, within the limits, with some of the identifiers
pub record Finished (term_count_limit generator_count_limit : ℕ) (s u : Zonotope) : Type 0 where
  pub shaped : Shaped u
  pub ordered : Ordered u
  pub exponents_in : All Low u.terms
  pub terms_few : length u.terms ≤ term_count_limit
  pub generators_few : length u.generators ≤ generator_count_limit
  pub identifiers_among : Sublist u.identifiers s.identifiers
  pub same-dimension : u.dimension ≡ s.dimension

-- ---- all stages but the last
module _ (weights : List ℕ) (term_count_limit generator_count_limit : ℕ) {s : Zonotope} where
  reduced : Ready s → Reduced term_count_limit generator_count_limit s
      (fold_generators weights generator_count_limit (fold_terms weights term_count_limit (fold_high
      (drop_zero_generators (drop_zero_terms (collect_terms s))))))
  reduced r =
      let c = collected r.shaped r.has_factors in
      let s₁ = collect_terms s in
      let s₂ = drop_zero_terms s₁ in
      let s₃ = drop_zero_generators s₂ in
      let s₄ = fold_high s₃ in
      let s₅ = fold_terms weights term_count_limit s₄ in
      let from₅ = small_generators weights generator_count_limit s₅ in
      let from₄ = lessened_trans (small_terms weights term_count_limit s₄) from₅ in
      let from₃ = lessened_trans (high-terms s₃) from₄ in
      let from₂ = lessened_trans (zero_generators s₂) from₃ in
      let from₁ = lessened_trans (zero-terms s₁) from₂ in
      record {
        shaped = from₁.shapes c.shaped;
        terms_rise = sublist_rising from₁.terms_among c.terms_rise;
        terms_proper =
            All-imp (λ t h. record { has_factor = h.0; not-zero = h.1 })
            (all_both (sublist_all from₁.terms_among c.has_factors) (sublist_all from₂.terms_among (zero-terms_gone s₁)));
        generators_proper = sublist_all from₃.generators_among (zero_generators_gone s₂);
        exponents_in = sublist_all from₄.terms_among (high-terms_gone s₃);
        terms_few = le_trans (sublist_length from₅.terms_among) (terms-left weights term_count_limit s₄);
        generators_few = generators_left weights generator_count_limit s₅;
        same_identifiers = from₁.same_identifiers ∙ c.same_identifiers;
        same-dimension = from₁.same-dimension ∙ c.same-dimension;
      }

-- ---- the last stage
-- a place of the rows that are kept is used as the place that it comes from
occurs-kept : {p : ℕ → Bool} {n k : ℕ} (o : Origin p 0 n k) {ts : List Term} → All (λ t. length t.exponents ≡ n) ts
    → occurs (map (keep_exponents p) ts) k ≡ occurs ts o.place
unfolding any
occurs-kept o none = refl
occurs-kept o (more {a = t} e h) = ap₂ ◌||◌ (ap (ltb 0) (o.same t.exponents e)) (occurs-kept o h)

module _ (term_count_limit generator_count_limit : ℕ) {s u : Zonotope} where
  unused_dropped : Rising ◌<◌ s.identifiers → Reduced term_count_limit generator_count_limit s u → Finished term_count_limit generator_count_limit s (drop_unused u)
  unfolding drop_unused
  unused_dropped rise r =
      let p : ℕ → Bool = occurs u.terms in
      let n = length u.identifiers in
      let clear = terms-clear u.terms in
      let long : All (λ t. length t.exponents ≡ n) u.terms = All-imp (λ t h. h.exponents-long) r.shaped.rows in
      record {
        shaped = record {
          centre-long = r.shaped.centre-long;
          radii-long = r.shaped.radii-long;
          rows = All-map (keep_exponents p) (All-imp (λ t h. record {
            exponents-long = keep_length p 0 t.exponents u.identifiers h.exponents-long;
            coefficients-long = h.coefficients-long;
          }) r.shaped.rows);
          generators_long = r.shaped.generators_long;
        };
        ordered = record {
          identifiers_rise = sublist_rising (keep_sublist p 0 u.identifiers) (subst (Rising ◌<◌) (sym r.same_identifiers) rise);
          terms_rise = rising_map (keep_exponents p)
              (λ t v a b e. keep_order p 0 t.exponents v.exponents (a.0 ∙ sym b.0) a.1 b.1 ∙ e) (all_both long clear)
              r.terms_rise;
          terms_proper = All-map (keep_exponents p) (All-imp (λ t h. record {
            has_factor = keep_constant p 0 t.exponents h.1 ∙ h.0.has_factor;
            not-zero = h.0.not-zero;
          }) (all_both r.terms_proper clear));
          generators_proper = r.generators_proper;
          factors_occur = λ j h. let o = origin p 0 u.identifiers j h in occurs-kept o long ∙ sym (ap p (omega arith)) ∙ o.used;
        };
        exponents_in = All-map (keep_exponents p) (All-imp (λ t h. sublist_all (keep_sublist p 0 t.exponents) h) r.exponents_in);
        terms_few = subst (◌≤ term_count_limit) (sym (length-map u.terms (keep_exponents p))) r.terms_few;
        generators_few = r.generators_few;
        identifiers_among = subst (Sublist (keep_at p 0 u.identifiers)) r.same_identifiers (keep_sublist p 0 u.identifiers);
        same-dimension = r.same-dimension;
      }

-- A finished set is in order and within the limits.
pub finished : (weights : List ℕ) (term_count_limit generator_count_limit : ℕ) {s : Zonotope} → Ready s
    → Finished term_count_limit generator_count_limit s (finish weights term_count_limit generator_count_limit s)
unfolding finish
finished weights term_count_limit generator_count_limit r =
    unused_dropped term_count_limit generator_count_limit r.identifiers_rise (reduced weights term_count_limit generator_count_limit r)
