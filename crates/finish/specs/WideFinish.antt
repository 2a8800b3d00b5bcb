-- Finishing a wide set gives the finished set, with its numbers wide: each stage commutes with widening, and the last one drops the
-- exponents that were added.
use Rattle.std.specs.Prelude.{◌≡◌, ℕ, ◌≤◌, length, ℤ}
use Rattle.std.proofs.Common.{sym, ◌∙◌, subst}
use Rattle.std.proofs.Math.Path.{ap, ap₂}
use mathlib.Core.List.{List, map}
use Rattle.model.specs.Set.{Term, Zonotope}
use Rattle.model.specs.Finish.{Core, fold_all, fold_term, too_high, keep_at, core, with_terms, with_generators, collect_terms, drop_zero_terms}
use Rattle.model.specs.Finish.{drop_zero_generators, fold_high, fold_terms, fold_generators, drop_unused, finish}
use Rattle.model.proofs.Lists.{sublist_all}
use Rattle.model.proofs.Selected.{those_sublist}
use Rattle.model.proofs.Shape.{Shaped}
use Rattle.model.proofs.Stages.{Lessened, zero-terms, zero_generators, high-terms, small_terms, small_generators}
use Rattle.finish.specs.Stages.{reduced, finish-reduced}
use Rattle.finish.specs.Wide.{wide_vector, wide_radii, wide_core, wide, wide_numbers}
use Rattle.finish.specs.WideCollect.{collect-wide, collect-rows}
use Rattle.finish.specs.WideStages.{nonzero-terms-wide, nonzero_generators_wide, high-terms-wide, low-terms-wide, fold-terms-wide}
use Rattle.finish.specs.WideStages.{until_terms_wide, until_generators_wide, occurs-wide, unused_wide}

-- a set whose rows fit: every vector has its dimension, every term an exponent for each factor
pub record Narrow (s : Zonotope) : Type 0 where
  pub shaped : Shaped s
  pub coordinates : s.dimension ≤ 6
  pub factors : length s.identifiers ≤ 12

-- ---- what the stages leave is narrow
pub lessened_narrow : {s u : Zonotope} → Lessened s u → Narrow s → Narrow u
lessened_narrow l n = record {
  shaped = l.shapes n.shaped;
  coordinates = subst (◌≤ 6) (sym l.same-dimension) n.coordinates;
  factors = subst (λ ids. length ids ≤ 12) (sym l.same_identifiers) n.factors;
}

pub collected_narrow : {s : Zonotope} → Narrow s → Narrow (collect_terms s)
unfolding collect_terms
collected_narrow n = record {
  shaped = record {
    centre-long = n.shaped.centre-long;
    radii-long = n.shaped.radii-long;
    rows = collect-rows n.shaped.rows;
    generators_long = n.shaped.generators_long;
  };
  coordinates = n.coordinates;
  factors = n.factors;
}

-- ---- each stage
module _ (s : Zonotope) (n : Narrow s) where
  -- the wide set with this core and these terms
  abbrev with_wide_terms : Core → List Term → Zonotope
  with_wide_terms k ts = with_terms (wide s) (record { core = k; kept = ts })

  pub collect_terms-wide : collect_terms (wide s) ≡ wide (collect_terms s)
  unfolding collect_terms wide
  collect_terms-wide = ap (with_wide_terms (wide_core (core s))) (collect-wide n.factors n.shaped.rows)

  pub drop_zero_terms-wide : drop_zero_terms (wide s) ≡ wide (drop_zero_terms s)
  unfolding drop_zero_terms wide
  drop_zero_terms-wide =
      ap (with_wide_terms (wide_core (core s))) (nonzero-terms-wide n.factors n.coordinates n.shaped.rows)

  pub drop_zero_generators-wide : drop_zero_generators (wide s) ≡ wide (drop_zero_generators s)
  unfolding drop_zero_generators wide
  drop_zero_generators-wide =
      ap (λ (gs : List (List ℤ)). with_generators (wide s) (record { core = wide_core (core s); kept = gs }))
      (nonzero_generators_wide n.factors n.coordinates n.shaped.generators_long)

  pub fold_high-wide : fold_high (wide s) ≡ wide (fold_high s)
  unfolding fold_high wide
  fold_high-wide =
      let rows = n.shaped.rows in
      ap₂ with_wide_terms
      (ap (λ (l : List Term). fold_all fold_term l (wide_core (core s))) (high-terms-wide n.factors n.coordinates rows)
      ∙ fold-terms-wide n.factors n.coordinates (sublist_all (those_sublist too_high s.terms) rows) (core s))
      (low-terms-wide n.factors n.coordinates rows)

  pub fold_terms-wide : (weights : List ℕ) (limit : ℕ) → fold_terms weights limit (wide s) ≡ wide (fold_terms weights limit s)
  unfolding fold_terms wide
  fold_terms-wide weights limit =
      ap (with_terms (wide s)) (until_terms_wide n.factors n.coordinates weights limit n.shaped.rows (core s))

  pub fold_generators-wide : (weights : List ℕ) (limit : ℕ) → fold_generators weights limit (wide s) ≡ wide (fold_generators weights limit s)
  unfolding fold_generators wide
  fold_generators-wide weights limit =
      ap (with_generators (wide s))
      (until_generators_wide n.factors n.coordinates weights limit n.shaped.generators_long (core s))

  pub drop_unused-wide : drop_unused (wide s) ≡ wide_numbers (drop_unused s)
  unfolding drop_unused wide wide_numbers
  drop_unused-wide = λ i. record {
    dimension = s.dimension;
    identifiers = keep_at (λ j. occurs-wide n.factors n.coordinates n.shaped.rows j i) 0 s.identifiers;
    centre = wide_vector s.centre;
    terms = unused_wide n.factors n.coordinates n.shaped.rows i;
    generators = map wide_vector s.generators;
    radii = wide_radii s.radii;
  }

-- ---- the whole
module _ (weights : List ℕ) (h q : ℕ) (s : Zonotope) (n : Narrow s) where
  -- all stages but the last
  reduced-both : (reduced weights h q (wide s) ≡ wide (reduced weights h q s)) × Narrow (reduced weights h q s)
  unfolding reduced
  reduced-both =
      let s₁ = collect_terms s in
      let s₂ = drop_zero_terms s₁ in
      let s₃ = drop_zero_generators s₂ in
      let s₄ = fold_high s₃ in
      let s₅ = fold_terms weights h s₄ in
      let n₁ = collected_narrow n in
      let n₂ = lessened_narrow (zero-terms s₁) n₁ in
      let n₃ = lessened_narrow (zero_generators s₂) n₂ in
      let n₄ = lessened_narrow (high-terms s₃) n₃ in
      let n₅ = lessened_narrow (small_terms weights h s₄) n₄ in
      let e₂ = ap drop_zero_terms (collect_terms-wide s n) ∙ drop_zero_terms-wide s₁ n₁ in
      let e₃ = ap drop_zero_generators e₂ ∙ drop_zero_generators-wide s₂ n₂ in
      let e₄ = ap fold_high e₃ ∙ fold_high-wide s₃ n₃ in
      let e₅ = ap (fold_terms weights h) e₄ ∙ fold_terms-wide s₄ n₄ weights h in (
        ap (fold_generators weights q) e₅ ∙ fold_generators-wide s₅ n₅ weights q,
        lessened_narrow (small_generators weights q s₅) n₅,
      )

  pub reduced-wide : reduced weights h q (wide s) ≡ wide (reduced weights h q s)
  reduced-wide = reduced-both.0

  pub reduced-narrow : Narrow (reduced weights h q s)
  reduced-narrow = reduced-both.1

  -- Finishing a wide set gives the finished set, with its numbers wide.
  pub finish-wide : finish weights h q (wide s) ≡ wide_numbers (finish weights h q s)
  finish-wide =
      finish-reduced weights h q (wide s)
      ∙ ap drop_unused reduced-wide
      ∙ drop_unused-wide (reduced weights h q s) reduced-narrow
      ∙ ap wide_numbers (sym (finish-reduced weights h q s))
