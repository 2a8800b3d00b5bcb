-- The stages of finishing but the last, on a set that is held in rows.
use Rattle.std.specs.Prelude.{◌≡◌, List, not, ℕ, ◌+◌, ◌*◌, ◌^◌, ◌≤◌, length, ℤ}
use Rattle.std.proofs.Math.Path.{ap, ap₂}
use Rattle.std.proofs.Common.{◌∙◌, arith}
use Rattle.whole.specs.Tab.{tab}
use Rattle.model.specs.Set.{Term, Zonotope}
use Rattle.model.specs.Valid.{zeros}
use Rattle.model.specs.Finish.{Core, Folded, collect, those, size, fold_term, fold_generator, fold_until, collect_terms, drop_zero_terms}
use Rattle.model.specs.Finish.{drop_zero_generators, fold_high, fold_terms, fold_generators}
use Rattle.model.proofs.FirstBySize.{term_size}
use Rattle.rows.specs.Rows.{number_row, terms, Small}
use Rattle.fold.specs.Folding.{Under, core_of, small_mono, under_mono}
use Rattle.select.specs.Stage.{Ready, Bounded, Passed, GeneratorsPassed, without_high}
use Rattle.finish.specs.declared.Unfinished.{Unfinished}
use Rattle.finish.specs.declared.Reduced.{Reduced}
use Rattle.finish.specs.Stages.{reduced}
use Rattle.finish.specs.Held.{set_of, Holds}

-- the terms that are left when equal ones are added and all-zero ones dropped
abbrev pub nonzero : List Term → List Term
nonzero ts = those (λ t. not (zeros t.coefficients)) (collect ts)

-- n terms by their places are the list `ts`
pub record Gathered (e heads : List ℕ) (s : List ℤ) (n : ℕ) (ts : List Term) : Type 0 where
  pub is : terms e heads s n ≡ ts
  pub ready : Ready e heads s n

-- ---- the stages by what they leave
module _ (u : Unfinished) (k : Core) (ts : List Term) (gs : List (List ℤ)) where
  -- the first three
  pub gathered_stages : {ts' : List Term} {gs' : List (List ℤ)} → ts' ≡ nonzero ts → gs' ≡ those (λ g. not (zeros g)) gs
      → set_of u k ts' gs' ≡ drop_zero_generators (drop_zero_terms (collect_terms (set_of u k ts gs)))
  unfolding drop_zero_generators drop_zero_terms collect_terms
  gathered_stages p q = ap₂ (set_of u k) p q

  pub high_stage : {f : Folded Term} → f ≡ without_high k ts → set_of u f.core f.kept gs ≡ fold_high (set_of u k ts gs)
  unfolding fold_high
  high_stage p = ap (λ (f : Folded Term). set_of u f.core f.kept gs) p

  module _ (weights : List ℕ) (limit : ℕ) where
    pub terms_stage : {f : Folded Term} → f ≡ fold_until (term_size weights) fold_term limit k ts
        → set_of u f.core f.kept gs ≡ fold_terms weights limit (set_of u k ts gs)
    unfolding fold_terms
    terms_stage p = ap (λ (f : Folded Term). set_of u f.core f.kept gs) p

    pub generators_stage : {f : Folded (List ℤ)} → f ≡ fold_until (size weights) fold_generator limit k gs
        → set_of u f.core ts f.kept ≡ fold_generators weights limit (set_of u k ts gs)
    unfolding fold_generators
    generators_stage p = ap (λ (f : Folded (List ℤ)). set_of u f.core ts f.kept) p

    -- the stages together
    pub reduced-from : (h : ℕ) {ts' : List Term} {gs' : List (List ℤ)} → ts' ≡ nonzero ts → gs' ≡ those (λ g. not (zeros g)) gs
        → fold_generators weights limit (fold_terms weights h (fold_high (set_of u k ts' gs'))) ≡ reduced weights h limit (set_of u k ts gs)
    unfolding reduced
    reduced-from h p q = ap (λ (m : Zonotope). fold_generators weights limit (fold_terms weights h (fold_high m))) (gathered_stages p q)

pub holds_as : {u : Unfinished} {k : Reduced} {e heads : List ℕ} {s g : List ℤ} {m n : Zonotope} → Holds u k e heads s g m → m ≡ n
    → Holds u k e heads s g n
holds_as v p = record { is = v.is ∙ p; sized = v.sized; places-long = v.places-long; rows = v.rows }

-- ---- sizes after l folds or fewer
module _ (l : ℕ) {n : ℕ} {c₀ c : List ℤ} {r₀ r : List ℕ} (v : Bounded n c₀ c r₀ r) (few : n ≤ l) where
  pub centre-after : {b : ℕ} → Small b c₀ → Small (b + l * 2 ^ 50) c
  centre-after {b} h = small_mono (v.centre b h) (omega arith)

  pub folded_after : {b : ℕ} → Under b r₀ → Under (b + l * 2 ^ 50) r
  folded_after {b} h = under_mono (v.radii b h) (omega arith)

-- ---- what the three folds leave
module _ (u : Unfinished) (h₀ : List ℕ) (s₀ g₀ : List ℤ) {e h₁ h₂ : List ℕ} {s₁ s₂ g₁ : List ℤ} {n₀ n₁ n₂ m₀ m₁ : ℕ} {c₁ c₂ c₃ : List ℤ}
    {r₁ r₂ r₃ : List ℕ} (weights : List ℕ) (h q : ℕ)
    (high : Passed e h₁ s₁ n₀ n₁ u.centre c₁ u.radii.folded r₁
    (without_high (core_of u.centre u.radii.folded) (terms e h₀ s₀ n₀)))
    (few : Passed e h₂ s₂ n₁ n₂ c₁ c₂ r₁ r₂ (fold_until (term_size weights) fold_term h (core_of c₁ r₁) (terms e h₁ s₁ n₁)))
    (kept : GeneratorsPassed g₁ m₀ m₁ c₂ c₃ r₂ r₃ (fold_until (size weights) fold_generator q (core_of c₂ r₂) (tab m₀ (number_row g₀)))) where
  pub rest_holds : n₀ ≤ 860 → n₂ ≤ 40 → m₀ ≤ 48 → m₁ ≤ 24 → m₀ * 6 ≤ length g₀ → length g₁ ≡ length g₀
      → Small (2 ^ 40) u.centre → Under (2 ^ 40) u.radii.folded
      → Holds u (record { terms = n₂; generators = m₁; centre = c₃; folded = r₃ }) e h₂ s₂ g₁
      (fold_generators weights q (fold_terms weights h (fold_high
      (set_of u (core_of u.centre u.radii.folded) (terms e h₀ s₀ n₀) (tab m₀ (number_row g₀))))))
  rest_holds a b c d long same x y =
      let gs = tab m₀ (number_row g₀) in
      let n₁-few = high.fewer in
      let fewer = kept.fewer in
      record {
        is =
            generators_stage u (core_of c₂ r₂) (terms e h₂ s₂ n₂) gs weights q kept.is
            ∙ ap (fold_generators weights q)
            (terms_stage u (core_of c₁ r₁) (terms e h₁ s₁ n₁) gs weights h few.is
            ∙ ap (fold_terms weights h) (high_stage u (core_of u.centre u.radii.folded) (terms e h₀ s₀ n₀) gs high.is));
        sized = record {
          terms_few = b;
          terms-long = few.ready.rows_long;
          terms_small = few.ready.small;
          generators_few = d;
          generators_long = omega arith;
          generators_small = kept.small;
          centre_small = small_mono
              (centre-after 48 kept.bounded c (centre-after 860 few.bounded (omega arith) (centre-after 860 high.bounded a x)))
              (omega arith);
          folded_small = under_mono
              (folded_after 48 kept.bounded c (folded_after 860 few.bounded (omega arith) (folded_after 860 high.bounded a y)))
              (omega arith);
        };
        places-long = few.ready.places-long;
        rows = few.ready.rows;
      }
