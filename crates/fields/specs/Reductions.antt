-- Reductions: their causes in parts.
use Rattle.std.specs.Prelude.{◌≡◌, ℕ, ◌≤◌, ltb, length, Result}
use mathlib.Core.List.{List, [], ◌∷◌}
use Rattle.std.proofs.Common.{ltb-false}
use Rattle.whole.specs.Tests.{or_left, or_right}
use Rattle.model.specs.Limits.{max_terms, max_generators, standard_weights}
use Rattle.model.specs.Set.{Zonotope}
use Rattle.model.specs.Valid.{is_too_wide}
use Rattle.model.specs.Operations.{reduce}
use Rattle.model.specs.Body.{term_count_limit, generator_count_limit}
use Rattle.model.specs.Field.{reduction, meaning}
use Rattle.model.specs.Run.{Cause, ◌if◌, first_of}
use Rattle.zonotope.specs.declared.PolyZonotope.{PolyZonotope}
use Rattle.zonotope.specs.Record.{view}
use Rattle.zonotope.specs.Answer.{or_else}
use Rattle.zonotope.specs.declared.Cause as Zonotopes
use Rattle.answers.specs.Answer.{of_result, settled}
use Rattle.bodies.specs.Fields.{limits_out}
use Rattle.fields.specs.Refusal.{body_refusal}
use Rattle.fields.specs.Layout.{layout, LaidOut, in_parts}

module _ (b : List ℕ) where
  -- the body is two limits of a set: 3, 4, 3
  abbrev pub limits_layout : List Cause
  limits_layout = layout 2 (limits_out b) 2 (length b)

  abbrev pub LimitsLaid : Type 0
  LimitsLaid = LaidOut 2 (limits_out b) 2 (length b)

  -- the reduced set
  abbrev pub reduced : Zonotope → Zonotope
  reduced s = reduce standard_weights (term_count_limit b) (generator_count_limit b) s

  pub reduction_order : (s : Zonotope) → body_refusal reduction b 0 s ≡ or_else (first_of limits_layout) (of_result (reduced s))
  unfolding meaning first_of
  reduction_order s = in_parts limits_layout [] ((10 if is_too_wide (reduced s)) ∷ [])

-- limits that are read from a body that is laid out
module _ (b : List ℕ) {h q : ℕ} where
  pub limits_read : LimitsLaid b → h ≡ term_count_limit b → q ≡ generator_count_limit b → (h ≤ 40) × (q ≤ 24)
  limits_read k e₁ e₂ =
      let terms = ltb max_terms (term_count_limit b) in
      let generators = ltb max_generators (generator_count_limit b) in
      rw (e₁, e₂) (
        ltb-false max_terms (term_count_limit b) (or_left terms generators k.right),
        ltb-false max_generators (generator_count_limit b)
            (or_right terms generators k.right),
      )

  pub limits_reduced : h ≡ term_count_limit b → q ≡ generator_count_limit b → (s : PolyZonotope) → {r : Result PolyZonotope Zonotopes.Cause}
      → r ≡ settled (reduce standard_weights h q (view s)) → r ≡ settled (reduced b (view s))
  limits_reduced e₁ e₂ s e = rw (e₁, e₂) at e
