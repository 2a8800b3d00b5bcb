-- The refusal of a hull by its parts in their order: the two sets, the next identifier, the factors, the result.
use Rattle.std.specs.Prelude.{◌≡◌, ◌||◌, ℕ}
use Rattle.std.proofs.Math.Option.{Option}
use Rattle.model.specs.Limits.{standard_weights}
use Rattle.model.specs.Set.{Zonotope}
use Rattle.model.specs.Hull.{hull}
use Rattle.model.specs.Library.{Given, bad_next, hull_refusal}
use Rattle.zonotope.specs.Answer.{or_else}
use Rattle.answers.specs.Answer.{of_result}
use Rattle.summing.specs.Arguments.{before_summing, of_next, fresh_order}
use Rattle.hulling.specs.Hulled.{of_blended}

-- 11: the next identifier is out of its range or not above both sets' identifiers
abbrev pub of_blend : ℕ → Zonotope → Zonotope → Option ℕ
of_blend next s u = of_next (bad_next next s || bad_next next u)

pub hull-order : (next : ℕ) (g h : Given)
    → hull_refusal next g h ≡ or_else (or_else (before_summing g h) (of_blend next g.set h.set))
    (or_else (of_blended g.set h.set) (of_result (hull standard_weights next g.set h.set)))
unfolding hull_refusal
hull-order next g h = fresh_order g h _ _ _
