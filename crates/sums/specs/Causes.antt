-- Each call's refusal, by its parts in their order: the first set, the other arguments, the result.
use Rattle.std.specs.Prelude.{◌≡◌, List, [], ◌∷◌, ℕ}
use Rattle.std.proofs.Common.{ap, ◌∙◌}
use Rattle.std.proofs.Math.Option.{Option}
use Rattle.model.specs.Limits.{standard_weights}
use Rattle.model.specs.Field.{too_many}
use Rattle.model.specs.Operations.{disturb, reduce, tied_sum, independent_sum, renumbered}
use Rattle.model.specs.Run.{◌if◌, first_of}
use Rattle.model.specs.Library.{Given, of_second, of_radii, of_limits, bad_next, examine, disturb_refusal, reduce_refusal, tied_refusal}
use Rattle.model.specs.Library.{independent_refusal}
use Rattle.zonotope.specs.Answer.{or_else, first_append}
use Rattle.answers.specs.Answer.{of_result}
use Rattle.answers.specs.Order.{in_order}
use Rattle.summing.specs.Summable.{of_factors}
use Rattle.summing.specs.Arguments.{before_summing, of_next, fresh_order}

-- ---- a disturbance: the set, then the radii, before the result is looked at
abbrev pub before_disturbing : ℕ → List ℕ → Given → Option ℕ
before_disturbing n radii g = or_else (examine g) (first_of (of_radii n radii g.set.dimension))

pub disturb-order : (n : ℕ) (radii : List ℕ) (g : Given)
    → disturb_refusal n radii g ≡ or_else (before_disturbing n radii g) (of_result (disturb radii g.set))
unfolding disturb_refusal
disturb-order n radii g = in_order g (of_radii n radii g.set.dimension) _

-- ---- a reduction: the set, then the limits, before the result is looked at
abbrev pub before_reducing : ℕ → ℕ → Given → Option ℕ
before_reducing term_count_limit generator_count_limit g = or_else (examine g) (first_of (of_limits term_count_limit generator_count_limit))

pub reduce-order : (term_count_limit generator_count_limit : ℕ) (g : Given)
    → reduce_refusal term_count_limit generator_count_limit g
    ≡ or_else (before_reducing term_count_limit generator_count_limit g) (of_result (reduce standard_weights term_count_limit generator_count_limit g.set))
unfolding reduce_refusal
reduce-order term_count_limit generator_count_limit g = in_order g (of_limits term_count_limit generator_count_limit) _

-- ---- two sets: these, then the factors of both, before the result is looked at
pub tied-order : (g h : Given)
    → tied_refusal g h ≡ or_else (before_summing g h) (or_else (of_factors g.set h.set)
    (of_result (tied_sum standard_weights g.set h.set)))
unfolding tied_refusal
tied-order g h = in_order g (of_second g h) _ ∙ ap (or_else (before_summing g h)) (first_append ((9 if too_many g.set h.set) ∷ []) _)

-- the next identifier stands between the sets and the factors
pub independent_order : (next : ℕ) (g h : Given)
    → independent_refusal next g h ≡ or_else (or_else (before_summing g h) (of_next (bad_next next g.set)))
    (or_else (of_factors g.set (renumbered next h.set)) (of_result (independent_sum standard_weights next g.set h.set)))
unfolding independent_refusal
independent_order next g h = fresh_order g h _ _ _
