-- Finishing in two parts: the stages that leave the factors alone, and the last one.
use Rattle.std.specs.Prelude.{◌≡◌, refl, List, ℕ}
use Rattle.model.specs.Set.{Zonotope}
use Rattle.model.specs.Finish.{collect_terms, drop_zero_terms, drop_zero_generators, fold_high, fold_terms, fold_generators, drop_unused, finish}

-- all stages but the last
unfoldable pub reduced : List ℕ → ℕ → ℕ → Zonotope → Zonotope
reduced weights term_count_limit generator_count_limit s =
    fold_generators weights generator_count_limit (fold_terms weights term_count_limit (fold_high (drop_zero_generators (drop_zero_terms (collect_terms s)))))

pub finish-reduced : (weights : List ℕ) (h q : ℕ) (s : Zonotope) → finish weights h q s ≡ drop_unused (reduced weights h q s)
unfolding finish reduced
finish-reduced weights h q s = refl
