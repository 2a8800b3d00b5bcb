-- The work space of a step: six numbers and twelve exponents for each of 40 terms and 820 pairs.
use Rattle.std.specs.Prelude.{◌≡◌, refl, Bool, true, false, cond, ℕ, eqb}
use Rattle.std.proofs.Math.Option.{Option, none, some}
use Rattle.model.specs.Set.{Zonotope}
use Rattle.model.specs.Valid.{is_too_wide}
use Rattle.model.specs.Run.{first_of}
use Rattle.answers.specs.Answer.{of_result}

-- how many numbers
abbrev pub work_numbers : ℕ
work_numbers = 5160

-- how many exponents
abbrev pub work_exponents : ℕ
work_exponents = 10320

-- whether a step was worked out: it isn't refused, or it is for its result
abbrev pub worked : Option ℕ → Bool
worked none = true
worked (some n) = eqb n 10

-- it was where nothing but its result can refuse it
pub result-worked : (m : Zonotope) → worked (of_result m) ≡ true
unfolding first_of
result-worked m = go (is_too_wide m)
  where
    go : (b : Bool) → worked (cond b (some 10) none) ≡ true
    go true = refl
    go false = refl
