-- The refusals of a step and of a ranged step, and what the work slices hold afterwards.
use Rattle.std.specs.Prelude.{List, ◌++◌, Bool, cond, ◌||◌, ℕ, ltb, length, drop, replicate, ℤ}
use Rattle.std.proofs.Math.Option.{Option}
use Rattle.model.specs.Step.{Step}
use Rattle.model.specs.Ranged.{Widths}
use Rattle.model.specs.Library.{Given, step_refusal, ranged_refusal}
use Rattle.stepping.specs.Work.{work_numbers, work_exponents, worked}

-- 13: a work slice is too short
abbrev pub without_room : ℕ → ℕ → Bool
without_room numbers exponents = ltb numbers work_numbers || ltb exponents work_exponents

-- the number that refuses the step p of a given set with the work slices w and e
abbrev pub refusal_of : List ℤ → List ℕ → Step → Given → Option ℕ
refusal_of w e p g = step_refusal (without_room (length w) (length e)) p g

-- the same with half-widths beside its entries
abbrev pub ranged_refusal_of : List ℤ → List ℕ → Step → Widths → Given → Option ℕ
ranged_refusal_of w e p d g = ranged_refusal (without_room (length w) (length e)) p d g

-- a slice whose first n places are made d
abbrev pub cleared : {A : Type 0} → ℕ → A → List A → List A
cleared n d xs = replicate n d ++ drop n xs

-- a work slice that is cleared where it was used, and else is as it was
abbrev pub cleared_if : {A : Type 0} → Bool → ℕ → A → List A → List A
cleared_if used n d xs = cond used (cleared n d xs) xs

-- what a work slice holds afterwards: it is cleared where the step was worked out
abbrev pub left_in : {A : Type 0} → Option ℕ → ℕ → A → List A → List A
left_in o n d xs = cleared_if (worked o) n d xs
