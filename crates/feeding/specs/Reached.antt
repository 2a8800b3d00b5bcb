-- What calls lead to, and what is still to be printed there.
use Rattle.std.specs.Prelude.{◌≡◌, List, [], false, cond, ℕ, ◌+◌, ◌-◌, ◌*◌, ◌<◌, ◌≤◌}
use Rattle.model.specs.Limits.{last_field}
use Rattle.model.specs.Rest.{printed_from}
use Rattle.model.proofs.Sound.{Sound}
use Rattle.zonotope.specs.Record.{view, pack}
use Rattle.states.specs.State.{viewed}
use Rattle.feeding.specs.declared.Progress.{Progress}

-- a progress that calls can lead to
pub record Reached (p : Progress) : Type 0 where
  -- the state means one of a run
  pub sound : Sound (viewed p.state)
  -- its set, where there is one, is the record of what it means
  pub packed : 0 < p.state.count → pack (view p.state.set) ≡ p.state.set
  -- after a refusal nothing follows
  pub going : p.done ≡ false → p.state.over ≡ false

-- a header and the longest body
abbrev pub longest_field : ℕ
longest_field = 65538

-- the place of the next field: the fields before it were accepted
abbrev pub Placed : Progress → Type 0
Placed p = p.done ≡ false → p.place ≤ longest_field * p.state.count

-- what is still to be printed where this much of the input is left
abbrev pub remaining : Progress → List ℕ → List ℕ
remaining p rest = cond p.done [] (printed_from p.place (viewed p.state) rest)

-- how many turns can follow at most
abbrev pub turns_left : Progress → ℕ
turns_left p = cond p.done 0 (last_field + 2 - p.state.count)
