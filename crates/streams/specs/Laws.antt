-- What is asked of a machine, by what is still to be printed where this much of the input is left.
use Rattle.std.specs.Prelude.{◌≡◌, List, [], ◌++◌, true, false, ℕ, ◌+◌, ◌<◌, ◌≤◌, length, drop}
use Rattle.model.specs.Run.{cut}
use Rattle.streams.specs.Machine.{Machine}

pub record Lawful {P : Type 0} (m : Machine P) (Reached : P → Type 0) (remaining : P → List ℕ → List ℕ) : Type 0 where
  pub begins : Reached m.starting
  -- after the last line nothing is to be printed
  pub silent : (p : P) (rest : List ℕ) → m.done p ≡ true → remaining p rest ≡ []
  -- a turn leads on, and its text and what is then still to be printed are what was to be printed
  pub reaches : (p : P) → Reached p → m.done p ≡ false → (rest : List ℕ) → Reached (m.one_turn p rest).progress
  pub prints : (p : P) → Reached p → m.done p ≡ false → (rest : List ℕ)
      → remaining p rest ≡ (m.one_turn p rest).text ++ remaining (m.one_turn p rest).progress (drop (m.one_turn p rest).used rest)
  -- a whole field is taken whatever follows
  pub whole : (p : P) (rest more : List ℕ) → cut rest ≡ false
      → (m.one_turn p (rest ++ more) ≡ m.one_turn p rest)
      × (drop (m.one_turn p rest).used (rest ++ more) ≡ drop (m.one_turn p rest).used rest ++ more)
  -- a turn uses a byte or more, and no more than there are; where there are none it is the last
  pub uses : (p : P) (rest : List ℕ) → 0 < length rest → 0 < (m.one_turn p rest).used
  pub within : (p : P) (rest : List ℕ) → (m.one_turn p rest).used ≤ length rest
  pub ends : (p : P) → Reached p → m.done p ≡ false → (rest : List ℕ) → length rest ≡ 0 → m.done (m.one_turn p rest).progress ≡ true

-- what is asked besides, so that it comes to its end
pub record Ending {P : Type 0} (m : Machine P) (Reached : P → Type 0) (turns_left place : P → ℕ) : Type 0 where
  -- a turn leaves fewer that can follow, and the next field stands after what it used
  pub falls : (p : P) → Reached p → m.done p ≡ false → (rest : List ℕ) → turns_left (m.one_turn p rest).progress < turns_left p
  pub moves : (p : P) (rest : List ℕ) → place (m.one_turn p rest).progress ≡ place p + (m.one_turn p rest).used
