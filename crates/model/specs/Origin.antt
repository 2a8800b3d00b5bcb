-- Where the radii come from, and what is claimed of that: over any run the four parts of a radius come to the one number that document 01's
-- rules give, and the run's totals to what folding added in its accepted fields. The theorems are in proofs/Origin.antt.
use Rattle.std.specs.Prelude.{◌≡◌, List, [], ◌∷◌, cond, ℕ, ◌+◌, ◌<◌, ◌≤◌, get_or}
use Rattle.model.specs.Limits.{max_dimension, max_total}
use Rattle.model.specs.Set.{Zonotope}
use Rattle.model.specs.Field.{Kind, describe}
pub use Rattle.model.specs.Described.{units_of, half_of}
use Rattle.model.specs.Run.{State, begin, current, tag, body, kind_of, meant, accepted, after, run}

-- ---- the radius as one number
-- the radius of coordinate i after a field, but for what folding adds: the field was given the set s, and the radii were ρ before
unfoldable pub ruled : Kind → List ℕ → ℕ → Zonotope → (ℕ → ℕ) → ℕ → ℕ
ruled k b next s ρ i = (describe k).ruled b next s ρ i

-- after a field: where it is accepted by its rule and what folding adds, else as before
abbrev pub ruled_after : State → List ℕ → (ℕ → ℕ) → ℕ → ℕ
ruled_after st f ρ i =
    cond (accepted st f) (ruled (kind_of (tag f)) (body f) st.next (current st) ρ i + get_or (meant st f).folds i 0) (ρ i)

-- after a list of fields
unfoldable pub ruled_over : State → (ℕ → ℕ) → List (List ℕ) → ℕ → ℕ
ruled_over st ρ [] i = ρ i
ruled_over st ρ (f ∷ fs) i = ruled_over (after st f) (ruled_after st f ρ) fs i

-- for every list of fields, whatever bytes they hold, begun with no set: the parts of each radius of the set that is left come to that
-- number
abbrev pub PartsAreRadius : Type 0
PartsAreRadius = (fields : List (List ℕ)) (i : ℕ) → (let s = current (run fields begin) in
    i < s.dimension
    → get_or s.radii.carried i 0 + get_or s.radii.rounded i 0 + get_or s.radii.folded i 0 + get_or s.radii.given i 0
    ≡ ruled_over begin (λ j. 0) fields i)

-- ---- the totals
-- what folding adds to coordinate i's radius in the accepted fields of a list
unfoldable pub folded_over : State → List (List ℕ) → ℕ → ℕ
folded_over st [] i = 0
folded_over st (f ∷ fs) i = cond (accepted st f) (get_or (meant st f).folds i 0) 0 + folded_over (after st f) fs i

-- a run's totals are these, for each coordinate, and fit
pub record TotalsAre (fields : List (List ℕ)) (i : ℕ) : Type 0 where
  pub sum : get_or (run fields begin).folded i 0 ≡ folded_over begin fields i
  pub fits : get_or (run fields begin).folded i 0 ≤ max_total

abbrev pub Totals : Type 0
Totals = (fields : List (List ℕ)) (i : ℕ) → i < max_dimension → TotalsAre fields i
