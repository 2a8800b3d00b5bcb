-- The run as it was before request A.5, when a disturbance whose radii are all zero was accepted, kept for what is claimed of rewritten
-- files and for nothing else. The claims are proved in proofs/OldField.antt, proofs/Kept.antt and proofs/Rewritten.antt.
use Rattle.std.specs.Prelude.{◌≡◌, List, [], ◌∷◌, true, false, not, cond, ℕ, ◌+◌, eqb, length}
use Rattle.std.proofs.Math.Option.{Option, none, some}
use Rattle.whole.specs.Tab.{any}
use Rattle.model.specs.Set.{Zonotope}
use Rattle.model.specs.Finish.{those}
use Rattle.model.specs.Operations.{box}
use Rattle.model.specs.Field.{Outcome, inside}
use Rattle.model.specs.Run.{State, begin, current, Cause, first_of, causes, refusal, after_with, after, outcome_with, outcome, run, fields}
use Rattle.model.specs.Rewrite.{empty_disturbance, rewritten}

-- ---- the old run
-- the causes, in the order in which they were asked: those of a run but 14
unfoldable pub old_causes : State → List ℕ → List Cause
old_causes st f = those (λ c. not (eqb c.number 14)) (causes st f)

abbrev pub old_refusal : State → List ℕ → Option ℕ
old_refusal st f = first_of (old_causes st f)

-- what a field left, and what was answered for it
unfoldable pub old_after : State → List ℕ → State
old_after st f = after_with (old_refusal st f) st f

unfoldable pub old_outcome : ℕ → State → List ℕ → Outcome
old_outcome place st f = outcome_with (old_refusal st f) place st f

-- a list of fields, each given the state that the last one left
unfoldable pub old_run : List (List ℕ) → State → State
old_run [] st = st
old_run (f ∷ fs) st = old_run fs (old_after st f)

-- ---- what is claimed of the old run
-- a field was refused as it is now, left what it leaves now and got the answer that it gets now
pub record AsNow (st : State) (f : List ℕ) : Type 0 where
  pub same-refusal : old_refusal st f ≡ refusal st f
  pub same_state : old_after st f ≡ after st f
  pub same_outcome : (place : ℕ) → old_outcome place st f ≡ outcome place st f

-- In every state that is so of each field that isn't refused with 14.
abbrev pub OldOtherwise : Type 0
OldOtherwise = (st : State) (f : List ℕ) → ¬ (refusal st f ≡ some 14) → AsNow st f

-- Only an empty disturbance is refused with 14.
abbrev pub OnlyEmpty : Type 0
OnlyEmpty = (st : State) (f : List ℕ) → refusal st f ≡ some 14 → empty_disturbance f ≡ true

-- So a list of fields without an empty disturbance ran as it does now.
abbrev pub OldRunOtherwise : Type 0
OldRunOtherwise = (fs : List (List ℕ)) (st : State) → any empty_disturbance fs ≡ false → old_run fs st ≡ run fs st

-- the same state with another count
abbrev pub counting : ℕ → State → State
counting c st = record { set = st.set; next = st.next; count = c; over = st.over; folded = st.folded }

-- a field was accepted, left all but the count as it was and got the box of the set
pub record OnlyCounted (st : State) (f : List ℕ) : Type 0 where
  pub unrefused : old_refusal st f ≡ none
  pub counted : old_after st f ≡ counting (st.count + 1) st
  pub set-box : (place : ℕ) → old_outcome place st f ≡ inside (box (current st))

-- In every old run that met no refusal that is so of each field that is refused with 14 now.
abbrev pub OldEmpty : Type 0
OldEmpty = (fs : List (List ℕ)) (f : List ℕ) → (let st = old_run fs begin in st.over ≡ false → refusal st f ≡ some 14 → OnlyCounted st f)

-- ---- what comes of a field: its number, the set that it leaves, its box or verdict
pub record Result : Type 0 where
  pub number : ℕ
  pub set : Option Zonotope
  pub outcome : Outcome

-- of each field of a list, the first of which has its first byte at `place`
unfoldable pub results : ℕ → State → List (List ℕ) → List Result
results place st [] = []
results place st (f ∷ fs) =
    record { number = st.count; set = (after st f).set; outcome = outcome place st f } ∷ results (place + length f) (after st f) fs

-- in the old run, of each but the empty disturbances
unfoldable pub old_results : ℕ → State → List (List ℕ) → List Result
old_results place st [] = []
old_results place st (f ∷ fs) =
    let later = old_results (place + length f) (old_after st f) fs in
    cond (empty_disturbance f) later (record { number = st.count; set = (old_after st f).set; outcome = old_outcome place st f } ∷ later)

-- the same with the numbers n, n + 1 and so on
unfoldable pub numbered : ℕ → List Result → List Result
numbered n [] = []
numbered n (r ∷ rs) = record { number = n; set = r.set; outcome = r.outcome } ∷ numbered (n + 1) rs

-- ---- what is claimed of rewritten files
-- The run of a rewritten file: no field is refused; each leaves and answers what it did, in order, numbered anew; folding added the same.
pub record Kept (input : List ℕ) : Type 0 where
  pub unrefused : (run (fields (rewritten input)) begin).over ≡ false
  pub same-results : results 0 begin (fields (rewritten input)) ≡ numbered 0 (old_results 0 begin (fields input))
  pub same_totals : (run (fields (rewritten input)) begin).folded ≡ (old_run (fields input) begin).folded

-- That is so wherever the old run met no refusal.
abbrev pub KeepsResults : Type 0
KeepsResults = (input : List ℕ) → (old_run (fields input) begin).over ≡ false → Kept input

-- A rewritten file has no empty disturbance, whatever its bytes were.
abbrev pub NoneLeft : Type 0
NoneLeft = (input : List ℕ) → any empty_disturbance (fields (rewritten input)) ≡ false

-- Rewriting it again changes nothing.
abbrev pub TwiceIsOnce : Type 0
TwiceIsOnce = (input : List ℕ) → rewritten (rewritten input) ≡ rewritten input
