-- A run: its state, one field, a list of fields, and a whole input cut into fields.
use Rattle.std.specs.Prelude.{List, [], ◌∷◌, ◌++◌, Bool, true, false, not, cond, ◌||◌, ℕ, zero, suc, ◌+◌, ltb, eqb, length, take, drop, get_or}
use Rattle.std.proofs.Math.Option
use Rattle.std.proofs.Math.Option.{Option, none, some}
use Rattle.whole.specs.Tab.{tab}
use Rattle.model.specs.Limits.{first_fresh, last_field, last_tag, max_dimension}
use Rattle.model.specs.Set.{Zonotope, blank}
use Rattle.model.specs.Valid.{is_too_wide}
use Rattle.model.specs.Bytes.{byte, number}
use Rattle.model.specs.Field.{Kind, unknown, kinds}
use Rattle.model.specs.Field.{Outcome, refused, skipped, Meaning, meaning}
pub use Rattle.model.specs.Described.{Cause, ◌if◌}

-- ---- the state: the current set, if any; the next fresh identifier (document 01: the mark); how many fields were accepted; whether one
-- was refused; for each of the most coordinates what folding added to its radius in the accepted fields
pub record State : Type 0 where
  pub set : Option Zonotope
  pub next : ℕ
  pub count : ℕ
  pub over : Bool
  pub folded : List ℕ

abbrev pub begin : State
begin = record { set = none; next = first_fresh; count = 0; over = false; folded = blank max_dimension }

-- the current set; without one, a set of no coordinates, at which no accepted field looks
abbrev pub no_set : Zonotope
no_set = record {
  dimension = 0;
  identifiers = [];
  centre = [];
  terms = [];
  generators = [];
  radii = record { carried = []; rounded = []; folded = []; given = [] };
}

abbrev pub current : State → Zonotope
current st = Option.get_or st.set no_set

-- ---- a field: tag, length in two bytes, body
abbrev pub tag : List ℕ → ℕ
tag f = byte f 0

abbrev pub body_length : List ℕ → ℕ
body_length f = number 2 f 1

-- the part of the field that its body fills
abbrev pub body : List ℕ → List ℕ
body f = take (body_length f) (drop 3 f)

-- the kind of a tag
unfoldable pub kind_of : ℕ → Kind
kind_of t = get_or kinds t unknown

-- what the field means in this state
abbrev pub meant : State → List ℕ → Meaning
meant st f = meaning (kind_of (tag f)) (body f) st.next (current st)

-- ---- refusals
-- the number of the first cause that holds
unfoldable pub first_of : List Cause → Option ℕ
first_of [] = none
first_of (c ∷ cs) = cond c.holds (some c.number) (first_of cs)

-- an unknown tag, a first field that is no start set, or a later one that is: known from one byte
unfoldable pub misplaced : ℕ → List ℕ → Bool
misplaced count [] = false
misplaced zero (t ∷ f) = not (eqb t 1)
misplaced (suc n) (t ∷ f) = ltb t 2 || ltb last_tag t

-- the input ends inside the field
unfoldable pub cut : List ℕ → Bool
cut f = ltb (length f) 3 || ltb (length f) (3 + body_length f)

-- the causes of a refusal by what a field means, where its body has this many bytes
abbrev pub of_body : Meaning → ℕ → List Cause
of_body m bytes = m.causes bytes ++ ((10 if is_too_wide m.result) ∷ [])

-- all causes, in the order in which they are asked: too many fields, the tag, the header, the body
unfoldable pub causes : State → List ℕ → List Cause
causes st f =
    (12 if ltb last_field st.count) ∷ (2 if misplaced st.count f) ∷ (1 if cut f) ∷ of_body (meant st f) (length (body f))

-- the number of the refusal, where there is one
abbrev pub refusal : State → List ℕ → Option ℕ
refusal st f = first_of (causes st f)

-- ---- one field
-- whether it is accepted: no field was refused before, and no cause holds
unfoldable pub accepted : State → List ℕ → Bool
accepted st f = cond st.over false (elim (refusal st f) [ none ↦ true | some n ↦ false ])

-- the totals of what folding added, with what it adds in one more field
unfoldable pub with_folds : List ℕ → List ℕ → List ℕ
with_folds totals folds = tab max_dimension (λ i. get_or totals i 0 + get_or folds i 0)

-- what an accepted field leaves: its result, and its folds in the totals
abbrev pub accepted_by : State → Meaning → State
accepted_by st m = record {
  set = some m.result;
  next = m.next;
  count = st.count + 1;
  over = false;
  folded = with_folds st.folded m.folds;
}

-- what a refused one leaves: all that there was, and the run is over
abbrev pub refused_at : State → State
refused_at st = record { set = st.set; next = st.next; count = st.count; over = true; folded = st.folded }

-- what a field leaves that is refused with this number, if any; after a refusal nothing changes
abbrev pub after_with : Option ℕ → State → List ℕ → State
after_with number st f = cond st.over st (elim number [ none ↦ accepted_by st (meant st f) | some n ↦ refused_at st ])

unfoldable pub after : State → List ℕ → State
after st f = after_with (refusal st f) st f

-- what is answered for it, where its first byte is at `place`
abbrev pub outcome_with : Option ℕ → ℕ → State → List ℕ → Outcome
outcome_with number place st f = cond st.over skipped (elim number [ none ↦ (meant st f).outcome | some n ↦ refused n place ])

unfoldable pub outcome : ℕ → State → List ℕ → Outcome
outcome place st f = outcome_with (refusal st f) place st f

-- an answer carries the field's number
pub record Answer : Type 0 where
  pub field : ℕ
  pub outcome : Outcome

abbrev pub answer : ℕ → State → List ℕ → Answer
answer place st f = record { field = st.count; outcome = outcome place st f }

-- ---- a list of fields, each given the state that the last one left
unfoldable pub run : List (List ℕ) → State → State
run [] st = st
run (f ∷ fs) st = run fs (after st f)

-- their answers
unfoldable pub answers : ℕ → State → List (List ℕ) → List Answer
answers place st [] = []
answers place st (f ∷ fs) = answer place st f ∷ answers (place + length f) (after st f) fs

-- ---- a whole input: each field takes its header and the bytes that it announces, the last what is left; an empty input is a field
-- without bytes
abbrev pub field_length : List ℕ → ℕ
field_length f = 3 + body_length f

-- the first field of an input
abbrev pub first_field : List ℕ → List ℕ
first_field input = take (field_length input) input

unfoldable pub fields_within : ℕ → List ℕ → List (List ℕ)
fields_within zero input = []
fields_within (suc n) [] = []
fields_within (suc n) (t ∷ rest) = let input = t ∷ rest in first_field input ∷ fields_within n (drop (field_length input) input)

unfoldable pub fields : List ℕ → List (List ℕ)
fields [] = [] ∷ []
fields (t ∷ rest) = fields_within (length (t ∷ rest)) (t ∷ rest)
