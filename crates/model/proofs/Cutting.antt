-- An input cut after its first field: what is printed is the field's line and what is printed from there on.
use mathlib.Core.Path.{◌≡◌, refl, sym, ap, ap₂, ◌∙◌}
use mathlib.Core.Bool.{Bool, true, false, cond, true≢false}
use mathlib.Core.List.{List, [], ◌∷◌, ◌++◌}
use mathlib.Core.Option.{Option, none, some, none-ne-some}
use Prim.Native.Nat.{ℕ, zero, suc, ◌+◌, ◌*◌, ◌≤◌, ◌<◌}
use native.Mathlib.Decide.{dec_lt}
use native.Mathlib.Omega.{arith}
use borrow.Author.Tests.{ltb-false}
use lib.Dec.{ltb}
use lib.ListN.{length, take, drop, length-drop, get_or-append, drop_of_length-le}
use lib.Seq.{length-take-le, take_all, take-append-le, drop-append-le, take-nil, drop-nil}
use Rattle.whole.specs.Tests.{or_left, or_right}
use Rattle.model.specs.Bytes.{number}
use Rattle.model.specs.Run.{State, begin, tag, body, after, answer, meant, ◌if◌, first_of, of_body, causes, refusal, misplaced, cut}
use Rattle.model.specs.Run.{accepted_by, refused_at}
use Rattle.model.specs.Run.{field_length, first_field, fields, fields_within}
use Rattle.model.specs.Limits.{last_field}
use Rattle.model.specs.Text.{line_of, closing, lines_from, printed}
use Rattle.model.specs.Rest.{fields_left, printed_from}
use Rattle.model.proofs.LastLine.{over_prints_nothing}

-- ---- the first field
-- its header tells its length, whatever follows
pub header_kept : (rest more : List ℕ) → 3 ≤ length rest → field_length (rest ++ more) ≡ field_length rest
unfolding number
header_kept rest more h =
    ap₂ (λ x y. 3 + (x + 256 * (y + 256 * 0)))
    (get_or-append rest more 0 1 (omega arith)) (get_or-append rest more 0 2 (omega arith))

-- a whole field has its header and its body
pub whole_header : (rest : List ℕ) → cut rest ≡ false → 3 ≤ length rest
unfolding cut
whole_header rest e = ltb-false (length rest) 3 (or_left (ltb (length rest) 3) _ e)

pub whole-body : (rest : List ℕ) → cut rest ≡ false → field_length rest ≤ length rest
unfolding cut
whole-body rest e = ltb-false (length rest) (field_length rest) (or_right (ltb (length rest) 3) _ e)

-- the first field of an input with bytes has bytes
pub some_bytes : (rest : List ℕ) → 0 < length rest → 0 < length (first_field rest)
some_bytes rest h = go (dec_lt (length rest) (field_length rest))
  where
    go : Dec (length rest < field_length rest) → 0 < length (first_field rest)
    go (yes l) = omega (arith, ap length (take_all (field_length rest) rest (omega arith)))
    go (no l) = omega (arith, length-take-le (field_length rest) rest (omega arith))

-- what follows the first field
pub past_first : (rest : List ℕ) → drop (length (first_field rest)) rest ≡ drop (field_length rest) rest
past_first rest = go (dec_lt (length rest) (field_length rest))
  where
    go : Dec (length rest < field_length rest) → drop (length (first_field rest)) rest ≡ drop (field_length rest) rest
    go (yes l) =
        let e : first_field rest ≡ rest = take_all (field_length rest) rest (omega arith) in
        ap (λ (f : List ℕ). drop (length f) rest) e
        ∙ drop_of_length-le rest {i = length rest} (omega arith) ∙ sym (drop_of_length-le rest {i = field_length rest} (omega arith))
    go (no l) = ap (λ n. drop n rest) (length-take-le (field_length rest) rest (omega arith))

-- a whole field is the first one, whatever follows
module _ (rest more : List ℕ) (e : cut rest ≡ false) where
  pub first-kept : first_field (rest ++ more) ≡ first_field rest
  first-kept =
      ap (λ n. take n (rest ++ more)) (header_kept rest more (whole_header rest e))
      ∙ take-append-le (field_length rest) rest more (whole-body rest e)

  pub rest-kept : drop (length (first_field rest)) (rest ++ more) ≡ drop (length (first_field rest)) rest ++ more
  rest-kept =
      drop-append-le (length (first_field rest)) rest more
      (omega (arith, length-take-le (field_length rest) rest (whole-body rest e), whole-body rest e))

-- ---- the fields of what is left
-- any bound on their number that is not below the length gives the same fields
within_same : (n m : ℕ) (rest : List ℕ) → length rest ≤ n → length rest ≤ m → fields_within n rest ≡ fields_within m rest
unfolding fields_within
within_same zero zero rest h k = refl
within_same zero (suc m) [] h k = refl
within_same (suc n) zero [] h k = refl
within_same (suc n) (suc m) [] h k = refl
within_same zero (suc m) (t ∷ rest) h k = absurd (omega arith)
within_same (suc n) zero (t ∷ rest) h k = absurd (omega arith)
within_same (suc n) (suc m) (t ∷ rest) h k =
    let l = length-drop (field_length (t ∷ rest)) (t ∷ rest) in
    ap (first_field (t ∷ rest) ∷◌)
    (within_same n m (drop (field_length (t ∷ rest)) (t ∷ rest)) (omega arith) (omega arith))

none_left : fields_within 0 [] ≡ []
unfolding fields_within
none_left = refl

-- the first of them, and those of what follows it
abbrev pub fields_after : List ℕ → List (List ℕ)
fields_after rest = let next = drop (length (first_field rest)) rest in fields_within (length next) next

pub split : (n : ℕ) (t : ℕ) (l : List ℕ) → length (t ∷ l) ≤ n → fields_within n (t ∷ l) ≡ first_field (t ∷ l) ∷ fields_after (t ∷ l)
unfolding fields_within
split zero t l h = absurd (omega arith)
split (suc n) t l h =
    let rest = t ∷ l in
    let d = length-drop (field_length rest) rest in
    ap (first_field rest ∷◌)
    (ap (fields_within n) (sym (past_first rest))
    ∙ within_same n (length (drop (length (first_field rest)) rest)) (drop (length (first_field rest)) rest)
    (omega (arith, ap length (past_first rest))) (omega arith))

pub first-left : (n : ℕ) (rest : List ℕ) → (length rest ≡ 0 → n ≡ 0) → fields_left n rest ≡ first_field rest ∷ fields_after rest
unfolding fields_left fields
first-left zero [] h =
    let next : drop (length (first_field [])) [] ≡ [] = drop-nil {A = ℕ} (length (first_field [])) in
    ap₂ ◌∷◌ (sym (take-nil {A = ℕ} (field_length []))) (sym (ap (λ (l : List ℕ). fields_within (length l) l) next ∙ none_left))
first-left (suc n) [] h = absurd (omega (arith, h refl))
first-left zero (t ∷ l) h = split (length (t ∷ l)) t l (omega arith)
first-left (suc n) (t ∷ l) h = split (length (t ∷ l)) t l (omega arith)

-- ---- one field, and then what is left
-- an accepted field adds one to the count
pub goes_on : (st : State) (f : List ℕ) → (after st f).over ≡ false → (after st f).count ≡ suc st.count
unfolding after
goes_on st f = go st.over (refusal st f) refl
  where
    go : (b : Bool) (o : Option ℕ) → st.over ≡ b → (let x = cond b st (elim o [
      | none ↦ accepted_by st (meant st f)
      | some n ↦ refused_at st
    ]) in x.over ≡ false → x.count ≡ suc st.count)
    go true o p e = absurd (true≢false (sym p ∙ e))
    go false none p e = omega arith
    go false (some n) p e = absurd (true≢false e)

-- a field without bytes is refused
no_bytes : (st : State) → st.count ≡ 0 → refusal st [] ≡ some 1
unfolding causes first_of misplaced cut
no_bytes st z =
    ap (λ n. first_of ((12 if ltb last_field n) ∷ (2 if misplaced n []) ∷ (1 if cut []) ∷ of_body (meant st []) (length (body [])))) z

pub empty_refused : (st : State) → st.over ≡ false → st.count ≡ 0 → (after st []).over ≡ true
unfolding after
empty_refused st e z = go st.over (refusal st []) e (no_bytes st z)
  where
    go : (b : Bool) (o : Option ℕ) → b ≡ false → o ≡ some 1 → (cond b st (elim o [
      | none ↦ accepted_by st (meant st [])
      | some n ↦ refused_at st
    ])).over ≡ true
    go true o p q = absurd (true≢false p)
    go false none p q = absurd (none-ne-some 1 q)
    go false (some n) p q = refl

module _ (place : ℕ) (st : State) where
  -- the line of the first field, then what is printed from there on
  pub first-line : (rest : List ℕ) → (length rest ≡ 0 → st.count ≡ 0)
      → (let f = first_field rest in
      printed_from place st rest
      ≡ line_of (tag f) (answer place st f) ++ printed_from (place + length f) (after st f) (drop (length f) rest))
  unfolding lines_from fields_left
  first-line rest h =
      let f = first_field rest in
      ap (lines_from place st) (first-left st.count rest h)
      ∙ ap (line_of (tag f) (answer place st f) ++◌) (go (after st f).over refl)
    where
      go : (b : Bool) → (after st (first_field rest)).over ≡ b
          → lines_from (place + length (first_field rest)) (after st (first_field rest)) (fields_after rest)
          ≡ printed_from (place + length (first_field rest)) (after st (first_field rest)) (drop (length (first_field rest)) rest)
      go true e =
          let f = first_field rest in
          let silent = over_prints_nothing (place + length f) (after st f) in
          silent (fields_after rest) e ∙ sym (silent (fields_left (after st f).count (drop (length f) rest)) e)
      go false e = rw (goes_on st (first_field rest) e)

  -- where nothing is left after an accepted field, the run is closed
  pub last_line : 0 < st.count → printed_from place st [] ≡ closing st
  unfolding fields_left fields_within lines_from
  last_line h = go st.count refl
    where
      go : (n : ℕ) → st.count ≡ n → lines_from place st (fields_left n []) ≡ closing st
      go zero e = absurd (omega arith)
      go (suc n) e = refl

-- at its start, all of an input is left
pub from_start : (input : List ℕ) → printed_from 0 begin input ≡ printed input
unfolding printed fields_left
from_start input = refl
