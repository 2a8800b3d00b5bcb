-- One turn: it leads to what calls can lead to, and its text and what is then still to be printed are what was to be printed.
use mathlib.Core.Path.{◌≡◌, refl, sym, ap, ap₂, ◌∙◌, subst}
use mathlib.Core.List.{List, [], ◌∷◌, ◌++◌, append-nil}
use mathlib.Core.Bool.{Bool, true, false, not, cond, ◌&&◌, true≢false}
use Prim.Native.Nat.{ℕ, suc, ◌+◌, ◌-◌, ◌≤◌, ◌<◌}
use native.Mathlib.Omega.{arith}
use borrow.Author.Tests.{eqb-true, eqb-false, eq-eqb, ne_eqb, not-true, not-false}
use lib.Dec.{eqb}
use lib.ListN.{length, drop, length-append, length-take}
use lib.Seq.{take-nil}
use Rattle.model.specs.Run as Model
use Rattle.model.specs.Run.{begin, tag, cut, after, answer, field_length, first_field}
use Rattle.model.specs.Text.{closing, line_of, printed}
use Rattle.model.specs.Rest.{fields_left, printed_from}
use Rattle.model.proofs.Tests.{and_true}
use Rattle.model.proofs.Sound.{Sound, begin_sound, after_sound}
use Rattle.model.proofs.LastLine.{over_prints_nothing}
use Rattle.model.proofs.Cutting.{whole_header, some_bytes, first-kept, rest-kept, goes_on, empty_refused, first-line, last_line, from_start}
use Rattle.states.specs.State.{viewed, left, beginning}
use Rattle.states.proofs.Recorded.{viewed_record}
use Rattle.states.specs.Taken.{taken}
use Rattle.printing.proofs.Brief.{sound_line}
use Rattle.feeding.specs.declared.Progress.{Progress}
use Rattle.streams.specs.Machine.{Turns}
use Rattle.streams.specs.Laws.{Lawful, Ending}
use Rattle.feeding.specs.Fed.{closed, field_taken, between, one_turn, starting, feeder}
use Rattle.feeding.specs.Reached.{Reached, remaining, turns_left}
use Rattle.feeding.proofs.Left.{viewed-left, left_packed}

-- a run that is over prints nothing more
by_over : (place : ℕ) (v : Model.State) (rest : List ℕ) → cond v.over [] (printed_from place v rest) ≡ printed_from place v rest
by_over place v rest = go v.over refl
  where
    go : (b : Bool) → v.over ≡ b → cond b [] (printed_from place v rest) ≡ printed_from place v rest
    go true e = sym (over_prints_nothing place v (fields_left v.count rest) e)
    go false e = refl

-- ---- what a turn leaves
module _ (p : Progress) (r : Reached p) where
  -- the end
  closed-reached : Reached (closed p).progress
  closed-reached = record { sound = r.sound; packed = r.packed; going = λ e. absurd (true≢false e) }

  -- a field
  taken-reached : (f : List ℕ) → Reached (field_taken p f).progress
  unfolding taken
  taken-reached f = record {
    sound = subst Sound (sym (viewed-left p.state f r.sound)) (after_sound r.sound f);
    packed = left_packed p.state f r.sound r.packed;
    going = λ e. e;
  }

  pub turned-reached : (rest : List ℕ) → Reached (one_turn p rest).progress
  unfolding one_turn
  turned-reached rest = go (between p rest)
    where
      go : (b : Bool) → Reached (cond b (closed p) (field_taken p (first_field rest))).progress
      go true = closed-reached
      go false = taken-reached (first_field rest)

  -- ---- what a turn prints, where the last line isn't given
  module _ (on : p.done ≡ false) where
    not-between : (rest : List ℕ) → between p rest ≡ false → length rest ≡ 0 → p.state.count ≡ 0
    not-between rest e z =
        eqb-true p.state.count 0 (not-false _ (sym (ap (◌&& not (eqb p.state.count 0)) (eq-eqb (length rest) 0 z)) ∙ e))

    taken-line : (f : List ℕ) → (field_taken p f).text ≡ line_of (tag f) (answer p.place (viewed p.state) f)
    unfolding taken
    taken-line f = sound_line r.sound f p.place

    -- the rest after a field
    taken-rest : (f rest : List ℕ)
        → remaining (field_taken p f).progress rest ≡ printed_from (p.place + length f) (after (viewed p.state) f) rest
    unfolding taken left
    taken-rest f rest =
        let v = after (viewed p.state) f in
        ap (λ (u : Model.State). cond v.over [] (printed_from (p.place + length f) u rest)) (viewed-left p.state f r.sound)
        ∙ by_over (p.place + length f) v rest

    closed_prints : (rest : List ℕ) → between p rest ≡ true → remaining p rest ≡ (closed p).text ++ []
    unfolding viewed closing
    closed_prints [] e =
        let none = eqb p.state.count 0 in
        let some_taken : 0 < p.state.count =
        omega (arith, eqb-false p.state.count 0 (not-true none (and_true true (not none) e).1)) in
        ap (λ b. cond b [] (printed_from p.place (viewed p.state) [])) on
        ∙ last_line p.place (viewed p.state) some_taken
        ∙ ap (λ b. cond b [] (closed p).text) (r.going on)
        ∙ sym (append-nil (closed p).text)
    closed_prints (t ∷ l) e =
        absurd (omega (arith, eqb-true (length (t ∷ l)) 0 (and_true _ (not (eqb p.state.count 0)) e).0))

    taken_prints : (rest : List ℕ) → between p rest ≡ false → (let t = field_taken p (first_field rest) in
        remaining p rest ≡ t.text ++ remaining t.progress (drop t.used rest))
    unfolding viewed
    taken_prints rest e =
        let f = first_field rest in
        ap (λ b. cond b [] (printed_from p.place (viewed p.state) rest)) on
        ∙ first-line p.place (viewed p.state) rest (not-between rest e)
        ∙ ap₂ ◌++◌ (sym (taken-line f)) (sym (taken-rest f (drop (length f) rest)))

    pub turned_prints : (rest : List ℕ)
        → (let t = one_turn p rest in remaining p rest ≡ t.text ++ remaining t.progress (drop t.used rest))
    unfolding one_turn
    turned_prints rest = go (between p rest) refl
      where
        go : (b : Bool) → between p rest ≡ b → (let t = cond b (closed p) (field_taken p (first_field rest)) in
            remaining p rest ≡ t.text ++ remaining t.progress (drop t.used rest))
        go true e = closed_prints rest e
        go false e = taken_prints rest e

    -- ---- it gets on
    -- the count rises, or the last line is given
    falls_by : (b : Bool) (n : ℕ) → (b ≡ false → n ≡ suc p.state.count) → cond b 0 (4098 - n) < turns_left p
    unfolding viewed
    falls_by b n h = subst (λ d. cond b 0 (4098 - n) < cond d 0 (4098 - p.state.count)) (sym on) (go b h)
      where
        go : (b : Bool) → (b ≡ false → n ≡ suc p.state.count) → cond b 0 (4098 - n) < 4098 - p.state.count
        go true h = omega (arith, r.sound.count_in)
        go false h = omega (arith, r.sound.count_in, h refl)

    taken-falls : (f : List ℕ) → turns_left (field_taken p f).progress < turns_left p
    unfolding taken left viewed
    taken-falls f = let v = after (viewed p.state) f in falls_by v.over v.count (goes_on (viewed p.state) f)

    pub turned-falls : (rest : List ℕ) → turns_left (one_turn p rest).progress < turns_left p
    unfolding one_turn
    turned-falls rest = go (between p rest)
      where
        go : (b : Bool) → turns_left (cond b (closed p) (field_taken p (first_field rest))).progress < turns_left p
        go true = falls_by true 0 (λ e. absurd (true≢false e))
        go false = taken-falls (first_field rest)

    -- where nothing is left, it is the last
    taken-last : p.state.count ≡ 0 → (field_taken p (first_field [])).progress.done ≡ true
    unfolding taken left viewed
    taken-last z =
        subst (λ (f : List ℕ). (after (viewed p.state) f).over ≡ true) (sym (take-nil {A = ℕ} (field_length [])))
        (empty_refused (viewed p.state) (r.going on) z)

    pub turned-last : (rest : List ℕ) → length rest ≡ 0 → (one_turn p rest).progress.done ≡ true
    unfolding one_turn
    turned-last [] z = go (between p []) refl
      where
        go : (b : Bool) → between p [] ≡ b → (cond b (closed p) (field_taken p (first_field []))).progress.done ≡ true
        go true e = refl
        go false e = taken-last (not-between [] e refl)
    turned-last (t ∷ l) z = absurd (omega arith)

-- ---- a field that is whole is taken, whatever follows
not_empty : (p : Progress) (rest : List ℕ) → 0 < length rest → between p rest ≡ false
not_empty p rest h = ap (◌&& not (eqb p.state.count 0)) (ne_eqb (length rest) 0 (λ e. omega arith))

pub turned-field : (p : Progress) (rest : List ℕ) → 0 < length rest → one_turn p rest ≡ field_taken p (first_field rest)
unfolding one_turn
turned-field p rest h = ap (λ b. cond b (closed p) (field_taken p (first_field rest))) (not_empty p rest h)

module _ (p : Progress) (rest more : List ℕ) (e : cut rest ≡ false) where
  whole_turn : one_turn p rest ≡ field_taken p (first_field rest)
  whole_turn = turned-field p rest (omega (arith, whole_header rest e))

  turned_more : one_turn p (rest ++ more) ≡ one_turn p rest
  turned_more =
      turned-field p (rest ++ more) (omega (arith, whole_header rest e, length-append rest more))
      ∙ ap (field_taken p) (first-kept rest more e) ∙ sym whole_turn

  rest_more : drop (one_turn p rest).used (rest ++ more) ≡ drop (one_turn p rest).used rest ++ more
  rest_more = subst (λ (t : Turns Progress). drop t.used (rest ++ more) ≡ drop t.used rest ++ more) (sym whole_turn) (rest-kept rest more e)

-- ---- every turn but the last uses a byte or more
pub turned_uses : (p : Progress) (rest : List ℕ) → 0 < length rest → 0 < (one_turn p rest).used
turned_uses p rest h = subst (λ (t : Turns Progress). 0 < t.used) (sym (turned-field p rest h)) (some_bytes rest h)

-- ---- what a turn uses
by_turn : (P : Turns Progress → Type 0) (p : Progress) (rest : List ℕ) → P (closed p) → P (field_taken p (first_field rest)) → P (one_turn p rest)
unfolding one_turn
by_turn P p rest c t = go (between p rest)
  where
    go : (b : Bool) → P (cond b (closed p) (field_taken p (first_field rest)))
    go true = c
    go false = t

-- no more than there is
pub turned-within : (p : Progress) (rest : List ℕ) → (one_turn p rest).used ≤ length rest
turned-within p rest =
    by_turn (λ t. t.used ≤ length rest) p rest (omega arith) (omega (arith, length-take (field_length rest) rest))

-- the next field stands after it
pub turned-place : (p : Progress) (rest : List ℕ) → (one_turn p rest).progress.place ≡ p.place + (one_turn p rest).used
turned-place p rest = by_turn (λ t. t.progress.place ≡ p.place + t.used) p rest (omega arith) refl

-- ---- so a run is a lawful machine
pub begin-viewed : viewed beginning ≡ begin
begin-viewed = viewed_record begin_sound

starting-reached : Reached starting
starting-reached = record { sound = subst Sound (sym begin-viewed) begin_sound; packed = λ h. absurd (omega arith); going = λ e. refl }

-- all of the input is to be printed
pub starting_prints : (input : List ℕ) → remaining starting input ≡ printed input
starting_prints input = ap (λ u. printed_from 0 u input) begin-viewed ∙ from_start input

pub lawful : Lawful feeder Reached remaining
lawful = record {
  begins = starting-reached;
  silent = λ p rest d. ap (λ b. cond b [] (printed_from p.place (viewed p.state) rest)) d;
  reaches = λ p r on rest. turned-reached p r rest;
  prints = λ p r on rest. turned_prints p r on rest;
  whole = λ p rest more e. (turned_more p rest more e, rest_more p rest more e);
  uses = turned_uses;
  within = turned-within;
  ends = λ p r on rest z. turned-last p r on rest z;
}

-- and it comes to its end
pub ending : Ending feeder Reached turns_left (λ p. p.place)
ending = record { falls = λ p r on rest. turned-falls p r on rest; moves = turned-place }
