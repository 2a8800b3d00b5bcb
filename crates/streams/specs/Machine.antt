-- A machine that takes field after field from an input that comes in pieces: one turn, and as many as what was read so far allows.
use Rattle.std.specs.Prelude.{List, [], ◌++◌, Bool, not, cond, ◌&&◌, ◌||◌, ℕ, zero, suc, ◌+◌, ◌-◌, ltb, length, drop}
use Rattle.model.specs.Run.{cut}

-- what turns come to: how far the machine has come, how many bytes they used, and the text to be written
pub record Turns (P : Type 0) : Type 0 where
  pub progress : P
  pub used : ℕ
  pub text : List ℕ

-- none
abbrev pub no_turn : {P : Type 0} → P → Turns P
no_turn p = record { progress = p; used = 0; text = [] }

-- some, then others
abbrev pub then : {P : Type 0} → Turns P → Turns P → Turns P
then a b = record { progress = b.progress; used = a.used + b.used; text = a.text ++ b.text }

pub record Machine (P : Type 0) : Type 0 where
  -- before the first field
  pub starting : P
  -- whether the last line was given
  pub done : P → Bool
  -- one turn, where this is left of what was read
  pub one_turn : P → List ℕ → Turns P
  -- the room that a turn's text may need
  pub longest : ℕ

-- whether a turn can be made: the last line isn't given, the next field is whole or the input has ended, and a longest text has room
unfoldable pub ready : ℕ → Bool → Bool → ℕ → List ℕ → Bool
ready longest done ended room rest = not done && ((ended || not (cut rest)) && not (ltb room longest))

module _ {P : Type 0} (m : Machine P) where
  abbrev pub can_turn : Bool → ℕ → P → List ℕ → Bool
  can_turn ended room p rest = ready m.longest (m.done p) ended room rest

  -- turns one after the other, at most n
  unfoldable pub many_turns : ℕ → Bool → ℕ → P → List ℕ → Turns P
  many_turns zero ended room p rest = no_turn p
  many_turns (suc n) ended room p rest =
      let t = m.one_turn p rest in
      cond (can_turn ended room p rest)
      (then t (many_turns n ended (room - length t.text) t.progress (drop t.used rest))) (no_turn p)

  -- all that can be made; each but the last uses a byte or more
  unfoldable pub fed : Bool → ℕ → P → List ℕ → Turns P
  fed ended room p rest = many_turns (suc (length rest)) ended room p rest
