-- What is left of an input that comes in pieces: one byte, and bytes one after the other.
use Rattle.std.specs.Prelude.{List, [], ◌∷◌, ◌++◌, Bool, not, cond, ◌&&◌, ◌||◌, ℕ, ◌+◌, ◌*◌, ◌-◌, ltb, eqb, length, take, set, replicate}
use Rattle.model.specs.Body.{dimension, given_radii}
use Rattle.model.specs.Field.{bad_dimension, all_zero}
use Rattle.model.specs.Run.{field_length}
use Rattle.model.specs.Rewrite.{empty_disturbance}
use Rattle.model.proofs.Rewritten.{may_be_empty}
use Rattle.rewriting.specs.declared.Held.{Held}

-- ---- what is held
-- the bytes of a field that isn't decided yet
abbrev pub held_bytes : Held → List ℕ
held_bytes h = take h.count h.bytes

-- before the first byte
abbrev pub starting : Held
starting = record { bytes = replicate 28 0; count = 0; left = 0 }

-- one byte more is held
abbrev pub with_byte : Held → ℕ → Held
with_byte h b = record { bytes = set h.bytes h.count b; count = h.count + 1; left = h.left }

-- bytes more are held
unfoldable pub with_bytes : Held → List ℕ → Held
with_bytes h [] = h
with_bytes h (b ∷ bs) = with_bytes (with_byte h b) bs

-- none is held, and so many of a field that stays are still to come
abbrev pub none_held : Held → ℕ → Held
none_held h left = record { bytes = h.bytes; count = 0; left = left }

-- ---- tests
-- the bytes of a field's start may still become an empty disturbance: its header isn't all there, or the field could be one and is cut
unfoldable pub undecided : List ℕ → Bool
undecided f = ltb (length f) 3 || (may_be_empty f && ltb (length f) (field_length f))

-- how many bytes more can't decide it: all but the last of its header or, after that, of the field
unfoldable pub still_open : List ℕ → ℕ
still_open f = cond (ltb (length f) 3) 3 (field_length f) - length f - 1

-- a body is n, from 1 to 6, and n radii of 0
unfoldable pub zero_radii : List ℕ → Bool
zero_radii b = not (bad_dimension (dimension b)) && (eqb (length b) (1 + 4 * dimension b) && all_zero (given_radii b))

-- ---- bytes
-- what bytes come to: what is held after them, and the bytes to be written
pub record Handed : Type 0 where
  pub held : Held
  pub text : List ℕ

-- none
abbrev pub no_byte : Held → Handed
no_byte h = record { held = h; text = [] }

-- some, then others
abbrev pub then : Handed → Handed → Handed
then a b = record { held = b.held; text = a.text ++ b.text }

-- a byte of a field that stays is written
abbrev pub byte_copied : Held → ℕ → Handed
byte_copied h b = record { held = record { bytes = h.bytes; count = h.count; left = h.left - 1 }; text = b ∷ [] }

-- another one joins those held; where that decides their field, an empty disturbance is dropped, and any other field is written
unfoldable pub byte_joined : Held → ℕ → Handed
byte_joined h b =
    let g = with_byte h b in
    let f = held_bytes g in
    cond (undecided f) (no_byte g)
    (cond (empty_disturbance f) (no_byte (none_held g 0)) (record { held = none_held g (field_length f - length f); text = f }))

-- one byte
unfoldable pub one_byte : Held → ℕ → Handed
one_byte h b = cond (eqb h.left 0) (byte_joined h b) (byte_copied h b)

-- bytes one after the other
unfoldable pub many_bytes : Held → List ℕ → Handed
many_bytes h [] = no_byte h
many_bytes h (b ∷ bs) = let s = one_byte h b in then s (many_bytes s.held bs)
