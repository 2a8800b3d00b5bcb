-- What is still to be printed at some place of an input, before a field.
use Rattle.std.specs.Prelude.{List, ℕ, zero, suc, length}
use Rattle.model.specs.Run.{State, fields, fields_within}
use Rattle.model.specs.Text.{lines_from}

-- the fields of what is left of an input where this many were accepted: only at its start does an input without bytes have a field
unfoldable pub fields_left : ℕ → List ℕ → List (List ℕ)
fields_left zero rest = fields rest
fields_left (suc n) rest = fields_within (length rest) rest

-- what is still to be printed in this state, where `rest` is left of the input and begins at `place`
abbrev pub printed_from : ℕ → State → List ℕ → List ℕ
printed_from place st rest = lines_from place st (fields_left st.count rest)
