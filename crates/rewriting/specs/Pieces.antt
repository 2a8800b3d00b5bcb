-- What is claimed of an input that comes in pieces, however it is cut: what the calls hand over, joined, is what is left of the input.
-- The theorems are in proofs/Pieces.antt.
use Rattle.std.specs.Prelude.{◌≡◌, List, [], ◌∷◌, ◌++◌, ℕ}
use Rattle.model.specs.Rewrite.{together, rewritten}
use Rattle.rewriting.specs.declared.Held.{Held}
use Rattle.rewriting.specs.Given.{held_bytes, starting, Handed, no_byte, then, many_bytes}

-- calls of `give`, a piece each
unfoldable pub calls : List (List ℕ) → Held → Handed
calls [] h = no_byte h
calls (p ∷ ps) h = let s = many_bytes h p in then s (calls ps s.held)

-- With what `close` hands over at the end, it is what is left of the pieces joined.
abbrev pub AsRewritten : Type 0
AsRewritten = (ps : List (List ℕ)) → (let s = calls ps starting in s.text ++ held_bytes s.held ≡ rewritten (together ps))

-- Before the end, it is how that begins, whatever follows.
abbrev pub Begins : Type 0
Begins = (ps : List (List ℕ)) (more : List ℕ)
    → (later : List ℕ) × (rewritten (together ps ++ more) ≡ (calls ps starting).text ++ later)
