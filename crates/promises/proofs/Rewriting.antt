-- Promised of a stored file that comes in pieces, however it is cut: what is handed over is what is left of it.
use mathlib.Core.Path.{◌≡◌}
use mathlib.Core.List.{List, ◌++◌}
use Prim.Native.Nat.{ℕ}
use Rattle.model.specs.Rewrite.{rewritten, together}
use Rattle.rewriting.specs.Given.{starting, held_bytes}
use Rattle.rewriting.specs.Pieces.{calls}
use Rattle.rewriting.proofs.Pieces as Pieces

-- With what `close` hands over at the end, it is what is left of the pieces joined.
pub as_rewritten : (ps : List (List ℕ)) → (let s = calls ps starting in s.text ++ held_bytes s.held ≡ rewritten (together ps))
as_rewritten = Pieces.as_rewritten

-- Before the end, it is how that begins, whatever follows.
pub begins : (ps : List (List ℕ)) (more : List ℕ)
    → (later : List ℕ) × (rewritten (together ps ++ more) ≡ (calls ps starting).text ++ later)
begins = Pieces.begins
