-- However an input is cut into pieces, what the calls hand over is what is left of it. The statements are in specs/Pieces.antt.
use mathlib.Core.Path.{◌≡◌, refl, sym, ap, ◌∙◌}
use mathlib.Core.List.{List, [], ◌∷◌, ◌++◌, append_assoc, append-nil}
use Prim.Native.Nat.{ℕ}
use native.Mathlib.Omega.{arith}
use Rattle.model.specs.Rewrite.{together, rewritten}
use Rattle.rewriting.specs.declared.Held.{Held}
use Rattle.rewriting.specs.Given.{starting, undecided, many_bytes}
use Rattle.rewriting.specs.Reached.{Reached, remaining}
use Rattle.rewriting.specs.Pieces.{calls, AsRewritten, Begins}
use Rattle.rewriting.proofs.OneByte.{held-last}
use Rattle.rewriting.proofs.ManyBytes.{many-kept}

-- ---- the start
pub starting-reached : Reached starting
unfolding undecided
starting-reached = record { room = refl; within = omega arith; waiting = refl }

-- all of the input is still to be rewritten
pub starting_remains : (input : List ℕ) → remaining starting input ≡ rewritten input
starting_remains input = refl

-- ---- calls
calls-reached : (ps : List (List ℕ)) (h : Held) → Reached h → Reached (calls ps h).held
unfolding calls
calls-reached [] h r = r
calls-reached (p ∷ ps) h r = calls-reached ps (many_bytes h p).held (many-kept h p r).reached

calls_remain : (ps : List (List ℕ)) (h : Held) → Reached h → (more : List ℕ)
    → remaining h (together ps ++ more) ≡ (calls ps h).text ++ remaining (calls ps h).held more
unfolding calls together
calls_remain [] h r more = refl
calls_remain (p ∷ ps) h r more =
    let k = many-kept h p r in
    let s = many_bytes h p in
    ap (remaining h) (append_assoc p (together ps) more)
    ∙ k.remains (together ps ++ more)
    ∙ ap (s.text ++◌) (calls_remain ps s.held k.reached more)
    ∙ sym (append_assoc s.text (calls ps s.held).text (remaining (calls ps s.held).held more))

-- With what `close` hands over at the end, it is what is left of the pieces joined.
pub as_rewritten : AsRewritten
as_rewritten ps =
    let s = calls ps starting in
    sym (ap rewritten (sym (append-nil (together ps))) ∙ calls_remain ps starting starting-reached []
    ∙ ap (s.text ++◌) (held-last s.held (calls-reached ps starting starting-reached)))

-- Before the end, it is how that begins, whatever follows.
pub begins : Begins
begins ps more = (remaining (calls ps starting).held more, calls_remain ps starting starting-reached more)
