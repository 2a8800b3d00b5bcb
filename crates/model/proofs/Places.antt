-- The place of a field: there it stands in the input.
use mathlib.Core.Path.{◌≡◌, refl, sym, ap, ◌∙◌}
use mathlib.Core.List.{List, [], ◌∷◌}
use Prim.Native.Nat.{ℕ, zero, suc, ◌+◌, ◌<◌}
use native.Mathlib.Omega.{arith}
use lib.ListN.{length, get_or, take, drop, take-append-drop}
use lib.Seq.{take-append_seam, drop-append-add}
use Rattle.model.specs.Run.{field_length, fields, fields_within}
use Rattle.model.specs.Promised.{field_at, place_of}

within : (n : ℕ) (s : List ℕ) (m : ℕ) → m < length (fields_within n s)
    → take (length (get_or (fields_within n s) m [])) (drop (place_of (fields_within n s) m) s) ≡ get_or (fields_within n s) m []
unfolding fields_within place_of
within zero s m h = absurd (omega arith)
within (suc n) [] m h = absurd (omega arith)
within (suc n) (t ∷ rest) zero h =
    let s = t ∷ rest in let f = take (field_length s) s in
    ap (take (length f)) (sym (take-append-drop (field_length s) s)) ∙ take-append_seam f (drop (field_length s) s)
within (suc n) (t ∷ rest) (suc m) h =
    let s = t ∷ rest in let f = take (field_length s) s in let r = drop (field_length s) s in let fs = fields_within n r in
    ap (λ x. take (length (get_or fs m [])) (drop (length f + place_of fs m) x)) (sym (take-append-drop (field_length s) s))
    ∙ ap (take (length (get_or fs m []))) (drop-append-add f r (place_of fs m)) ∙ within n r m (omega arith)

-- A field stands in the input at its place.
pub field_stands : (input : List ℕ) (m : ℕ) → m < length (fields input)
    → take (length (field_at input m)) (drop (place_of (fields input) m) input) ≡ field_at input m
unfolding fields place_of
field_stands [] zero h = refl
field_stands [] (suc m) h = absurd (omega arith)
field_stands (t ∷ rest) m h = within (length (t ∷ rest)) (t ∷ rest) m h
