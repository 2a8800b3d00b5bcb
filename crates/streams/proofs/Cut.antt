-- Where no whole field is left of an input, what is left is one field, and it is refused.
use mathlib.Core.Path.{◌≡◌, refl, sym, ap, ◌∙◌}
use mathlib.Core.Bool.{Bool, true, false, true≢false, ◌||◌}
use mathlib.Core.List.{List, ◌∷◌}
use mathlib.Core.Option.{some}
use Prim.Native.Nat.{ℕ, ◌≤◌}
use native.Mathlib.Omega.{arith}
use borrow.Author.Tests.{ltb-true}
use lib.Dec.{ltb}
use lib.ListN.{length}
use lib.Seq.{take_all}
use Rattle.model.specs.Limits.{last_field}
use Rattle.model.specs.Run.{State, body, meant, ◌if◌, first_of, of_body, causes, refusal, misplaced, cut, field_length, first_field}

-- a cut field is all that is left
cut-first : (rest : List ℕ) → cut rest ≡ true → first_field rest ≡ rest
unfolding cut
cut-first rest e = take_all (field_length rest) rest (go (ltb (length rest) 3) refl e)
  where
    go : (b : Bool) → ltb (length rest) 3 ≡ b → b || ltb (length rest) (field_length rest) ≡ true → length rest ≤ field_length rest
    go true p e = omega (arith, ltb-true (length rest) 3 p)
    go false p e = omega (arith, ltb-true (length rest) (field_length rest) e)

-- and is refused: with 12, 2 or 1
refused_by : (st : State) (f : List ℕ) → cut f ≡ true → (n : ℕ) × (refusal st f ≡ some n)
unfolding causes first_of
refused_by st f e = go (ltb last_field st.count) (misplaced st.count f) (cut f) e
  where
    go : (x y z : Bool) → z ≡ true
        → (n : ℕ) × (first_of ((12 if x) ∷ (2 if y) ∷ (1 if z) ∷ of_body (meant st f) (length (body f))) ≡ some n)
    go true y z e = (12, refl)
    go false true z e = (2, refl)
    go false false true e = (1, refl)
    go false false false e = absurd (true≢false (sym e))

pub cut-refused : (st : State) (rest : List ℕ) → cut rest ≡ true → (n : ℕ) × (refusal st (first_field rest) ≡ some n)
cut-refused st rest e = refused_by st (first_field rest) (ap cut (cut-first rest e) ∙ e)
