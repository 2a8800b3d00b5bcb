-- What is printed where the input ends and no whole field is left: the lines that close an output.
use mathlib.Core.Path.{◌≡◌, refl, sym, ap, ◌∙◌, subst}
use mathlib.Core.Bool.{true, false, cond}
use mathlib.Core.List.{List, [], ◌∷◌, ◌++◌}
use Prim.Native.Nat.{ℕ, zero, suc, ◌-◌}
use native.Mathlib.Omega.{arith}
use lib.ListN.{length}
use Rattle.model.specs.Run.{State, cut, first_field}
use Rattle.model.specs.Text.{folded_line, end_line, closing, lines_from}
use Rattle.model.specs.Rest.{printed_from}
use Rattle.model.proofs.Cutting.{fields_after, first-left, last_line}
use Rattle.model.proofs.LastLine.{refusal_is_last}
use Rattle.streams.proofs.Cut.{cut-refused}
use Rattle.motion.specs.Streamed.{Closes, ended, refused}

pub cut_closes : (place : ℕ) (st : State) (rest : List ℕ) → st.over ≡ false → cut rest ≡ true → Closes (printed_from place st rest)
unfolding closing
cut_closes place st rest on e = go rest st.count refl e
  where
    field-left : (rest : List ℕ) → (length rest ≡ 0 → st.count ≡ 0) → cut rest ≡ true → Closes (printed_from place st rest)
    field-left rest h e =
        let c = cut-refused st rest e in
        subst Closes (sym (ap (lines_from place st) (first-left st.count rest h)
        ∙ refusal_is_last place st (first_field rest) (fields_after rest) c.0 on c.1))
        (refused st.count c.0 place)

    go : (rest : List ℕ) (n : ℕ) → st.count ≡ n → cut rest ≡ true → Closes (printed_from place st rest)
    go [] (suc n) p e =
        subst Closes (sym (last_line place st (omega arith) ∙ ap (λ b. cond b [] (folded_line st.folded ++ end_line (st.count - 1))) on))
        (ended st.folded (st.count - 1))
    go [] zero p e = field-left [] (λ _. p) e
    go (t ∷ rest) n p e = field-left (t ∷ rest) (λ h. absurd (omega arith)) e
