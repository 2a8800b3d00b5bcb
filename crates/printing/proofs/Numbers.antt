-- The number of a refused field is that of a cause.
use Rattle.std.specs.Prelude.{◌≡◌, List, [], ◌∷◌, map, Bool, true, false, cond, ℕ, eqb, length, ltb, ⊤}
use Rattle.std.proofs.Common.{refl, sym, ◌∙◌, subst, true≢false, eqb-true}
use Rattle.std.proofs.Math.Option.{some}
use Rattle.model.specs.Limits.{last_field}
use Rattle.model.specs.Described.{body_order, within}
use Rattle.model.specs.Run as Model
use Rattle.model.specs.Run.{Cause, first_of, tag, body, kind_of, current, meant, misplaced, cut, of_body, causes, refusal}
use Rattle.model.proofs.Kind.{laws}
use Rattle.printing.specs.Line.{Numbered}

AllNumbered : List ℕ → Type 0
AllNumbered [] = ⊤
AllNumbered (n ∷ l) = Numbered n × AllNumbered l

-- the first cause that holds, of causes whose numbers are some of a list's
first_numbered : (cs : List Cause) (l : List ℕ) → AllNumbered l → within (map (λ (c : Cause). c.number) cs) l ≡ true → (n : ℕ)
    → first_of cs ≡ some n → Numbered n
unfolding first_of within AllNumbered
first_numbered [] l k w n e = absurd cc
first_numbered (c ∷ cs) [] k w n e = absurd (true≢false (sym w))
first_numbered (c ∷ cs) (d ∷ l) k w n e =
    go (eqb c.number d) refl c.holds (λ w e. first_numbered cs l k.1 w n e) (λ w. first_numbered (c ∷ cs) l k.1 w n e) w e
  where
    go : (b : Bool) → eqb c.number d ≡ b → (h : Bool)
        → (within (map (λ (c : Cause). c.number) cs) l ≡ true → first_of cs ≡ some n → Numbered n)
        → (within (c.number ∷ map (λ (c : Cause). c.number) cs) l ≡ true → Numbered n)
        → cond b (within (map (λ (c : Cause). c.number) cs) l) (within (c.number ∷ map (λ (c : Cause). c.number) cs) l) ≡ true
        → cond h (some c.number) (first_of cs) ≡ some n → Numbered n
    go true q true later again w e = let s : c.number ≡ n = cc in subst Numbered (sym (eqb-true c.number d q) ∙ s) k.0
    go true q false later again w e = later w e
    go false q h later again w e = again w

pub refusal_numbered : (u : Model.State) (f : List ℕ) (n : ℕ) → refusal u f ≡ some n → Numbered n
unfolding causes first_of AllNumbered
refusal_numbered u f n e = go (ltb last_field u.count) (misplaced u.count f) (cut f) e
  where
    of_its_body : List Cause
    of_its_body = of_body (meant u f) (length (body f))

    order : AllNumbered body_order
    order = (refl, (refl, (refl, (refl, (refl, (refl, (refl, (refl, (refl, (refl, tt))))))))))

    go : (x y z : Bool) → cond x (some 12) (cond y (some 2) (cond z (some 1) (first_of of_its_body))) ≡ some n → Numbered n
    go true y z e = let s : 12 ≡ n = cc in subst Numbered s refl
    go false true z e = let s : 2 ≡ n = cc in subst Numbered s refl
    go false false true e = let s : 1 ≡ n = cc in subst Numbered s refl
    go false false false e =
        first_numbered of_its_body body_order order ((laws (kind_of (tag f))).in_order (body f) u.next (current u) (length (body f))) n e
