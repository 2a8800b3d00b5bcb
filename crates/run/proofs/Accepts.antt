-- An answer accepts its field exactly where the definitions do, and what its case tells of the outcome.
use mathlib.Core.Path.{◌≡◌, refl, ◌∙◌, ap}
use mathlib.Core.List.{List}
use mathlib.Core.Option.{Option, none, some}
use mathlib.Core.Bool.{Bool, true, false, cond}
use Prim.Native.Nat.{ℕ}
use native.Mathlib.Omega.{arith}
use Rattle.model.specs.Set.{Zonotope}
use Rattle.model.specs.Field as Model
use Rattle.model.specs.Field.{Kind, unknown, inside, verdict, refused, skipped, meaning}
use Rattle.model.specs.Run as Run
use Rattle.model.specs.Run.{tag, body, kind_of, current, meant, refusal, accepted, outcome}
use Rattle.model.proofs.Accepted.{no_refusal}
use Rattle.model.proofs.ByKind.{known}
use Rattle.model.proofs.Answers.{Answers, with-box, with_verdict, with_nothing, answers}
use Rattle.states.specs.declared.Outcome.TheVariants.{Inside, Safe}
use Rattle.states.specs.Answer.{outcome_of, box_of, accepts}

-- ---- what is answered where no cause holds
answered : (k : Kind) (b : List ℕ) (next : ℕ) (s : Zonotope) → (k ≡ unknown → ⊥) → accepts (outcome_of (meaning k b next s).outcome) ≡ true
answered k b next s h = go (answers k b next s)
  where
    judged : (v : Bool) → accepts (outcome_of (verdict v)) ≡ true
    judged true = refl
    judged false = refl

    go : Answers k (meaning k b next s) → accepts (outcome_of (meaning k b next s).outcome) ≡ true
    go (with-box e) = ap (λ (o : Model.Outcome). accepts (outcome_of o)) e
    go (with_verdict v e) = ap (λ (o : Model.Outcome). accepts (outcome_of o)) e ∙ judged v
    go (with_nothing e s) = absurd (h e)

-- An answer accepts its field where the definitions do.
pub accepts_is : (place : ℕ) (u : Run.State) (f : List ℕ) → accepts (outcome_of (outcome place u f)) ≡ accepted u f
unfolding outcome accepted
accepts_is place u f = go u.over (refusal u f) refl refl
  where
    go : (b : Bool) (o : Option ℕ) → u.over ≡ b → refusal u f ≡ o
        → accepts (outcome_of (cond b skipped (elim o [ none ↦ (meant u f).outcome | some n ↦ refused n place ])))
        ≡ cond b false (elim o [ none ↦ true | some n ↦ false ])
    go true o p q = refl
    go false (some n) p q = refl
    go false none p q = let a = no_refusal u f p q in
        answered (kind_of (tag f)) (body f) u.next (current u) (known u.count f a.placed a.whole)

-- ---- what the case of an answer tells of the outcome
pub inside_is : (o : Model.Outcome) → outcome_of o ≡ Inside → o ≡ inside (box_of o)
inside_is (inside b) e = refl
inside_is (verdict true) e = let z : ◌≡◌ {A = ℕ} 0 1 = cc in absurd (omega arith)
inside_is (verdict false) e = let z : ◌≡◌ {A = ℕ} 0 1 = cc in absurd (omega arith)
inside_is (refused n place) e = let z : ◌≡◌ {A = ℕ} 0 1 = cc in absurd (omega arith)
inside_is skipped e = let z : ◌≡◌ {A = ℕ} 0 1 = cc in absurd (omega arith)

pub safe_is : (o : Model.Outcome) → outcome_of o ≡ Safe → o ≡ verdict true
safe_is (inside b) e = let z : ◌≡◌ {A = ℕ} 0 1 = cc in absurd (omega arith)
safe_is (verdict true) e = refl
safe_is (verdict false) e = let z : ◌≡◌ {A = ℕ} 0 1 = cc in absurd (omega arith)
safe_is (refused n place) e = let z : ◌≡◌ {A = ℕ} 0 1 = cc in absurd (omega arith)
safe_is skipped e = let z : ◌≡◌ {A = ℕ} 0 1 = cc in absurd (omega arith)
