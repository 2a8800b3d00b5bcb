-- What a call results in and leaves in its work slices, from what is asked before it is worked out.
use Rattle.std.specs.Prelude.{◌≡◌, List, Bool, ℕ, ℤ, pos, Result, Ok, Err, ⊤}
use Rattle.std.specs.Result.{IsErrAnd}
use Rattle.std.proofs.Common.{sym, ap, ◌∙◌, subst}
use Rattle.std.proofs.Math.Option.{Option}
use Rattle.model.specs.Set.{Zonotope}
use Rattle.model.specs.Run.{Cause, first_of}
use Rattle.zonotope.specs.declared.PolyZonotope.{PolyZonotope}
use Rattle.zonotope.specs.declared.Cause.{Cause as Refusal}
use Rattle.zonotope.specs.Record.{given}
use Rattle.zonotope.specs.Answer.{examined, nothing_found, or_else}
use Rattle.answers.specs.Answer.{resulted, of_result, result-refused}
use Rattle.answers.specs.Order.{or_else_assoc}
use Rattle.stepping.specs.Work.{work_numbers, work_exponents, worked, result-worked}
use Rattle.step.specs.Order.{of_room_and_set, before_stepping, NoTen}
use Rattle.step.proofs.Order.{not_ten, room_not_ten, first_refuses}
use Rattle.step.specs.Left.{not-used, now_cleared}
use Rattle.step.specs.Called.{Called, WorkedOut}

module _ (short : Bool) (s : PolyZonotope) (own : List Cause) (result : Zonotope) {number : Option ℕ}
    (order : number ≡ or_else (before_stepping short (given s) own) (of_result result)) (w₀ : List ℤ) (e₀ : List ℕ) where
  abbrev first : Option ℕ
  first = of_room_and_set short (given s)

  -- refused for room or for the set
  pub room_refused : {x : Refusal} {r : Result PolyZonotope Refusal} → Err x ≡ examined first → IsErrAnd r (λ e. e ≡ x)
      → Called number result r w₀ w₀ e₀ e₀
  room_refused e f =
      let rest = or_else (first_of own) (of_result result) in
      let asked : number ≡ or_else first rest = order ∙ sym (or_else_assoc first (first_of own) (of_result result)) in
      let alone = ap worked asked ∙ first_refuses first rest e ∙ room_not_ten short (given s) e in (
        result-refused first rest asked result e f,
        (not-used (pos 0) work_numbers w₀ alone, not-used 0 work_exponents e₀ alone),
      )

  -- where these pass
  module _ {u : ⊤} (room : Ok u ≡ examined first) where
    asked : number ≡ or_else (first_of own) (of_result result)
    asked = order ∙ ap (λ (o : Option ℕ). or_else (or_else o (first_of own)) (of_result result)) (nothing_found first room)

    -- refused for the call's own numbers
    pub own_refused : NoTen own → {x : Refusal} {r : Result PolyZonotope Refusal} → Err x ≡ examined (first_of own)
        → IsErrAnd r (λ e. e ≡ x) → Called number result r w₀ w₀ e₀ e₀
    own_refused h e f =
        let alone = ap worked asked ∙ first_refuses (first_of own) (of_result result) e ∙ not_ten own h e in (
          result-refused (first_of own) (of_result result) asked result e f,
          (not-used (pos 0) work_numbers w₀ alone, not-used 0 work_exponents e₀ alone),
        )

    -- worked out
    pub call_worked : {v : ⊤} → Ok v ≡ examined (first_of own) → (m : Zonotope) → m ≡ result
        → {r : Result PolyZonotope Refusal} {w : List ℤ} {e : List ℕ} → WorkedOut m r w₀ w e₀ e → Called number result r w₀ w e₀ e
    call_worked accepted m is {r} {w} {e} done =
        let k : WorkedOut result r w₀ w e₀ e = subst (λ (m : Zonotope). WorkedOut m r w₀ w e₀ e) is done in
        let only : number ≡ of_result result =
        asked ∙ ap (λ (o : Option ℕ). or_else o (of_result result)) (nothing_found (first_of own) accepted) in
        let used = ap worked only ∙ result-worked result in (
          k.0 ∙ ap (λ o. resulted o result) (sym only),
          (now_cleared (pos 0) work_numbers w₀ used k.1.0, now_cleared 0 work_exponents e₀ used k.1.1),
        )
