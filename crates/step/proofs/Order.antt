-- The order of a call's causes, and what is left where nothing refuses.
use Rattle.std.specs.Prelude.{◌≡◌, refl, List, [], ◌∷◌, Bool, true, false, not, cond, ℕ, ltb, eqb, Ok, Err, ⊤}
use Rattle.std.proofs.Common.{ap, ◌∙◌, ltb-false}
use Rattle.std.proofs.Math.Option.{Option, none, some}
use Rattle.std.proofs.lemmas.Bool.{not-true}
use Rattle.whole.specs.Tab.{all}
use Rattle.whole.specs.Tests.{or_left, or_right}
use Rattle.model.specs.Limits.{standard_weights}
use Rattle.model.specs.Set.{Zonotope}
use Rattle.model.specs.Valid.{is_too_wide}
use Rattle.model.specs.Step.{Step, step}
use Rattle.model.specs.Ranged.{Widths, ranged_step}
use Rattle.model.specs.Run.{Cause, ◌if◌, first_of}
use Rattle.model.specs.Library.{Given, of_first, of_step, of_ranged_step, examine, work_refusal, step_refusal, ranged_refusal}
use Rattle.model.proofs.Tests.{and_true}
use Rattle.zonotope.specs.declared.PolyZonotope.{PolyZonotope}
use Rattle.zonotope.specs.declared.Cause.{Cause as Refusal}
use Rattle.zonotope.specs.Record.{given}
use Rattle.zonotope.specs.Shape.{Sized}
use Rattle.zonotope.specs.Valid.{Unrefused, valid, passed}
use Rattle.zonotope.specs.Answer.{examined, nothing_found, or_else}
use Rattle.answers.specs.Answer.{of_result}
use Rattle.answers.specs.Order.{in_order, neither}
use Rattle.stepping.specs.Work.{work_numbers, work_exponents, worked}
use Rattle.step.specs.Answer.{without_room}
use Rattle.step.specs.Order.{of_room_and_set, before_stepping, NoTen, Acceptable}

-- ---- the order of a call's causes
work_order : (short : Bool) (g : Given) (own : List Cause) (result : Zonotope)
    → work_refusal short g own result ≡ or_else (before_stepping short g own) (of_result result)
unfolding first_of
work_order true g own result = refl
work_order false g own result = in_order g own ((10 if is_too_wide result) ∷ [])

module _ (short : Bool) (p : Step) (g : Given) where
  pub step-order : step_refusal short p g
      ≡ or_else (before_stepping short g (of_step p g.set.dimension)) (of_result (step standard_weights p g.set))
  unfolding step_refusal
  step-order = work_order short g _ _

  pub ranged-order : (d : Widths) → ranged_refusal short p d g
      ≡ or_else (before_stepping short g (of_ranged_step p d g.set.dimension)) (of_result (ranged_step standard_weights p d g.set))
  unfolding ranged_refusal
  ranged-order d = work_order short g _ _

-- ---- a refusal by what is asked before is not for the result
module _ {x : Refusal} where
  pub not_ten : (k : List Cause) → NoTen k → Err x ≡ examined (first_of k) → worked (first_of k) ≡ false
  unfolding first_of all
  not_ten [] h e = absurd cc
  not_ten (c ∷ k) h e =
      let both = and_true (not (eqb c.number 10)) (all (λ c. not (eqb c.number 10)) k) h in
      go c.holds both.0 (not_ten k both.1) e
    where
      go : (b : Bool) → not (eqb c.number 10) ≡ true → (Err x ≡ examined (first_of k) → worked (first_of k) ≡ false)
          → Err x ≡ examined (cond b (some c.number) (first_of k)) → worked (cond b (some c.number) (first_of k)) ≡ false
      go true n rest e = not-true (eqb c.number 10) n
      go false n rest e = rest e

  pub room_not_ten : (short : Bool) (g : Given) → Err x ≡ examined (of_room_and_set short g) → worked (of_room_and_set short g) ≡ false
  unfolding examine all
  room_not_ten true g e = refl
  room_not_ten false g e = not_ten (of_first g) refl e

  -- a refusal that is asked first is the call's
  pub first_refuses : (o p : Option ℕ) → Err x ≡ examined o → worked (or_else o p) ≡ worked o
  first_refuses none p e = absurd cc
  first_refuses (some n) p e = refl

pub all-passed : (g : Given) (own : List Cause) (short : Bool) → before_stepping short g own ≡ none
    → (short ≡ false) × Unrefused g × (first_of own ≡ none)
all-passed g own short e =
    let parts = neither (of_room_and_set short g) (first_of own) e in
    let room = passed short 13 parts.0 in
    (room.0, valid g room.1, parts.1)

pub acceptable : (s : PolyZonotope) (own : List Cause) (numbers exponents : ℕ) {u v : ⊤}
    → Ok u ≡ examined (of_room_and_set (without_room numbers exponents) (given s)) → Sized s → Ok v ≡ examined (first_of own)
    → Acceptable s own numbers exponents
acceptable s own numbers exponents room sized accepted =
    let nothing = ap (λ (o : Option ℕ). or_else o (first_of own)) (nothing_found _ room) ∙ nothing_found _ accepted in
    let parts = all-passed (given s) own (without_room numbers exponents) nothing in
    record {
      set = record { sized = sized; passed = parts.1 };
      own = parts.2;
      numbers_room = ltb-false numbers work_numbers (or_left (ltb numbers work_numbers) (ltb exponents work_exponents) parts.0);
      exponents_room = ltb-false exponents work_exponents (or_right (ltb numbers work_numbers) (ltb exponents work_exponents) parts.0);
    }
