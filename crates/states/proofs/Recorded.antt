-- The record of a state that the definitions call sound: it means that state, and a field leaves the record of what the definitions leave.
use Rattle.std.specs.Prelude.{◌≡◌, refl, List, Bool, true, false, not, ltb, eqb, length}
use Rattle.std.proofs.Math.Path.{sym, ap, subst}
use Rattle.std.proofs.Common.{◌∙◌, true≢false, le-ltb, lt-ltb, ne_eqb, eq-eqb}
use Rattle.std.proofs.Math.Option.{Option, none, some}
use Rattle.std.proofs.Math.Bool.{cond}
use Prim.Native.Nat.{ℕ, zero, suc, ◌<◌}
use native.Mathlib.Omega.{arith}
use Rattle.rational.proofs.Sum.{All-imp}
use Rattle.model.specs.Limits.{first_fresh, last_fresh, record_identifiers}
use Rattle.model.specs.Set.{Zonotope}
use Rattle.model.specs.Run as Model
use Rattle.model.specs.Run.{current, refusal, meant, accepted_by, refused_at, after, answer, first_of}
use Rattle.model.specs.Library.{of_first, bad_next}
use Rattle.model.proofs.Tests.{false-any}
use Rattle.model.proofs.Shape as Shape
use Rattle.model.proofs.Sound.{Sound, next_in}
use Rattle.zonotope.specs.Record.{view, pack, spare, given}
use Rattle.zonotope.proofs.ViewPack.{view-pack, spare-pack}
use Rattle.states.specs.declared.State.{State}
use Rattle.states.specs.State.{viewed, record_of, left}
use Rattle.states.specs.Answer.{answer_of}
use Rattle.states.specs.Taken.{taken}

-- ---- the record of a valid set
module _ {m : Zonotope} (v : Shape.Valid record_identifiers m) where
  -- means that set
  pub means : view (pack m) ≡ m
  means = view-pack m v.shaped v.counts

  -- has no spare place
  pub no_spare : spare (pack m) ≡ false
  no_spare = spare-pack m v.shaped

  -- and passes every test of a given set
  pub passes : first_of (of_first (given (pack m))) ≡ none
  unfolding first_of
  passes =
      subst (λ u. first_of (of_first (record { set = u; spare = spare (pack m) })) ≡ none) (sym means)
      (rw (no_spare, v.counts, v.ranges, v.ordered, v.narrow))

-- ---- the record of a state
module _ {u : Model.State} (s : Sound u) where
  -- the next identifier is in its range and above the set's identifiers
  pub next_fits : bad_next u.next (current u) ≡ false
  next_fits =
      rw (le-ltb u.next first_fresh s.from_first, le-ltb last_fresh u.next (next_in s))
      (false-any (λ k. not (ltb k u.next)) (All-imp (λ k h. ap not (lt-ltb k u.next h)) s.below))

  -- it means that state
  pub viewed_record : viewed (record_of u) ≡ u
  unfolding viewed
  viewed_record =
      ap (λ x. record { set = x; next = u.next; count = u.count; over = u.over; folded = u.folded }) (by_count u.count refl)
    where
      by_count : (n : ℕ) → u.count ≡ n → cond (eqb u.count 0) none (some (view (pack (current u)))) ≡ u.set
      by_count zero e = rw (eq-eqb u.count 0 e) (sym (s.not_yet e))
      by_count (suc n) e =
          let h : 0 < u.count = omega arith in
          rw (ne_eqb u.count 0 (λ z. omega arith)) (ap some (means (s.valid h)) ∙ sym (s.there h))

-- ---- one field
-- a run that is over, before or by this field, keeps its set
over_keeps : (u : Model.State) (f : List ℕ) → (after u f).over ≡ true → current u ≡ current (after u f)
unfolding after
over_keeps u f = go u.over (refusal u f)
  where
    go : (b : Bool) (o : Option ℕ) → (let x = cond b u (elim o [ none ↦ accepted_by u (meant u f) | some n ↦ refused_at u ]) in
        x.over ≡ true → current u ≡ current x)
    go true o e = refl
    go false none e = absurd (true≢false (sym e))
    go false (some n) e = refl

-- an accepted field leaves the record of its result; another leaves the set
left_record : (u : Model.State) (f : List ℕ) → left (record_of u) (after u f) ≡ record_of (after u f)
unfolding left
left_record u f =
    let v = after u f in
    ap (λ x. record { set = x; next = v.next; count = v.count; over = v.over; folded = v.folded }) (go v.over refl)
  where
    go : (b : Bool) → (after u f).over ≡ b → cond b (pack (current u)) (pack (current (after u f))) ≡ pack (current (after u f))
    go true e = ap pack (over_keeps u f e)
    go false e = refl

pub taken_record : {u : Model.State} → Sound u → (place : ℕ) (f : List ℕ)
    → taken place (record_of u) f ≡ record { answer = answer_of (answer place u f) (length f); state = record_of (after u f) }
unfolding taken
taken_record {u} s place f =
    rw (viewed_record s) (ap (λ (x : State). record { answer = answer_of (answer place u f) (length f); state = x }) (left_record u f))
