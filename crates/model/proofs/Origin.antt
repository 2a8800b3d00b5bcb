-- Where the radii come from: over any run the parts of a radius come to the one number that the rules give, and the totals to what folding
-- added in the accepted fields.
use mathlib.Core.Path.{◌≡◌, sym}
use mathlib.Core.List.{List, [], ◌∷◌}
use mathlib.Core.Bool.{Bool, true, false, cond}
use mathlib.Core.Option.{Option, none, some}
use Prim.Native.Nat.{ℕ, ◌+◌, ◌<◌}
use native.Mathlib.Omega.{arith}
use lib.ListN.{get_or}
use Rattle.model.specs.Limits.{max_dimension}
use Rattle.model.specs.Set.{radius, radius_of}
use Rattle.model.specs.Run.{State, begin, current, tag, body, kind_of, meant, refusal, accepted, after, run, accepted_by, refused_at}
use Rattle.model.specs.Origin.{ruled, ruled_after, ruled_over, PartsAreRadius, folded_over, Totals}
use Rattle.model.proofs.Radii.{blank-at}
use Rattle.model.proofs.Sound.{with_folds-at, run_totals}
use Rattle.model.proofs.Kind.{laws}

-- ---- over a run
-- what an accepted field leaves, and another
module _ (st : State) (f : List ℕ) (P : Bool → State → Type 0) where
  -- a claim of both, by whether the field is accepted
  by_field : P true (accepted_by st (meant st f)) → P false (refused_at st) → P false st → P (accepted st f) (after st f)
  unfolding accepted after
  by_field a r o = go st.over (refusal st f)
    where
      go : (b : Bool) (c : Option ℕ) → P (cond b false (elim c [ none ↦ true | some n ↦ false ]))
          (cond b st (elim c [ none ↦ accepted_by st (meant st f) | some n ↦ refused_at st ]))
      go true c = o
      go false none = a
      go false (some n) = r

-- the rules give the radii of the current set
abbrev Ruled : State → (ℕ → ℕ) → Type 0
Ruled st ρ = (i : ℕ) → i < (current st).dimension → ρ i ≡ radius (current st) i

ruled-after : (st : State) (f : List ℕ) (ρ : ℕ → ℕ) → Ruled st ρ → Ruled (after st f) (ruled_after st f ρ)
ruled-after st f ρ e =
    by_field st f (λ b u. Ruled u (λ i.
    cond b (ruled (kind_of (tag f)) (body f) st.next (current st) ρ i + get_or (meant st f).folds i 0) (ρ i)))
    (λ i h. sym ((laws (kind_of (tag f))).ruled-radius (body f) st.next (current st) ρ e i h)) e e

ruled-over : (fs : List (List ℕ)) (st : State) (ρ : ℕ → ℕ) → Ruled st ρ → Ruled (run fs st) (ruled_over st ρ fs)
unfolding run ruled_over
ruled-over [] st ρ e = e
ruled-over (f ∷ fs) st ρ e = ruled-over fs (after st f) (ruled_after st f ρ) (ruled-after st f ρ e)

-- Over any run the four parts come to the radius that the rules give.
pub parts_are_radius : PartsAreRadius
unfolding radius_of
parts_are_radius fields i h = sym (ruled-over fields begin (λ j. 0) (λ j l. absurd (omega arith)) i h)

-- ---- the totals
totals_over : (fs : List (List ℕ)) (st : State) (i : ℕ) → i < max_dimension
    → get_or (run fs st).folded i 0 ≡ get_or st.folded i 0 + folded_over st fs i
unfolding run folded_over
totals_over [] st i h = omega arith
totals_over (f ∷ fs) st i h =
    let one : get_or (after st f).folded i 0 ≡ get_or st.folded i 0 + cond (accepted st f) (get_or (meant st f).folds i 0) 0 =
    by_field st f (λ b u. get_or u.folded i 0 ≡ get_or st.folded i 0 + cond b (get_or (meant st f).folds i 0) 0)
    (with_folds-at st.folded (meant st f).folds i h) (omega arith) (omega arith) in
    omega (arith, one, totals_over fs (after st f) i h)

-- The totals of a run are the sum over its accepted fields of what folding added there, and they fit.
pub totals : Totals
totals fields i h = record {
  sum = omega (arith, totals_over fields begin i h, blank-at max_dimension i);
  fits = run_totals fields i;
}
