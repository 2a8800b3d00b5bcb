-- A set's points depend on the values of its own identifiers only, in their order: so they stay where identifiers are renumbered.
use mathlib.Core.Path.{◌≡◌, refl, sym, ◌∙◌, ap, ap₂}
use mathlib.Core.List.{List, [], ◌∷◌, map}
use mathlib.Core.Logic.{◌↔◌}
use Prim.Native.Nat.{ℕ, ◌+◌}
use lib.ListN.{length, get_or}
use Rattle.whole.specs.Tab.{tab, tab_cong, map-tab, tab_get_d}
use Rattle.rational.specs.Rational.{ℚ, ◌*ℚ◌, ι, 1ℚ}
use Rattle.rational.specs.Power.{power}
use Rattle.rational.specs.Sum.{All, none, more}
use Rattle.rational.proofs.Sum.{sum_cong}
use Rattle.model.specs.Set.{Term, Zonotope, at}
use Rattle.model.specs.Operations.{renumbered}
use Rattle.model.specs.Points.{Vector, monomial, terms_at, Point}
use Rattle.model.specs.Precision.{Renumbers}
use Rattle.model.proofs.Alike.{with_factors, points_as}

-- the monomial of a list of values
unfoldable powers : List ℚ → List ℕ → ℚ
powers [] es = 1ℚ
powers (a ∷ l) [] = 1ℚ
powers (a ∷ l) (e ∷ es) = power a e *ℚ powers l es

monomial-powers : (α : Vector) (ks es : List ℕ) → monomial α ks es ≡ powers (map α ks) es
unfolding monomial powers
monomial-powers α [] es = refl
monomial-powers α (k ∷ ks) [] = refl
monomial-powers α (k ∷ ks) (e ∷ es) = ap (power (α k) e *ℚ◌) (monomial-powers α ks es)

terms_by_values : (α β : Vector) (ks js : List ℕ) → map α ks ≡ map β js → (ts : List Term) (i : ℕ)
    → terms_at α ks ts i ≡ terms_at β js ts i
unfolding terms_at
terms_by_values α β ks js e ts i =
    sum_cong (λ t. ι (at t.coefficients i) *ℚ monomial α ks t.exponents)
    (λ t. ι (at t.coefficients i) *ℚ monomial β js t.exponents) ts
    (λ t. ap (ι (at t.coefficients i) *ℚ◌)
    (monomial-powers α ks t.exponents ∙ ap (λ l. powers l t.exponents) e ∙ sym (monomial-powers β js t.exponents)))

-- other identifiers with the same values
points_by_values : (s : Zonotope) (α β : Vector) (js : List ℕ) {x : Vector} → map α s.identifiers ≡ map β js
    → Point s α x ↔ Point (with_factors s js s.terms) β x
points_by_values s α β js e = (
  points_as s js s.terms (terms_by_values α β s.identifiers js e s.terms),
  points_as (with_factors s js s.terms) s.identifiers s.terms (terms_by_values β α js s.identifiers (sym e) s.terms),
)

map-all : {α β : Vector} {ks : List ℕ} → All (λ k. α k ≡ β k) ks → map α ks ≡ map β ks
map-all none = refl
map-all (more h t) = ap₂ ◌∷◌ h (map-all t)

-- values that agree on a set's identifiers give it the same points
pub same-values : {s : Zonotope} {α β x : Vector} → All (λ k. α k ≡ β k) s.identifiers → Point s α x ↔ Point s β x
same-values {s} {α} {β} h = points_by_values s α β s.identifiers (map-all h)

-- a renumbered set has the points of the set
pub renumbered_points : (next : ℕ) (u : Zonotope) {β γ x : Vector} → Renumbers next u.identifiers β γ
    → Point u β x ↔ Point (renumbered next u) γ x
unfolding renumbered
renumbered_points next u {β} {γ} h = let ks = u.identifiers in let n = length ks in
    points_by_values u β γ (tab n (λ j. next + j))
    (ap (map β) (sym (tab_get_d n ks 0 refl)) ∙ map-tab β n (λ j. get_or ks j 0)
    ∙ sym (map-tab γ n (λ j. next + j) ∙ tab_cong n (λ j. γ (next + j)) (λ j. β (get_or ks j 0)) h))
