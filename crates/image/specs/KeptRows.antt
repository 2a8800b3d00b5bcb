-- Terms of zeros that are left out: they round to zeros, and are no inexact roundings.
use Rattle.std.specs.Prelude.{true, List, [], ◌∷◌, map, ◌≡◌, refl, ℕ, zero, suc, ◌+◌, ℤ, pos, nat_abs}
use Rattle.std.proofs.Math.Bool.{and-eq-true_iff}
use Rattle.std.proofs.lemmas.List.{map-append}
use Rattle.std.proofs.Common.{sym, ◌∙◌, ap, ap₂, add-zero, eqb-true}
use Rattle.whole.specs.Round.{round, inexact}
use Rattle.whole.specs.Size.{abs_zero}
use Rattle.whole.specs.Sum.{monoid_ℕ, sum_by, sum_ℕ, sum-++}
use Rattle.whole.specs.Tab.{all}
use Rattle.rational.specs.Sum.{All, none, more}
use Rattle.rational.proofs.Sum.{All-imp, All-map}
use Rattle.model.specs.Set.{Term, at}
use Rattle.model.specs.Valid.{is_zero, zeros}
use Rattle.raw.specs.Kept.{Zero, Kept}
use Rattle.image.specs.Rounding.{round_term, round-zero, zero-exact}

-- the numbers of a list of zeros
module _ (x : ℤ) (v : List ℤ) (e : zeros (x ∷ v) ≡ true) where
  head_zero : x ≡ pos 0
  unfolding all
  head_zero = abs_zero {a = x} (eqb-true (nat_abs x) 0 ((and-eq-true_iff (is_zero x) (zeros v)).0 e).0)

  tail_zero : zeros v ≡ true
  unfolding all
  tail_zero = ((and-eq-true_iff (is_zero x) (zeros v)).0 e).1

zeros-round : (v : List ℤ) → zeros v ≡ true → zeros (map round v) ≡ true
unfolding all
zeros-round [] e = refl
zeros-round (x ∷ v) e = rw (head_zero x v e, round-zero) (zeros-round v (tail_zero x v e))

zeros-exact : (v : List ℤ) → zeros v ≡ true → (i : ℕ) → inexact (at v i) ≡ 0
zeros-exact [] e i = zero-exact
zeros-exact (x ∷ v) e zero = ap inexact (head_zero x v e) ∙ zero-exact
zeros-exact (x ∷ v) e (suc i) = zeros-exact v (tail_zero x v e) i

pub kept-round : {xs ys : List Term} → Kept xs ys → Kept (map round_term xs) (map round_term ys)
kept-round {xs} k = record {
  rest = map round_term k.rest;
  whole = ap (map round_term) k.whole ∙ map-append round_term xs k.rest;
  zero = All-map round_term (All-imp (λ t e. zeros-round t.coefficients e) k.zero);
}

none_counted : {ts : List Term} → All Zero ts → (i : ℕ) → sum_ℕ (λ t. inexact (at t.coefficients i)) ts ≡ 0
unfolding sum_by
none_counted none i = refl
none_counted (more {a = t} e r) i = ap₂ ◌+◌ (zeros-exact t.coefficients e i) (none_counted r i)

pub kept-counted : {xs ys : List Term} → Kept xs ys → (i : ℕ)
    → sum_ℕ (λ t. inexact (at t.coefficients i)) xs ≡ sum_ℕ (λ t. inexact (at t.coefficients i)) ys
kept-counted {xs} k i =
    let f : Term → ℕ = λ t. inexact (at t.coefficients i) in
    sym (ap (sum_ℕ f) k.whole
    ∙ sum-++ monoid_ℕ f xs k.rest
    ∙ ap (λ (n : ℕ). sum_ℕ f xs + n) (none_counted k.zero i)
    ∙ add-zero (sum_ℕ f xs))
