-- Dropping the factors that occur in no term leaves the points of a set as they are.
use mathlib.Core.Path.{◌≡◌, refl, sym, ◌∙◌, ap, subst}
use mathlib.Core.List.{List, [], ◌∷◌, map}
use mathlib.Core.Bool.{Bool, true, false, not, cond}
use Prim.Native.Nat.{ℕ, suc, ◌+◌}
use native.Mathlib.Omega.{arith}
use lib.Dec.{T, ltb, nltb→le}
use lib.ListN.{get_or}
use mir.Facts.{or_no}
use Rattle.whole.specs.Tab.{any}
use Rattle.rational.specs.Rational.{◌*ℚ◌, ι, 1ℚ}
use Rattle.rational.proofs.Ring.{one-*ℚ}
use Rattle.rational.specs.Power.{power}
use Rattle.rational.specs.Sum.{All, none, more}
use Rattle.rational.proofs.Sum.{All-imp, sum-map, sum_cong_all}
use Rattle.model.specs.Set.{Term, Zonotope, at}
use Rattle.model.specs.Valid.{occurs}
use Rattle.model.specs.Finish.{keep_at, keep_exponents, drop_unused}
use Rattle.model.specs.Points.{Vector, monomial, terms_at}
use Rattle.model.proofs.Alike.{Alike, alike_factors}

monomial_none : (α : Vector) (ks : List ℕ) → monomial α ks [] ≡ 1ℚ
unfolding monomial
monomial_none α [] = refl
monomial_none α (k ∷ ks) = refl

-- factors whose exponents are 0 may go
monomial-kept : (α : Vector) (p : ℕ → Bool) (j : ℕ) (ks es : List ℕ) → ((n : ℕ) → T (not (p (j + n))) → get_or es n 0 ≡ 0)
    → monomial α ks es ≡ monomial α (keep_at p j ks) (keep_at p j es)
unfolding monomial keep_at power
monomial-kept α p j [] es z = refl
monomial-kept α p j (k ∷ ks) [] z = sym (monomial_none α (keep_at p j (k ∷ ks)))
monomial-kept α p j (k ∷ ks) (e ∷ es) z =
    go (p j) (λ t. z 0 (subst (λ n. T (not (p n))) (omega arith) t))
    (monomial-kept α p (j + 1) ks es (λ n t. z (suc n) (subst (λ m. T (not (p m))) (omega arith) t)))
  where
    go : (b : Bool) → (T (not b) → e ≡ 0) → monomial α ks es ≡ monomial α (keep_at p (j + 1) ks) (keep_at p (j + 1) es)
        → power (α k) e *ℚ monomial α ks es
        ≡ monomial α (cond b (k ∷ keep_at p (j + 1) ks) (keep_at p (j + 1) ks)) (cond b (e ∷ keep_at p (j + 1) es) (keep_at p (j + 1) es))
    go true h ih = ap (power (α k) e *ℚ◌) ih
    go false h ih = ap (λ n. power (α k) n *ℚ monomial α ks es) (h tt) ∙ one-*ℚ (monomial α ks es) ∙ ih

-- where no term has the factor at place j, each has exponent 0 there
pub unused_zero : (p : ℕ → Bool) (ts : List Term) → ((j : ℕ) → T (not (p j)) → T (not (occurs ts j)))
    → All (λ t. (j : ℕ) → T (not (p j)) → get_or t.exponents j 0 ≡ 0) ts
unfolding any
unused_zero p [] h = none
unused_zero p (t ∷ ts) h =
    more {a = t} (λ j n. omega (
      arith,
      nltb→le 0 (get_or t.exponents j 0)
          (or_no (ltb 0 (get_or t.exponents j 0)) (occurs ts j) (h j n)).0,
    ))
    (unused_zero p ts (λ j n. (or_no (ltb 0 (get_or t.exponents j 0)) (occurs ts j) (h j n)).1))

-- stage 5: the points stay
pub unused_alike : (s : Zonotope) → Alike s (drop_unused s)
unfolding drop_unused terms_at
unused_alike s =
    let p = occurs s.terms in let ids = s.identifiers in
    alike_factors s (keep_at p 0 ids) (map (keep_exponents p) s.terms) (λ α i.
    sum_cong_all (All-imp (λ t z. ap (ι (at t.coefficients i) *ℚ◌)
    (monomial-kept α p 0 ids t.exponents (λ n h. z n (subst (λ m. T (not (p m))) (omega arith) h))))
    (unused_zero p s.terms (λ j n. n)))
    ∙ sym (sum-map (λ t. ι (at t.coefficients i) *ℚ monomial α (keep_at p 0 ids) t.exponents) (keep_exponents p) s.terms))
