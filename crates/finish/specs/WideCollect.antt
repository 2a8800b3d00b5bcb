-- Collecting wide terms gives the wide terms of what collecting gives.
use Rattle.std.specs.Prelude.{◌≡◌, ℕ, ◌≤◌, length, ◌+ℤ◌}
use Rattle.std.proofs.Math.Path.{refl, ap}
use Rattle.std.proofs.Common.{sym, ◌∙◌, arith}
use mathlib.Core.List.{List, ◌∷◌, map}
use Rattle.whole.specs.Sum.{monoid_ℤ}
use Rattle.rational.specs.Sum.{All, none, more}
use Rattle.rational.proofs.Sum.{All-imp}
use Rattle.model.specs.Set.{Term}
use Rattle.model.specs.Valid.{Order, less, equal, greater, order}
use Rattle.model.specs.Finish.{by_order, plus_term, insert, collect_into, collect}
use Rattle.model.proofs.Vectors.{longer-length}
use Rattle.model.proofs.Lists.{all_both}
use Rattle.model.proofs.Collected.{collect-all}
use Rattle.model.proofs.Shape.{Row}
use Rattle.finish.specs.Wide.{padded, wide_term}
use Rattle.finish.specs.Padded.{padded-longer, padded-order}

-- terms of any length
pub add_wide : (u t : Term) → plus_term (wide_term u) (wide_term t) ≡ wide_term (plus_term u t)
add_wide u t = λ i. record {
  exponents = padded 12 0 u.exponents;
  coefficients = padded-longer monoid_ℤ 6 u.coefficients t.coefficients i;
}

module _ {p : ℕ} (factors : p ≤ 12) where
  -- a term of p factors
  abbrev Long : Term → Type 0
  Long t = length t.exponents ≡ p

  pub order-wide : (t u : Term) → Long t → Long u
      → order (wide_term t).exponents (wide_term u).exponents ≡ order t.exponents u.exponents
  order-wide t u a b = padded-order 12 t.exponents u.exponents (a ∙ sym b) (omega arith)

  pub insert-wide : (t : Term) {us : List Term} → Long t → All Long us
      → (insert (wide_term t) (map wide_term us) ≡ map wide_term (insert t us)) × All Long (insert t us)
  unfolding insert
  insert-wide t a none = (refl, more a none)
  insert-wide t a (more {a = u} {l = us} b bs) =
      rw (order-wide t u a b) (go (order t.exponents u.exponents) (insert-wide t a bs)) where
        go : (o : Order) → (insert (wide_term t) (map wide_term us) ≡ map wide_term (insert t us)) × All Long (insert t us)
            → (by_order o (wide_term t ∷ (wide_term u ∷ map wide_term us)) (plus_term (wide_term u) (wide_term t) ∷ map wide_term us)
            (wide_term u ∷ insert (wide_term t) (map wide_term us))
            ≡ map wide_term (by_order o (t ∷ (u ∷ us)) (plus_term u t ∷ us) (u ∷ insert t us)))
            × All Long (by_order o (t ∷ (u ∷ us)) (plus_term u t ∷ us) (u ∷ insert t us))
        go less ih = (refl, more a (more b bs))
        go equal ih = (ap (◌∷ map wide_term us) (add_wide u t), more b bs)
        go greater ih = (ap (wide_term u ∷◌) ih.0, more b ih.1)

  pub into_wide : {acc ts : List Term} → All Long acc → All Long ts
      → collect_into (map wide_term acc) (map wide_term ts) ≡ map wide_term (collect_into acc ts)
  unfolding collect_into
  into_wide acc none = refl
  into_wide {acc = ks} acc (more {a = t} {l = ts} a rest) = let e = insert-wide t a acc in
      ap (λ (l : List Term). collect_into l (map wide_term ts)) e.0 ∙ into_wide {acc = insert t ks} e.1 rest

  pub collect-wide : {n : ℕ} {ts : List Term} → All (Row p n) ts → collect (map wide_term ts) ≡ map wide_term (collect ts)
  collect-wide rows = into_wide none (All-imp (λ t r. r.exponents-long) rows)

-- collected terms have the rows of the terms
pub collect-rows : {p n : ℕ} {ts : List Term} → All (Row p n) ts → All (Row p n) (collect ts)
collect-rows {p} {n} rows =
    All-imp (λ t h. record { exponents-long = h.0; coefficients-long = h.1 })
    (all_both (collect-all {P = λ t. length t.exponents ≡ p} (λ u t a b. a) (All-imp (λ t r. r.exponents-long) rows))
    (collect-all {P = λ t. length t.coefficients ≡ n}
    (λ u t a b. longer-length ◌+ℤ◌ u.coefficients t.coefficients (a ∙ sym b) ∙ a) (All-imp (λ t r. r.coefficients-long) rows)))
