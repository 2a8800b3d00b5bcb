-- Exponents written for more factors: the identifiers of both summands are found in order in their union, and a monomial keeps its value.
use mathlib.Core.Path.{◌≡◌, refl, sym, ◌∙◌, ap, subst}
use mathlib.Core.List.{List, [], ◌∷◌}
use mathlib.Core.Bool.{true}
use Prim.Native.Nat.{ℕ, ◌<◌, ◌≤◌}
use native.Mathlib.Omega.{arith}
use lib.Dec.{T, ltb, ltb→lt, nltb→le}
use borrow.Author.Tests.{eq-eqb, ne_eqb}
use mir.Facts.{and_yes}
use Rattle.rational.specs.Rational.{◌*ℚ◌, 1ℚ}
use Rattle.rational.proofs.Ring.{one-*ℚ}
use Rattle.rational.specs.Power.{power}
use Rattle.model.specs.Valid.{rises}
use Rattle.model.specs.Operations.{insert_identifier, union, align}
use Rattle.model.specs.Points.{Vector, monomial}
use Rattle.model.proofs.Choice.{by_test}

-- ks are found in ms, in order; what is passed over is less
pub data Found : List ℕ → List ℕ → Type 0 where
  all_found : (ms : List ℕ) → Found [] ms
  here : {k : ℕ} {ks ms : List ℕ} → Found ks ms → Found (k ∷ ks) (k ∷ ms)
  later : {k m : ℕ} {ks ms : List ℕ} → m < k → Found (k ∷ ks) ms → Found (k ∷ ks) (m ∷ ms)

-- ---- the value of a monomial
-- without exponents all are 0
no_exponents : (α : Vector) (ks ms : List ℕ) → 1ℚ ≡ monomial α ms (align ks [] ms)
unfolding monomial align power
no_exponents α ks [] = refl
no_exponents α [] (m ∷ ms) = no_exponents α [] ms ∙ sym (one-*ℚ (monomial α ms (align [] [] ms)))
no_exponents α (k ∷ ks) (m ∷ ms) = no_exponents α (k ∷ ks) ms ∙ sym (one-*ℚ (monomial α ms (align (k ∷ ks) [] ms)))

-- a monomial keeps its value where its factors are found
pub monomial-aligned : (α : Vector) {ks ms : List ℕ} → Found ks ms → (es : List ℕ) → monomial α ks es ≡ monomial α ms (align ks es ms)
unfolding monomial align power
monomial-aligned α (all_found []) es = refl
monomial-aligned α (all_found (m ∷ ms)) es = monomial-aligned α (all_found ms) es ∙ sym (one-*ℚ (monomial α ms (align [] es ms)))
monomial-aligned α (here {k = k} {ks = ks} {ms = ms} f) [] = no_exponents α (k ∷ ks) (k ∷ ms)
monomial-aligned α (here {k = k} f) (e ∷ es) = rw (eq-eqb k k refl) (ap (power (α k) e *ℚ◌) (monomial-aligned α f es))
monomial-aligned α (later {k = k} {m = m} {ks = ks} {ms = ms} l f) [] = no_exponents α (k ∷ ks) (m ∷ ms)
monomial-aligned α (later {k = k} {m = m} {ks = ks} {ms = ms} l f) (e ∷ es) =
    rw (ne_eqb k m (λ q. omega arith)) (monomial-aligned α f (e ∷ es) ∙ sym (one-*ℚ (monomial α ms (align (k ∷ ks) (e ∷ es) ms))))

-- ---- the union
found-refl : (ks : List ℕ) → Found ks ks
found-refl [] = all_found []
found-refl (k ∷ ks) = here (found-refl ks)

-- a fact of an inserted identifier, by where it goes
pub by_place : (P : List ℕ → Type 0) (k m : ℕ) (ms : List ℕ) → (k < m → P (k ∷ (m ∷ ms))) → (m < k → P (m ∷ insert_identifier k ms))
    → (k ≡ m → P (m ∷ ms)) → P (insert_identifier k (m ∷ ms))
unfolding insert_identifier
by_place P k m ms f g h = by_test P (ltb k m) (λ t. f (ltb→lt k m t))
    (λ n. by_test P (ltb m k) (λ t. g (ltb→lt m k t)) (λ o. h (omega (arith, nltb→le k m n, nltb→le m k o))))

-- what is found is still found after another identifier is put in
insert_keeps : (k : ℕ) {js ms : List ℕ} → Found js ms → Found js (insert_identifier k ms)
insert_keeps k (all_found ms) = all_found (insert_identifier k ms)
insert_keeps k (here {k = j} {ks = js} {ms = ms} f) =
    by_place (Found (j ∷ js)) k j ms (λ l. later l (here f)) (λ l. here (insert_keeps k f)) (λ e. here f)
insert_keeps k (later {k = j} {m = m} {ks = js} {ms = ms} l f) =
    by_place (Found (j ∷ js)) k m ms (λ h. later (omega arith) (later l f)) (λ h. later l (insert_keeps k f)) (λ e. later l f)

-- later identifiers aren't found at an earlier one
past : (m k : ℕ) (ks ms : List ℕ) → m ≤ k → T (rises ltb (k ∷ ks)) → Found ks (m ∷ ms) → Found ks ms
unfolding rises
past m k [] ms h r f = all_found ms
past m k (j ∷ js) ms h r (here f) = absurd (omega (arith, ltb→lt k j (and_yes (ltb k j) (rises ltb (j ∷ js)) r).0))
past m k (j ∷ js) ms h r (later l f) = f

-- an identifier that is less than the others found is found once it is put in
insert_finds : (k : ℕ) (ks ms : List ℕ) → T (rises ltb (k ∷ ks)) → Found ks ms → Found (k ∷ ks) (insert_identifier k ms)
unfolding insert_identifier
insert_finds k ks [] r f = here f
insert_finds k ks (m ∷ ms) r f = by_place (Found (k ∷ ks)) k m ms (λ l. here f)
    (λ l. later l (insert_finds k ks ms r (past m k ks ms (omega arith) r f)))
    (λ e. subst (λ z. Found (k ∷ ks) (z ∷ ms)) e (here (past m k ks ms (omega arith) r f)))

rises_tail : (k : ℕ) (ks : List ℕ) → T (rises ltb (k ∷ ks)) → T (rises ltb ks)
unfolding rises
rises_tail k [] r = tt
rises_tail k (j ∷ js) r = (and_yes (ltb k j) (rises ltb (j ∷ js)) r).1

found_first : (ks ms : List ℕ) → T (rises ltb ks) → Found ks (union ks ms)
unfolding union
found_first [] ms r = all_found ms
found_first (k ∷ ks) ms r = insert_finds k ks (union ks ms) r (found_first ks ms (rises_tail k ks r))

-- the first list, if it rises, is found in the union
pub found_left : (ks ms : List ℕ) → rises ltb ks ≡ true → Found ks (union ks ms)
found_left ks ms e = found_first ks ms (subst T (sym e) tt)

-- the second list is always found in it
pub found_right : (ks ms : List ℕ) → Found ms (union ks ms)
unfolding union
found_right [] ms = found-refl ms
found_right (k ∷ ks) ms = insert_keeps k (found_right ks ms)
