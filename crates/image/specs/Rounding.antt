-- Raw numbers in rows of six, rounded in place: the terms they stand for, and the count of inexact roundings.
use Rattle.std.specs.Prelude.{Bool, true, false, cond, List, map, ◌≡◌, T, ℤ, pos, nat_abs, ◌-ℤ◌, ◌*ℤ◌, length}
use Rattle.std.proofs.Math.Path.{refl, sym, ap}
use Rattle.std.proofs.Common.{◌∙◌, arith}
use Prim.Native.Nat.{ℕ, ◌+◌, ◌*◌, ◌/◌, ◌<◌, ◌≤◌}
use Rattle.whole.specs.AsNaturals.{as_ℕ}
use Rattle.whole.specs.Round.{scale, round, exact, inexact, exact-zero, round_near, round_multiple}
use Rattle.whole.specs.Sum.{monoid_ℕ, sum_ℕ, upto_ℕ, upto_cong}
use Rattle.whole.specs.Tab.{tab_cong, map-tab, get_d_tab}
use Rattle.whole.specs.Write.{write}
use Rattle.rows.specs.Rows.{term_of, rows_of}
use Rattle.model.specs.Set.{Term, at}
use Rattle.forms.specs.Tables.{row_of}
use Rattle.forms.specs.Filling.{first-at}
use Rattle.forms.specs.Numbers.{round_limit}
use Rattle.raw.specs.Sums.{sum-tab}
use Rattle.raw.specs.Append.{Bounded, term-same}

-- the inexact roundings at coordinate i of the first rows
abbrev pub inexact_in : List ℤ → ℕ → ℕ → ℕ
inexact_in w rows i = upto_ℕ (λ t. inexact (row_of w t i)) rows

-- of the centre, the terms' rows and the generators
unfoldable pub inexact_of : List ℤ → ℕ → List ℤ → List ℤ → ℕ → ℕ → ℕ
inexact_of w rows centre vectors generators i = inexact_in centre 1 i + inexact_in w rows i + inexact_in vectors generators i

-- half of a count, rounded up
abbrev pub half_up : ℕ → ℕ
half_up count = (count + 1) / 2

-- a term with its coefficients rounded
abbrev pub round_term : Term → Term
round_term t = record { exponents = t.exponents; coefficients = map round t.coefficients }

-- ---- sizes
pub inexact_small : (v : ℤ) → inexact v ≤ 1
unfolding inexact
inexact_small v = go (exact v)
  where
    go : (b : Bool) → cond b 0 1 ≤ 1
    go true = omega arith
    go false = omega arith

pub round_small : (v : ℤ) → nat_abs v ≤ round_limit → nat_abs (round v) ≤ 274877906945
round_small v h = by_size (round v) v h (round_near v)
  where
    by_size : (r v : ℤ) → nat_abs v ≤ round_limit → nat_abs (v -ℤ pos scale *ℤ r) ≤ 8388608 → nat_abs r ≤ 274877906945
    by_size r v = simp as_ℕ (omega arith)

pub round-zero : round (pos 0) ≡ pos 0
round-zero = round_multiple (pos 0)

pub zero-exact : inexact (pos 0) ≡ 0
unfolding inexact
zero-exact = go (exact (pos 0)) exact-zero
  where
    go : (b : Bool) → T b → ◌≡◌ {A = ℕ} (cond b 0 1) 0
    go true t = refl
    go false t = absurd t

-- ---- rows
module _ (e : List ℕ) (w : List ℤ) (r : ℕ) (l : r * 6 ≤ length w) where
  pub rounded-rows : rows_of e (write w 0 (λ x. round (at w x)) (r * 6)) r ≡ map round_term (rows_of e w r)
  unfolding rows_of
  rounded-rows =
      tab_cong r (λ x. term_of e (write w 0 (λ x. round (at w x)) (r * 6)) x x) (λ x. round_term (term_of e w x x))
      (λ x h. term-same refl
      (tab_cong 6 _ (λ j. round (at w (x * 6 + j))) (λ j m. first-at w (λ x. round (at w x)) (pos 0) (r * 6) (x * 6 + j) (omega arith) l)
      ∙ sym (map-tab round 6 (λ j. at w (x * 6 + j)))))
      ∙ sym (map-tab round_term r (λ x. term_of e w x x))

  pub rounded_small : Bounded round_limit (r * 6) w → Bounded 274877906945 (r * 6) (write w 0 (λ x. round (at w x)) (r * 6))
  rounded_small b = record {
    bounded = λ x h. rw (first-at w (λ x. round (at w x)) (pos 0) (r * 6) x h l) (round_small (at w x) (b.bounded x h));
  }

  pub counted-rows : (i : ℕ) → i < 6 → inexact_in w r i ≡ sum_ℕ (λ t. inexact (at t.coefficients i)) (rows_of e w r)
  unfolding rows_of
  counted-rows i h =
      upto_cong 0 ◌+◌ (λ t. inexact (row_of w t i)) (λ t. inexact (at (term_of e w t t).coefficients i)) r
      (λ t m. ap inexact (sym (get_d_tab 6 (λ j. at w (t * 6 + j)) (pos 0) i h)))
      ∙ sym (sum-tab monoid_ℕ (λ t. inexact (at t.coefficients i)) r (λ x. term_of e w x x))

pub bounded_mono : {K J n : ℕ} {c : List ℤ} → Bounded K n c → K ≤ J → Bounded J n c
bounded_mono b l = record { bounded = λ x h. omega (arith, b.bounded x h) }
