-- What finishing asks of a result in rows.
use Rattle.std.specs.Prelude.{◌≡◌, List, ℕ, zero, suc, ◌+◌, ◌-◌, ◌*◌, ◌^◌, ◌<◌, ◌≤◌, length, get_or, take, replicate, ℤ, pos, nat_abs}
use Rattle.std.proofs.Common.{sym, ap, ap₂, subst, ◌∙◌, arith, length-take-le}
use Rattle.std.proofs.Math.Decide.{dec_lt}
use Rattle.std.proofs.lemmas.List.{length-replicate}
use Rattle.std.proofs.Math.ListN.{get_or-eq_default}
use Rattle.whole.specs.Tab.{tab, tab_cong, get_d_tab, get_d_tab_past}
use Rattle.whole.specs.Write.{get_d_take}
use Rattle.rational.specs.Sum.{All, none, more}
use Rattle.model.specs.Set.{Radii, radius_of, blank}
use Rattle.model.proofs.Radii.{blank-at}
use Rattle.model.specs.Limits.{standard_weights}
use Rattle.zonotope.specs.declared.WideRadii.{WideRadii}
use Rattle.zonotope.specs.Record.{wide_parts_of, first_parts, anew}
use Rattle.rows.specs.Rows.{rows_of, Small}
use Rattle.fold.specs.Marks.{same_at}
use Rattle.fold.specs.Folding.{Under}
use Rattle.finish.specs.declared.Unfinished.{Unfinished}
use Rattle.finish.specs.declared.Limits.{Limits}
use Rattle.finish.specs.Held.{PartsUnder, held, Reducible, Widened}

-- a result in `rows` rows of e and c and the first rows of g: a set in wide form, with numbers for which nothing overflows
pub record Finishable (u : Unfinished) (e : List ℕ) (c : List ℤ) (rows : ℕ) (g : List ℤ) (generators : ℕ) : Type 0 where
  pub rows_few : rows ≤ 860
  pub exponents-long : rows * 12 ≤ length e
  pub exponents_few : length e ≤ 10320
  pub numbers-long : rows * 6 ≤ length c
  pub generators_few : generators ≤ 48
  pub generators_long : generators * 6 ≤ length g
  pub numbers_small : Small (2 ^ 40) c
  pub generators_small : Small (2 ^ 40) g
  pub centre_small : Small (2 ^ 40) u.centre
  pub radii_small : PartsUnder (2 ^ 40) u.radii
  pub widened : Widened (held u e c rows g generators)

-- ---- parts that are small
-- no number of a table exceeds what bounds each
pub under_in : {b : ℕ} (n : ℕ) (f : ℕ → ℕ) → ((i : ℕ) → i < n → f i ≤ b) → Under b (tab n f)
under_in {b} n f h = record { under = λ i. go i (dec_lt i n) } where
  go : (i : ℕ) → Dec (i < n) → get_or (tab n f) i 0 ≤ b
  go i (yes l) = rw (get_d_tab n f 0 i l) (h i l)
  go i (no l) = rw (get_d_tab_past n f 0 i (omega arith)) (omega arith)

-- where the radii are small, their parts are
pub parts_under : {b : ℕ} (r : WideRadii) (q : Radii) → wide_parts_of r ≡ first_parts 6 q → ((i : ℕ) → radius_of q i ≤ b) → PartsUnder b r
unfolding radius_of
parts_under {b} r q e h = record {
  carried = subst (Under b) (sym (ap (λ (p : Radii). p.carried) e)) (under_in 6 _ (λ i l. omega (arith, h i)));
  rounded = subst (Under b) (sym (ap (λ (p : Radii). p.rounded) e)) (under_in 6 _ (λ i l. omega (arith, h i)));
  folded = subst (Under b) (sym (ap (λ (p : Radii). p.folded) e)) (under_in 6 _ (λ i l. omega (arith, h i)));
  given = subst (Under b) (sym (ap (λ (p : Radii). p.given) e)) (under_in 6 _ (λ i l. omega (arith, h i)));
}

-- so are those that are made anew
pub anew_under : {b : ℕ} (c d : List ℕ) → ((i : ℕ) → get_or c i 0 ≤ b) → ((i : ℕ) → get_or d i 0 ≤ b) → PartsUnder b (anew c d)
anew_under {b} c d h k =
    let none : Under b (blank 6) = record { under = λ i. omega (arith, blank-at 6 i) } in
    record { carried = record { under = h }; rounded = record { under = k }; folded = none; given = none }

-- ---- the work space that finishing needs, and the weights
-- numbers that are all 0 are small
pub zeros_small : {b : ℕ} (n : ℕ) → Small b (replicate n (pos 0))
zeros_small n = record { small = λ i. omega (arith, ap nat_abs (same_at (pos 0) n i)) }

each_under : (b : ℕ) {xs : List ℕ} → All (◌≤ b) xs → (i : ℕ) → get_or xs i 0 ≤ b
each_under b none i = omega arith
each_under b (more p ps) zero = p
each_under b (more p ps) (suc i) = each_under b ps i

weights_under : Under 1000 standard_weights
weights_under = let four : 4 ≤ 1000 = omega arith in let one : 1 ≤ 1000 = omega arith in
    record { under = each_under 1000 (more four (more one (more four (more one (more four (more one none)))))) }

-- the part of a slice that is lent: its first n places
abbrev pub part : {A : Type 0} → ℕ → List A → List A
part n xs = take (n - 0) xs

pub part_length : {A : Type 0} (n : ℕ) (xs : List A) → n ≤ length xs → length (part n xs) ≡ n
part_length n xs h = length-take-le (n - 0) xs (omega arith) ∙ omega arith

-- rows in the parts that hold them
pub rows-part : (e : List ℕ) (w : List ℤ) (n : ℕ) → rows_of (part (n * 12) e) (part (n * 6) w) n ≡ rows_of e w n
unfolding rows_of
rows-part e w n =
    tab_cong n _ _ (λ t h. ap₂ (λ (x : List ℕ) (y : List ℤ). record { exponents = x; coefficients = y })
    (tab_cong 12 _ _ (λ k l. get_d_take (n * 12 - 0) e (t * 12 + k) 0 (omega arith)))
    (tab_cong 6 _ _ (λ j l. get_d_take (n * 6 - 0) w (t * 6 + j) (pos 0) (omega arith))))

-- numbers that are small in the first n places are small in the part that is lent
pub part_small : (K n : ℕ) (w : List ℤ) → n ≤ length w → ((i : ℕ) → i < n → nat_abs (get_or w i (pos 0)) ≤ K) → Small K (part n w)
part_small K n w fits b = record { small = λ i. go i (dec_lt i n) }
  where
    go : (i : ℕ) → Dec (i < n) → nat_abs (get_or (part n w) i (pos 0)) ≤ K
    go i (yes l) = rw (get_d_take (n - 0) w i (pos 0) (omega arith)) (b i l)
    go i (no l) =
        rw (get_or-eq_default (part n w) (pos 0) {n = i} (omega (arith, part_length n w fits))) (omega arith)

-- room for `rows` rows
pub record Room (rows : ℕ) (places heads : List ℕ) (sums : List ℤ) : Type 0 where
  pub places-long : rows ≤ length places
  pub heads-long : rows ≤ length heads
  pub sums_long : rows * 6 ≤ length sums
  pub sums_small : Small (2 ^ 40) sums

-- arrays for N rows, which hold M numbers, have it
pub room : (N M rows : ℕ) → rows ≤ N → M ≡ N * 6 → Room rows (replicate N 0) (replicate N 0) (replicate M (pos 0))
room N M rows h e =
    let places : length (replicate {A = ℕ} N 0) ≡ N = length-replicate N 0 in
    let sums : length (replicate M (pos 0)) ≡ M = length-replicate M (pos 0) in
    record { places-long = omega arith; heads-long = omega arith; sums_long = omega arith; sums_small = zeros_small M }

-- what finishing in it asks
module _ (u : Unfinished) (e : List ℕ) (c : List ℤ) (rows : ℕ) (g : List ℤ) (generators : ℕ) (places heads : List ℕ) (sums : List ℤ) where
  pub finish-asks : Finishable u e c rows g generators → Room rows places heads sums
      → {limits : Limits} → limits.terms ≤ 40 → limits.generators ≤ 24 → limits.weights ≡ standard_weights
      → Reducible u e c (take rows places) (take rows heads) sums g generators limits
      × Widened (held u e c (length (take rows places)) g generators)
  finish-asks f n h q w =
      let p = length-take-le rows places n.places-long in
      let few = f.rows_few in
      let long = n.sums_long in (
        record {
          rows_few = omega arith;
          exponents-long = rw p f.exponents-long;
          exponents_few = f.exponents_few;
          numbers-long = rw p f.numbers-long;
          numbers_small = f.numbers_small;
          sums_long = omega arith;
          sums_small = n.sums_small;
          heads-long = length-take-le rows heads n.heads-long ∙ sym p;
          generators_few = f.generators_few;
          generators_long = f.generators_long;
          generators_small = f.generators_small;
          centre_small = f.centre_small;
          radii_small = f.radii_small;
          weights_small = rw w weights_under;
          term-limit = h;
          generator-limit = q;
        },
        subst (λ (n : ℕ). Widened (held u e c n g generators)) (sym p) f.widened,
      )
