-- The pair table's rule for 40 terms, by computed tests over the whole table: 820 places in row order, each of one pair, and each pair
-- has a place.
use mathlib.Core.Path.{◌≡◌, refl, sym, ◌∙◌, ap}
use mathlib.Core.Bool.{Bool, true, false, not, ◌&&◌, ◌||◌}
use Prim.Native.Nat.{ℕ, ◌+◌, ◌*◌, ◌-◌, ◌/◌, ◌%◌, ◌<◌, ◌≤◌}
use native.Mathlib.Omega.{arith}
use lib.Dec.{T, leb, eqb, eqb→eq, leb→le, le→leb}
use lib.ListN.{length, get_or}
use mir.Facts.{and_yes}
use Rattle.whole.specs.Tab.{tab, length-tab}
use Rattle.whole.specs.Table.{every, rule}
use Rattle.model.specs.Limits.{max_terms}
use Rattle.model.specs.Pairs.{pair_codes, rows_from}

-- the place of a pair: after the rows before its own, which have 40, 39 .. entries
abbrev pub place_of : ℕ → ℕ → ℕ
place_of first second = first * (81 - first) / 2 + (second - first)

-- the pair at a place
abbrev pub first : ℕ → ℕ
first k = get_or (pair_codes max_terms) k 0 / max_terms

abbrev pub second : ℕ → ℕ
second k = get_or (pair_codes max_terms) k 0 % max_terms

pub places : length (pair_codes max_terms) ≡ 820
unfolding pair_codes rows_from tab
places = refl

-- an entry with its place: its pair is in order, and the place is that pair's
abbrev of_place : ℕ → ℕ → Bool
of_place k code = leb (code / max_terms) (code % max_terms) && eqb (place_of (code / max_terms) (code % max_terms)) k

tests : T (every of_place 0 (pair_codes max_terms))
unfolding pair_codes rows_from tab
tests = tt

-- each place belongs to one pair, whose place it is
pub pair-of_place : (k : ℕ) → k < 820 → (first k ≤ second k) × (place_of (first k) (second k) ≡ k)
pair-of_place k h =
    let t = rule of_place (pair_codes max_terms) tests k (omega (arith, places)) in
    let u = and_yes (leb (first k) (second k)) (eqb (place_of (first k) (second k)) k) t in
    (leb→le (first k) (second k) u.0, eqb→eq (place_of (first k) (second k)) k u.1)

-- so two places never hold the same pair
pub one_place : (k l : ℕ) → k < 820 → l < 820 → get_or (pair_codes max_terms) k 0 ≡ get_or (pair_codes max_terms) l 0 → k ≡ l
one_place k l h g e = sym (pair-of_place k h).1 ∙ ap (λ c. place_of (c / max_terms) (c % max_terms)) e ∙ (pair-of_place l g).1

-- and each pair of the 40 terms has its place
abbrev of_pair : ℕ → ℕ → Bool
of_pair i j = not (leb i j) || eqb (get_or (pair_codes max_terms) (place_of i j) 0) (max_terms * i + j)

pair-tests : T (every (λ i x. every (λ j y. of_pair i j) 0 (tab max_terms (λ j. j))) 0 (tab max_terms (λ i. i)))
unfolding pair_codes rows_from tab
pair-tests = tt

pub place-of_pair : (i j : ℕ) → i ≤ j → j < max_terms → get_or (pair_codes max_terms) (place_of i j) 0 ≡ max_terms * i + j
place-of_pair i j h l =
    let n = length-tab max_terms (λ (k : ℕ). k) in
    let row = rule (λ i x. every (λ j y. of_pair i j) 0 (tab max_terms (λ j. j))) (tab max_terms (λ i. i)) pair-tests i (omega (arith, n)) in
    let test = rule (λ j y. of_pair i j) (tab max_terms (λ j. j)) row j (omega (arith, n)) in
    eqb→eq _ _ (chosen (leb i j) _ (le→leb i j h) test)
  where
    chosen : (b c : Bool) → T b → T (not b || c) → T c
    chosen true c t u = u
    chosen false c t u = absurd t
