-- Radii by their parts: how long the parts are, and what the radius is after like parts are added, after a disturbance and after a fold.
use mathlib.Core.Path.{◌≡◌, ◌∙◌}
use mathlib.Core.List.{List}
use Prim.Native.Nat.{ℕ, ◌+◌, ◌≤◌, ◌<◌}
use native.Mathlib.Decide.{dec_lt}
use native.Mathlib.Omega.{arith}
use lib.ListN.{length, get_or, get_or-eq_default}
use Rattle.whole.specs.Tab.{length-tab, get_d_tab, get_d_tab_past}
use Rattle.model.specs.Set.{Radii, radius_of, plus_ℕ, plus_radii, with_folded, blank, given_only}
use Rattle.model.proofs.Vectors.{longer-length, plus_ℕ-at}

-- of n coordinates: all of it carried
abbrev pub carried_only : ℕ → List ℕ → Radii
carried_only n r = record { carried = r; rounded = blank n; folded = blank n; given = blank n }

-- ---- lengths
-- each part has a number for each of n coordinates
pub record PartsLong (n : ℕ) (r : Radii) : Type 0 where
  pub carried_long : length r.carried ≡ n
  pub rounded-long : length r.rounded ≡ n
  pub folded_long : length r.folded ≡ n
  pub given-long : length r.given ≡ n

blank-long : (n : ℕ) → length (blank n) ≡ n
blank-long n = length-tab n (λ i. 0)

pub carried_only-long : (n : ℕ) (r : List ℕ) → length r ≡ n → PartsLong n (carried_only n r)
carried_only-long n r e =
    record { carried_long = e; rounded-long = blank-long n; folded_long = blank-long n; given-long = blank-long n }

pub given-only-long : (n : ℕ) (r : List ℕ) → length r ≡ n → PartsLong n (given_only n r)
given-only-long n r e =
    record { carried_long = blank-long n; rounded-long = blank-long n; folded_long = blank-long n; given-long = e }

pub plus-long : {n : ℕ} {r q : Radii} → PartsLong n r → PartsLong n q → PartsLong n (plus_radii r q)
plus-long {n} {r} {q} a b = record {
  carried_long = sums r.carried q.carried a.carried_long b.carried_long;
  rounded-long = sums r.rounded q.rounded a.rounded-long b.rounded-long;
  folded_long = sums r.folded q.folded a.folded_long b.folded_long;
  given-long = sums r.given q.given a.given-long b.given-long;
}
  where
    sums : (u v : List ℕ) → length u ≡ n → length v ≡ n → length (plus_ℕ u v) ≡ n
    sums u v d e = longer-length ◌+◌ u v (omega arith) ∙ d

-- ---- the radius
pub blank-at : (n i : ℕ) → get_or (blank n) i 0 ≡ 0
blank-at n i = go (dec_lt i n)
  where
    go : Dec (i < n) → get_or (blank n) i 0 ≡ 0
    go (yes h) = get_d_tab n (λ i. 0) 0 i h
    go (no h) = get_d_tab_past n (λ i. 0) 0 i (omega arith)

pub radius_carried : (n : ℕ) (r : List ℕ) (i : ℕ) → radius_of (carried_only n r) i ≡ get_or r i 0
unfolding radius_of
radius_carried n r i = omega (arith, blank-at n i)

pub radius-given : (n : ℕ) (r : List ℕ) (i : ℕ) → radius_of (given_only n r) i ≡ get_or r i 0
unfolding radius_of
radius-given n r i = omega (arith, blank-at n i)

pub radius-plus : (r q : Radii) (i : ℕ) → radius_of (plus_radii r q) i ≡ radius_of r i + radius_of q i
unfolding radius_of
radius-plus r q i = omega (
  arith,
  plus_ℕ-at r.carried q.carried i,
  plus_ℕ-at r.rounded q.rounded i,
  plus_ℕ-at r.folded q.folded i,
  plus_ℕ-at r.given q.given i,
)

-- where q joins the given parts
pub radius-disturbed : (r : Radii) (q : List ℕ) (i : ℕ)
    → radius_of (record { carried = r.carried; rounded = r.rounded; folded = r.folded; given = plus_ℕ r.given q }) i
    ≡ radius_of r i + get_or q i 0
unfolding radius_of
radius-disturbed r q i = omega (arith, plus_ℕ-at r.given q i)

-- the radius without its folded part
pub unfolded : (r : Radii) (i : ℕ) → ℕ
unfolded r i = get_or r.carried i 0 + get_or r.rounded i 0 + get_or r.given i 0

pub radius_folded : (r : Radii) (f : List ℕ) (i : ℕ) → radius_of (with_folded r f) i ≡ unfolded r i + get_or f i 0
unfolding radius_of unfolded
radius_folded r f i = omega arith

-- past the coordinates it is 0
pub radius_past : {n : ℕ} {r : Radii} → PartsLong n r → (i : ℕ) → n ≤ i → radius_of r i ≡ 0
unfolding radius_of
radius_past {n} {r} a i h = omega (
  arith,
  past r.carried a.carried_long,
  past r.rounded a.rounded-long,
  past r.folded a.folded_long,
  past r.given a.given-long,
)
  where
    past : (u : List ℕ) → length u ≡ n → get_or u i 0 ≡ 0
    past u e = get_or-eq_default u 0 (omega arith)

-- no part exceeds it
pub folded_in : (r : Radii) (i : ℕ) → get_or r.folded i 0 ≤ radius_of r i
unfolding radius_of
folded_in r i = omega arith
