-- Sums, disturbance, reduction, the box and the check.
use Rattle.std.specs.Prelude.{List, [], ◌∷◌, ◌++◌, map, Bool, true, false, cond, ℕ, ◌+◌, ◌*◌, ltb, eqb, length, ℤ, pos, negsuc, neg_ℤ, nat_abs, ◌+ℤ◌, ◌-ℤ◌}
use Rattle.std.specs.Int.Signed.{lt_z}
use Rattle.whole.specs.Sum.{sum_ℕ, sum_ℤ, upto_ℕ}
use Rattle.whole.specs.Tab.{tab, any}
use Rattle.model.specs.Limits.{max_terms, max_generators}
use Rattle.model.specs.Set.{Term, Zonotope, at, radius, plus_ℤ, plus_ℕ, plus_radii, with}
use Rattle.model.specs.Finish.{finish, all_even}
use Rattle.model.specs.Step.{dot}

-- ---- the tied sum (Proposition 10: equal identifiers are one factor)
-- an identifier put into a rising list, unless it stands there
unfoldable pub insert_identifier : ℕ → List ℕ → List ℕ
insert_identifier k [] = k ∷ []
insert_identifier k (m ∷ ms) = cond (ltb k m) (k ∷ (m ∷ ms)) (cond (ltb m k) (m ∷ insert_identifier k ms) (m ∷ ms))

-- the identifiers of both, in order
unfoldable pub union : List ℕ → List ℕ → List ℕ
union [] ms = ms
union (k ∷ ks) ms = insert_identifier k (union ks ms)

-- exponents for the factors ks, written for the factors ms
unfoldable pub align : List ℕ → List ℕ → List ℕ → List ℕ
align ks es [] = []
align [] es (m ∷ ms) = 0 ∷ align [] es ms
align (k ∷ ks) [] (m ∷ ms) = 0 ∷ align (k ∷ ks) [] ms
align (k ∷ ks) (e ∷ es) (m ∷ ms) = cond (eqb k m) (e ∷ align ks es ms) (0 ∷ align (k ∷ ks) (e ∷ es) ms)

abbrev pub aligned : List ℕ → Zonotope → List Term
aligned ms s = map (λ t. record { exponents = align s.identifiers t.exponents ms; coefficients = t.coefficients }) s.terms

-- the sum before finishing
unfoldable pub joined : Zonotope → Zonotope → Zonotope
joined s u = let ms = union s.identifiers u.identifiers in record {
  dimension = s.dimension;
  identifiers = ms;
  centre = plus_ℤ s.centre u.centre;
  terms = aligned ms s ++ aligned ms u;
  generators = s.generators ++ u.generators;
  radii = plus_radii s.radii u.radii;
}

unfoldable pub tied_sum : List ℕ → Zonotope → Zonotope → Zonotope
tied_sum weights s u = finish weights max_terms max_generators (joined s u)

-- ---- the independent sum (Proposition 9: the second set's factors are its own)
-- the set with identifiers next, next + 1 ..
unfoldable pub renumbered : ℕ → Zonotope → Zonotope
renumbered next u = record {
  dimension = u.dimension;
  identifiers = tab (length u.identifiers) (λ j. next + j);
  centre = u.centre;
  terms = u.terms;
  generators = u.generators;
  radii = u.radii;
}

unfoldable pub independent_sum : List ℕ → ℕ → Zonotope → Zonotope → Zonotope
independent_sum weights next s u = tied_sum weights s (renumbered next u)

-- ---- disturbance and reduction
-- the radii of a disturbance join the given parts
unfoldable pub disturb : List ℕ → Zonotope → Zonotope
disturb r s = with s s.centre s.terms s.generators (record {
  carried = s.radii.carried;
  rounded = s.radii.rounded;
  folded = s.radii.folded;
  given = plus_ℕ s.radii.given r;
})

unfoldable pub reduce : List ℕ → ℕ → ℕ → Zonotope → Zonotope
reduce weights term_count_limit generator_count_limit s = finish weights term_count_limit generator_count_limit s

-- ---- the box (Proposition 7)
-- the least and the greatest that a coefficient g contributes: 0 to g for an even monomial, else -|g| to |g|
unfoldable pub least : Bool → ℤ → ℤ
least true (pos n) = pos 0
least true (negsuc n) = negsuc n
least false g = neg_ℤ (pos (nat_abs g))

unfoldable pub greatest : Bool → ℤ → ℤ
greatest true (pos n) = pos n
greatest true (negsuc n) = pos 0
greatest false g = pos (nat_abs g)

-- the ends of a linear function of the set's points, which is `value` at a vector and lets the radii contribute up to `wide`
module _ (value : List ℤ → ℤ) (wide : ℕ) (s : Zonotope) where
  abbrev pub width : ℕ
  width = sum_ℕ (λ g. nat_abs (value g)) s.generators + wide

  unfoldable pub low_end : ℤ
  low_end = value s.centre +ℤ sum_ℤ (λ t. least (all_even t.exponents) (value t.coefficients)) s.terms -ℤ pos width

  unfoldable pub high_end : ℤ
  high_end = value s.centre +ℤ sum_ℤ (λ t. greatest (all_even t.exponents) (value t.coefficients)) s.terms +ℤ pos width

-- the ends of coordinate i
abbrev pub low : Zonotope → ℕ → ℤ
low s i = low_end (λ v. at v i) (radius s i) s

abbrev pub high : Zonotope → ℕ → ℤ
high s i = high_end (λ v. at v i) (radius s i) s

pub record Box : Type 0 where
  pub lows : List ℤ
  pub highs : List ℤ

unfoldable pub box : Zonotope → Box
box s = record { lows = tab s.dimension (low s); highs = tab s.dimension (high s) }

-- ---- the check
-- all x with normal·x ≤ bound; normals are in 1/4096, bounds in 1/16,777,216
pub record Halfspace : Type 0 where
  pub normal : List ℤ
  pub bound : ℤ

-- the lower end of normal·x
unfoldable pub low_along : List ℤ → Zonotope → ℤ
low_along a s = low_end (λ v. dot s.dimension (at a) (at v)) (upto_ℕ (λ j. nat_abs (at a j) * radius s j) s.dimension) s

-- safe where for some halfspace of the unsafe region the lower end exceeds the bound, else unknown
unfoldable pub safe : List Halfspace → Zonotope → Bool
safe hs s = any (λ h. lt_z h.bound (low_along h.normal s)) hs
