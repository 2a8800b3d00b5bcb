-- The hull with a second set (Propositions 14 and 15 of source document 001; equal identifiers stay one factor): every point between a point
-- of the one set and a point of the other at equal factor values, by a fresh factor that blends them.
use Rattle.std.specs.Prelude.{List, [], ◌∷◌, ◌++◌, map, cond, ℕ, ◌*◌, ltb, length, replicate, ℤ, pos, neg_ℤ, ◌*ℤ◌}
use Rattle.whole.specs.Round.{scale}
use Rattle.whole.specs.Tab.{tab}
use Rattle.model.specs.Set.{Term, Zonotope, independent_size, with}
use Rattle.model.specs.Step.{RawImage, settled}
use Rattle.model.specs.Operations.{joined}

-- ---- 1. raw numbers, in 1/16,777,216
-- half of each number of a vector: 8,388,608 is half of 16,777,216
abbrev pub halved : List ℤ → List ℤ
halved v = map (pos 8388608 *ℤ◌) v

-- half of a term, with the blending factor to the power k
abbrev pub blend : ℕ → Term → Term
blend k t = record { exponents = t.exponents ++ (k ∷ []); coefficients = halved t.coefficients }

-- the set of the points -x
unfoldable pub opposite : Zonotope → Zonotope
opposite u =
    with u (map neg_ℤ u.centre)
    (map (λ t. record { exponents = t.exponents; coefficients = map neg_ℤ t.coefficients }) u.terms) u.generators u.radii

-- the larger of two
abbrev pub larger : ℕ → ℕ → ℕ
larger m n = cond (ltb m n) n m

-- x a point of s, y one of u, v the blending factor: (x + y)/2 + v(x - y)/2, and the larger independent part
unfoldable pub blended : ℕ → Zonotope → Zonotope → RawImage
blended next s u =
    let sum = joined s u in
    let difference = joined s (opposite u) in
    record {
      dimension = s.dimension;
      identifiers = sum.identifiers ++ (next ∷ []);
      centre = halved sum.centre;
      terms =
          record { exponents = replicate (length sum.identifiers) 0 ++ (1 ∷ []); coefficients = halved difference.centre }
          ∷ (map (blend 0) sum.terms ++ map (blend 1) difference.terms);
      generators = [];
      remainders = tab s.dimension (λ i. scale * larger (independent_size s i) (independent_size u i));
    }

-- ---- 2. each is rounded, and the result finished
unfoldable pub hull : List ℕ → ℕ → Zonotope → Zonotope → Zonotope
hull weights next s u = settled weights (blended next s u)
