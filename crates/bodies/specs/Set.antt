-- The body of a set: its counts, where its parts stand, what it says.
use Rattle.std.specs.Prelude.{◌≡◌, refl, List, map, Bool, false, ◌||◌, ℕ, ◌+◌, ◌*◌, ltb, length, nat_abs}
use Rattle.whole.specs.Tab.{tab}
use Rattle.model.specs.Limits.{max_factors, max_terms, max_generators}
use Rattle.model.specs.Set.{Zonotope, given_only}
use Rattle.model.specs.Bytes.{byte, number, words}
use Rattle.model.specs.Body.{dimension, factors, term_count, generator_count, set_length, given_set}
use Rattle.model.specs.Field.{bad_dimension}
use Rattle.zonotope.specs.Counts.{WithinLimits}
use Rattle.bodies.specs.declared.counts.SetCounts.{SetCounts}

-- the counts of a body
abbrev pub counts_of : List ℕ → SetCounts
counts_of b = record { dimension = dimension b; factors = factors b; terms = term_count b; generators = generator_count b }

-- 4: whether a count is out of limits
abbrev pub counts_out : SetCounts → Bool
counts_out k =
    bad_dimension k.dimension || ltb max_factors k.factors || ltb max_terms k.terms || ltb max_generators k.generators

abbrev pub set_counts_out : List ℕ → Bool
set_counts_out b = counts_out (counts_of b)

-- a body whose counts are in limits, as long as they say
pub record SetBody (b : List ℕ) : Type 0 where
  pub counts : set_counts_out b ≡ false
  pub long : length b ≡ set_length b

-- ---- by the counts
module _ (k : SetCounts) where
  abbrev pub InLimits : Type 0
  InLimits = WithinLimits k.dimension k.factors k.terms k.generators

  -- where the centre, the terms, the generators and the radii stand, and how many bytes a term has
  abbrev pub centre_from : ℕ
  centre_from = 4 + 4 * k.factors

  abbrev pub terms_from : ℕ
  terms_from = centre_from + 4 * k.dimension

  abbrev pub term_bytes : ℕ
  term_bytes = k.factors + 4 * k.dimension

  abbrev pub generators_from : ℕ
  generators_from = terms_from + k.terms * term_bytes

  abbrev pub radii_from : ℕ
  radii_from = generators_from + k.generators * (4 * k.dimension)

  -- a body of this length has these counts
  pub record SetLaid (body : ℕ) : Type 0 where
    pub counts : InLimits
    pub long : body ≡ radii_from + 4 * k.dimension

-- what a body with these counts says
abbrev pub set_of : List ℕ → SetCounts → Zonotope
set_of b k = record {
  dimension = k.dimension;
  identifiers = tab k.factors (λ i. number 4 b (4 + 4 * i));
  centre = words b (centre_from k) k.dimension;
  terms = tab k.terms (λ t. record {
    exponents = tab k.factors (λ j. byte b (terms_from k + t * term_bytes k + j));
    coefficients = words b (terms_from k + t * term_bytes k + k.factors) k.dimension;
  });
  generators = tab k.generators (λ g. words b (generators_from k + g * (4 * k.dimension)) k.dimension);
  radii = given_only k.dimension (map nat_abs (words b (radii_from k) k.dimension));
}

pub given-set : (b : List ℕ) → set_of b (counts_of b) ≡ given_set b
unfolding given_set
given-set b = refl
