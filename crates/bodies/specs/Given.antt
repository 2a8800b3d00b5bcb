-- The record of a body's set: it means that set, has no spare place, and its arrays have their lengths.
use Rattle.std.specs.Prelude.{◌≡◌, refl, List, [], ◌∷◌, Bool, true, false, ◌||◌, ℕ, ◌<◌, ltb, eqb}
use Rattle.std.proofs.Common.{sym, ap, ap₂, ◌∙◌, arith, lt-ltb, le-ltb}
use Rattle.std.proofs.Math.Bool.{or-true, or-false}
use Rattle.std.proofs.Math.Decide.{dec_lt}
use Rattle.whole.specs.Tab.{any, length-tab}
use Rattle.whole.specs.Tests.{any_or}
use Rattle.model.specs.Limits.{max_exponent, file_identifiers, record_identifiers}
use Rattle.model.specs.Set.{Zonotope}
use Rattle.model.specs.Valid.{bad_counts, bad_range}
use Rattle.model.specs.Body.{given_set}
use Rattle.model.proofs.Accepted.{given_shaped}
use Rattle.zonotope.specs.Record.{view, pack, spare, given}
use Rattle.zonotope.specs.Counts.{InLimits, countable}
use Rattle.zonotope.specs.Shape.{Sized}
use Rattle.zonotope.proofs.ViewPack.{view-pack, spare-pack}
use Rattle.bodies.specs.Set.{set_counts_out}

-- the arrays of any set's record
pub pack_sized : (m : Zonotope) → Sized (pack m)
unfolding pack
pack_sized m = record {
  identifiers = length-tab 12 _;
  centre = length-tab 6 _;
  exponents = length-tab 480 _;
  coefficients = length-tab 240 _;
  vectors = length-tab 144 _;
  radii = record { carried = length-tab 6 _; rounded = length-tab 6 _; folded = length-tab 6 _; given = length-tab 6 _ };
}

any_same : {A : Type 0} (p q : A → Bool) → ((a : A) → p a ≡ q a) → (l : List A) → any p l ≡ any q l
unfolding any
any_same p q e [] = refl
any_same p q e (a ∷ l) = ap₂ ◌||◌ (e a) (any_same p q e l)

-- 6 in a file is 6 in a record, or an identifier that is too large for a file
pub file_range : (m : Zonotope) → bad_range file_identifiers m ≡ bad_range record_identifiers m || any (ltb file_identifiers) m.identifiers
unfolding bad_range
file_range m =
    let here = any (λ k. eqb k 0 || ltb record_identifiers k) m.identifiers in
    let large = any (ltb file_identifiers) m.identifiers in
    let exponents = any (λ t. any (λ e. ltb max_exponent e) t.exponents) m.terms in
    ap (◌|| exponents)
    (any_same (λ k. eqb k 0 || ltb file_identifiers k) (λ k. eqb k 0 || ltb record_identifiers k || ltb file_identifiers k) larger
    m.identifiers
    ∙ any_or (λ k. eqb k 0 || ltb record_identifiers k) (ltb file_identifiers) m.identifiers)
    ∙ swap here large exponents
  where
    or_again : (a : Bool) → a || true ≡ a || true || true
    or_again true = refl
    or_again false = refl

    larger : (k : ℕ) → eqb k 0 || ltb file_identifiers k ≡ eqb k 0 || ltb record_identifiers k || ltb file_identifiers k
    larger k = go (dec_lt record_identifiers k) where
      go : Dec (record_identifiers < k) → eqb k 0 || ltb file_identifiers k ≡ eqb k 0 || ltb record_identifiers k || ltb file_identifiers k
      go (yes l) = rw (lt-ltb file_identifiers k (omega arith), lt-ltb record_identifiers k l) (or_again (eqb k 0))
      go (no l) = rw (le-ltb record_identifiers k (omega arith), or-false (eqb k 0))

    swap : (a b c : Bool) → a || b || c ≡ a || c || b
    swap true b c = refl
    swap false true c = sym (or-true c)
    swap false false c = sym (or-false c)

module _ (b : List ℕ) where
  -- the counts of a body are those of its set
  pub given-counts : bad_counts (given_set b) ≡ set_counts_out b
  unfolding bad_counts given_set
  given-counts = simp length-tab

  pub given-spare : spare (pack (given_set b)) ≡ false
  given-spare = spare-pack (given_set b) (given_shaped b)

  module _ (counts : set_counts_out b ≡ false) where
    pub given-view : view (pack (given_set b)) ≡ given_set b
    given-view = view-pack (given_set b) (given_shaped b) (given-counts ∙ counts)

    pub given_limits : InLimits (pack (given_set b))
    unfolding pack
    given_limits = countable (given_set b) (given-counts ∙ counts)

    -- what the library reads of the record
    pub given_record : given (pack (given_set b)) ≡ record { set = given_set b; spare = false }
    given_record = rw (given-view, given-spare)
