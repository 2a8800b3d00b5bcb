-- Counts within document 01's limits: those that refusal 4 lets pass.
use Rattle.std.specs.Prelude.{◌≡◌, false, ◌||◌, ℕ, ◌<◌, ◌≤◌, ltb, eqb, length}
use Rattle.std.proofs.Common.{arith, ltb-false}
use Rattle.std.proofs.lemmas.Bool.{eqb-false}
use Rattle.whole.specs.Tab.{length-tab}
use Rattle.model.specs.Limits.{max_dimension, max_factors, max_terms, max_generators}
use Rattle.model.specs.Set.{Zonotope}
use Rattle.model.specs.Valid.{bad_counts}
use Rattle.zonotope.specs.declared.PolyZonotope.{PolyZonotope}
use Rattle.zonotope.specs.Record.{view}
use Rattle.zonotope.specs.Causes.{counts_out}
use Rattle.whole.specs.Tests.{or_left, or_right}

-- n coordinates, p factors, h terms and q generators
pub record WithinLimits (n p h q : ℕ) : Type 0 where
  pub some : 0 < n
  pub dimension : n ≤ max_dimension
  pub factors : p ≤ max_factors
  pub terms : h ≤ max_terms
  pub generators : q ≤ max_generators

-- of a record, and of a set
abbrev pub InLimits : PolyZonotope → Type 0
InLimits s = WithinLimits s.dimension s.factors s.terms s.generators

abbrev pub Countable : Zonotope → Type 0
Countable m = WithinLimits m.dimension (length m.identifiers) (length m.terms) (length m.generators)

-- what refusal 4 lets pass
pub countable : (m : Zonotope) → bad_counts m ≡ false → Countable m
unfolding bad_counts
countable m e =
    let a = eqb m.dimension 0 in
    let b = ltb max_dimension m.dimension in
    let c = ltb max_factors (length m.identifiers) in
    let d = ltb max_terms (length m.terms) in
    let g = ltb max_generators (length m.generators) in
    let abcd = or_left (a || b || c || d) g e in
    let abc = or_left (a || b || c) d abcd in
    let ab = or_left (a || b) c abc in
    let ne = eqb-false m.dimension 0 (or_left a b ab) in
    record {
      some = omega arith;
      dimension = ltb-false max_dimension m.dimension (or_right a b ab);
      factors = ltb-false max_factors (length m.identifiers) (or_right (a || b) c abc);
      terms = ltb-false max_terms (length m.terms) (or_right (a || b || c) d abcd);
      generators = ltb-false max_generators (length m.generators) (or_right (a || b || c || d) g e);
    }

-- the counts of a record are those of its set
pub view-counts : (s : PolyZonotope) → bad_counts (view s) ≡ counts_out s
unfolding bad_counts view
view-counts s = simp length-tab

pub in_limits : (s : PolyZonotope) → bad_counts (view s) ≡ false → InLimits s
unfolding view
in_limits s e = simp length-tab at (countable (view s) e)
