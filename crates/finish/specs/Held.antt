-- Sets whose terms and generators are held in rows of 12 exponents and of 6 numbers.
use Rattle.std.specs.Prelude.{◌≡◌, List, cond, Option, Some, None, ℕ, ◌*◌, ◌^◌, ◌≤◌, length, get_or, ℤ}
use Rattle.whole.specs.Tab.{tab}
use Rattle.model.specs.Set.{Term, Zonotope, with_folded}
use Rattle.model.specs.Valid.{is_too_wide}
use Rattle.model.specs.Finish.{Core}
use Rattle.zonotope.specs.declared.WideRadii.{WideRadii}
use Rattle.zonotope.specs.declared.PolyZonotope.{PolyZonotope}
use Rattle.zonotope.specs.Record.{wide_parts_of, pack}
use Rattle.rows.specs.Rows.{number_row, terms, rows_of, Places, Small}
use Rattle.fold.specs.Folding.{Under, core_of}
use Rattle.finish.specs.declared.Unfinished.{Unfinished}
use Rattle.finish.specs.declared.Reduced.{Reduced}
use Rattle.finish.specs.declared.Limits.{Limits}
use Rattle.finish.specs.Wide.{wide}
use Rattle.finish.specs.WideFinish.{Narrow}

-- the set with this core, these terms and these generators
abbrev pub set_of : Unfinished → Core → List Term → List (List ℤ) → Zonotope
set_of u k ts gs = record {
  dimension = u.dimension;
  identifiers = tab u.factors (λ i. get_or u.identifiers i 0);
  centre = k.centre;
  terms = ts;
  generators = gs;
  radii = with_folded (wide_parts_of u.radii) k.radii;
}

-- the unfinished result with the first `rows` rows of e and c as its terms, the first rows of g as its generators
abbrev pub held : Unfinished → List ℕ → List ℤ → ℕ → List ℤ → ℕ → Zonotope
held u e c rows g generators = set_of u (core_of u.centre u.radii.folded) (rows_of e c rows) (tab generators (number_row g))

-- what is left of it, with the terms by their places
abbrev pub held_by : Unfinished → Reduced → List ℕ → List ℕ → List ℤ → List ℤ → Zonotope
held_by u k e heads s g =
    set_of u (core_of k.centre k.folded) (terms e heads s k.terms) (tab k.generators (number_row g))

-- ---- lengths and sizes for which nothing overflows
-- no part of the radii exceeds b
pub record PartsUnder (b : ℕ) (r : WideRadii) : Type 0 where
  pub carried : Under b r.carried
  pub rounded : Under b r.rounded
  pub folded : Under b r.folded
  pub given : Under b r.given

-- before the stages; `places` and `heads` are as long as there are rows
pub record Reducible (u : Unfinished) (e : List ℕ) (c : List ℤ) (places heads : List ℕ) (s g : List ℤ)
    (generators : ℕ) (limits : Limits) : Type 0 where
  pub rows_few : length places ≤ 860
  pub exponents-long : length places * 12 ≤ length e
  pub exponents_few : length e ≤ 10320
  pub numbers-long : length places * 6 ≤ length c
  pub numbers_small : Small (2 ^ 40) c
  pub sums_long : length places * 6 ≤ length s
  pub sums_small : Small (2 ^ 40) s
  pub heads-long : length heads ≡ length places
  pub generators_few : generators ≤ 48
  pub generators_long : generators * 6 ≤ length g
  pub generators_small : Small (2 ^ 40) g
  pub centre_small : Small (2 ^ 40) u.centre
  pub radii_small : PartsUnder (2 ^ 40) u.radii
  pub weights_small : Under 1000 limits.weights
  pub term-limit : limits.terms ≤ 40
  pub generator-limit : limits.generators ≤ 24

-- before the folds, apart from the terms
pub record Foldable (u : Unfinished) (g : List ℤ) (m : ℕ) (limits : Limits) : Type 0 where
  pub generators_few : m ≤ 48
  pub generators_long : m * 6 ≤ length g
  pub generators_small : Small (2 ^ 50) g
  pub centre_small : Small (2 ^ 40) u.centre
  pub folded_small : Under (2 ^ 40) u.radii.folded
  pub weights_small : Under 1000 limits.weights
  pub term-limit : limits.terms ≤ 40
  pub generator-limit : limits.generators ≤ 24

-- of what is left
pub record RowsLong (k : Reduced) (s g : List ℤ) : Type 0 where
  pub terms_few : k.terms ≤ 40
  pub terms-long : k.terms * 6 ≤ length s
  pub terms_small : Small (2 ^ 50) s
  pub generators_few : k.generators ≤ 24
  pub generators_long : k.generators * 6 ≤ length g
  pub generators_small : Small (2 ^ 50) g
  pub centre_small : Small (2 ^ 61) k.centre
  pub folded_small : Under (2 ^ 61) k.folded

-- ---- what is left is the set m
pub record Holds (u : Unfinished) (k : Reduced) (e heads : List ℕ) (s g : List ℤ) (m : Zonotope) : Type 0 where
  pub is : held_by u k e heads s g ≡ m
  pub sized : RowsLong k s g
  pub places-long : k.terms ≤ length heads
  pub rows : Places e heads

-- ---- m is a set in wide form: its rows continue those of the set by zeros
pub record Widened (m : Zonotope) : Type 0 where
  pub source : Zonotope
  pub is : m ≡ wide source
  pub narrow : Narrow source

-- the answer for a finished result: none where its span is too wide
abbrev pub finished_as : Zonotope → Option PolyZonotope
finished_as m = cond (is_too_wide m) None (Some (pack m))
