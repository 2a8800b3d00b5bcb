-- What `of_step` promises: rows, centre, generators, what is carried and what rounding adds are those of the definition's rounded image, in
-- wide form.
use mathlib.Core.List.{List, map}
use Rattle.std.specs.Prelude.{◌≡◌, ℕ, ◌*◌, ◌≤◌, ℤ, pos}
use Rattle.std.proofs.Math.ListN.{get_or}
use Rattle.whole.specs.Tab.{tab}
use Rattle.rows.specs.Rows.{rows_of, Small}
use Rattle.model.specs.Set.{at}
use Rattle.model.specs.Step.{Step, rounded}
use Rattle.zonotope.specs.Record.{view}
use Rattle.zonotope.specs.declared.PolyZonotope.{PolyZonotope}
use Rattle.raw.specs.Append.{wide_term, Bounded, KeptFrom}
use Rattle.raw.specs.Kept.{Kept}
use Rattle.image.specs.Remainder.{Below, image_limit}
use Rattle.image.specs.Gaining.{gained_image}
use Rattle.raw.specs.Parts.{wide_vectors}
use Rattle.image.specs.declared.Image.{Image}

-- r, with the first rows of the slices e and w, is the rounded image of s under p in wide form, where S gains these numbers; e₀ and w₀
-- are the slices as they were
pub record Imaged (p : Step) (gains : List ℕ) (s : PolyZonotope) (e₀ : List ℕ) (w₀ : List ℤ) (r : Image) (e : List ℕ) (w : List ℤ) :
    Type 0 where
  pub inside : r.rows ≤ 860
  pub terms : Kept (rows_of e w r.rows) (map wide_term (rounded (gained_image gains p (view s))).terms)
  pub centre : r.centre ≡ tab 6 (at (rounded (gained_image gains p (view s))).centre)
  pub generators : r.generators ≡ wide_vectors (rounded (gained_image gains p (view s))).generators
  pub carried : r.carried ≡ tab 6 (λ i. get_or (rounded (gained_image gains p (view s))).radii.carried i 0)
  pub rounded : r.rounded ≡ tab 6 (λ i. get_or (rounded (gained_image gains p (view s))).radii.rounded i 0)
  pub small_terms : Bounded image_limit (r.rows * 6) w
  pub small_centre : Small image_limit r.centre
  pub small_generators : Small image_limit r.generators
  pub small_carried : Below image_limit r.carried
  pub small_rounded : Below image_limit r.rounded
  pub later-exponents : KeptFrom 0 (r.rows * 12) e₀ e
  pub later-numbers : KeptFrom (pos 0) (r.rows * 6) w₀ w
