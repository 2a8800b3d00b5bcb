-- How far the parts of a set's points, and the points themselves, are from 0.
use mathlib.Core.Path.{◌≡◌, refl, sym, ◌∙◌, ap, ap₂, subst}
use mathlib.Core.List.{List}
use Prim.Native.Nat.{ℕ, ◌<◌}
use lib.ListN.{length}
use lib.IntN.{pos, nat_abs}
use Rattle.rational.specs.Rational.{ℚ, ◌+ℚ◌, ι, 1ℚ}
use Rattle.rational.specs.Bounds.{Within}
use Rattle.rational.proofs.Bounds.{within-+, within-ι}
use Rattle.rational.specs.Sum.{All}
use Rattle.model.specs.Set.{Zonotope, at, radius, term_sizes, generator_sizes, span}
use Rattle.model.specs.Points.{Vector, value_at, Point, InRange}
use Rattle.model.proofs.Parts.{term_parts, generator_parts, spread, terms-spread, generators_spread, terms-ranged, generators_ranged}
use Rattle.model.proofs.WholeForms.{ι-+ℕ}
use Rattle.model.proofs.PartMaps.{term_parts-sum, generator_parts-sum, spread-within}

-- the same bound in other words
pub within_as : {x y r b : ℚ} → Within x r → x ≡ y → r ≡ b → Within y b
within_as {y = y} {r = r} w e f = subst (Within y) f (subst (λ z. Within z r) e w)

module _ (s : Zonotope) (j : ℕ) where
  -- the terms together
  pub terms-within : {α : Vector} → InRange α → Within (spread (term_parts α s.identifiers s.terms) j) (ι (pos (term_sizes s j)))
  unfolding term_sizes
  terms-within {α} w = within_as (spread-within (terms-ranged w s.identifiers s.terms) j) refl
      (ap (λ m. ι (pos m)) (term_parts-sum (λ v. nat_abs (at v j)) α s.identifiers s.terms))

  -- the generators together
  pub generators_within : {bs : List ℚ} → length bs ≡ length s.generators → All (λ b. Within b 1ℚ) bs
      → Within (spread (generator_parts s.generators bs) j) (ι (pos (generator_sizes s j)))
  unfolding generator_sizes
  generators_within {bs} e r = within_as (spread-within (generators_ranged s.generators r) j) refl
      (ap (λ m. ι (pos m)) (generator_parts-sum (λ v. nat_abs (at v j)) s.generators bs e))

  -- no point is further from 0 than the span
  pub point_within : {α x : Vector} → InRange α → Point s α x → j < s.dimension → Within (x j) (ι (pos (span s j)))
  unfolding span value_at
  point_within {α} w p h =
      let n = p.near j h in
      within_as (within-+ (within-+ (within-+ (within-ι (at s.centre j)) (terms-within w))
      (generators_within p.one_each p.in_range)) n.small)
      (sym (n.is ∙ ap (◌+ℚ n.off) (ap₂ (λ a b. ι (at s.centre j) +ℚ a +ℚ b)
      (terms-spread α s.identifiers s.terms j) (generators_spread s.generators p.numbers j))))
      (sym (ι-+ℕ _ (radius s j) ∙ ap (◌+ℚ ι (pos (radius s j))) (ι-+ℕ _ (generator_sizes s j)
      ∙ ap (◌+ℚ ι (pos (generator_sizes s j))) (ι-+ℕ (nat_abs (at s.centre j)) (term_sizes s j)))))
