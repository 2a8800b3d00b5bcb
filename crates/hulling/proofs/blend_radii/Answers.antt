-- `hulling::blend_radii` meets its contract.
use mathlib.Core.Path.{ap, ap₂, ◌∙◌}
use Rattle.zonotope.specs.Record.{anew}
use Rattle.hulling.specs.Radii.{larger_parts}
use Rattle.hulling.specs.BlendRadii.{halves_of, coordinates_few}
use Rattle.hulling.proofs.blend_radii.Goals as goal

pub larger_parts-carried-requires : goal.larger_parts-carried-requires
larger_parts-carried-requires c = let z = c in coordinates_few z.args.first z.requires.0

pub returns : goal.returns
returns c =
    let l = c in
    let q = l in
    let p = q in
    let n = p in
    let z = n in
    let a = z.args.first in
    c.anew.ensures
    ∙ ap₂ anew (l.larger_parts-carried.ensures ∙ ap₂ (larger_parts a.dimension) p.independent_parts-p.ensures q.independent_parts-q.ensures)
    (c.halves-rounded.ensures ∙ ap halves_of n.counts-counts.ensures)
