-- `bodies::record::given` meets its contract: the sizes are written to zeros.
use mathlib.Core.Path.{◌≡◌, refl, sym, ap, ◌∙◌}
use mathlib.Core.List.{map}
use lib.IntN.{nat_abs}
use lib.ListN.{get_or}
use Rattle.std.proofs.Math.Seq.{length-take-le}
use Rattle.whole.specs.Tab.{tab, map-tab}
use Rattle.model.specs.Bytes.{words}
use Rattle.bodies.specs.Set.{radii_from}
use Rattle.bodies.specs.Rows.{zeros-at, padded_part}
use Rattle.bodies.proofs.record.given.Goals as goal

pub returns : goal.returns
returns c =
    let k = c.args.k in
    let few = c.requires.counts.dimension in
    let read : c.read_sizes.new.out ≡ map nat_abs (words c.args.b.now (radii_from k) k.dimension) =
    c.read_sizes.ensures ∙ rw (c.radii_from.ensures, length-take-le) in
    padded_part 0 6 _ refl (zeros-at 0 6) _ _ _ few (read ∙ map-tab nat_abs _ _)
    ∙ ap (λ l. tab 6 (λ j. get_or l j 0)) (sym (map-tab nat_abs _ _))
