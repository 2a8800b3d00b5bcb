-- `bodies::record::centre` meets its contract: the words are written to zeros.
use mathlib.Core.Path.{◌≡◌, refl, ◌∙◌}
use lib.IntN.{pos}
use Rattle.std.proofs.Math.Seq.{length-take-le}
use Rattle.model.specs.Bytes.{words}
use Rattle.bodies.specs.Set.{centre_from}
use Rattle.bodies.specs.Rows.{zeros-at, padded_part}
use Rattle.bodies.proofs.record.centre.Goals as goal

pub returns : goal.returns
returns c =
    let k = c.args.k in
    let few = c.requires.counts.dimension in
    let read : c.read_words.new.out ≡ words c.args.b.now (centre_from k) k.dimension =
    c.read_words.ensures ∙ rw (c.centre_from.ensures, length-take-le) in
    padded_part (pos 0) 6 _ refl (zeros-at (pos 0) 6) _ _ _ few read
