-- `finish::record::pack` meets its contract, by what its parts give.
use Rattle.finish.specs.Packing.{packed}
use Rattle.finish.proofs.record.pack.Goals as goal

pub narrow_radii-requires : goal.narrow_radii-requires
narrow_radii-requires c = c.requires.radii

pub returns : goal.returns
returns c =
    let s = c in
    let g = s.args in
    packed g.u g.k g.e.now g.heads.now g.s.now g.g.now s.requires
    (c.drop_unused-f.ensures g.s.now)
    c.narrow_all.ensures c.narrow_radii.ensures
