-- `fold::grown` meets its contract: j numbers are added.
use Rattle.std.proofs.Common.{◌≡◌, ◌+◌, sym, ap, ap₂, ◌∙◌, get_or, pos, to_z-of_z, w64, arith, rules}
use Rattle.whole.specs.Fits.{fits_abs}
use Rattle.whole.specs.Write.{write, write_none, write-next}
use Rattle.model.specs.Finish.{growth}
use Rattle.fold.specs.Row.{added_all, ahead, growth_le}
use Rattle.fold.proofs.grown.Goals as goal

pub loop-j-init : goal.loop-j-init
loop-j-init c = sym (write_none _ _ _)

pub overflow_add-r : goal.overflow_add-r
overflow_add-r c =
    let g = c.args in
    let l = c.loop-j in
    let v = get_or g.row.now l.j (pos 0) in
    let q = c.requires.2.small l.j in
    let m : c.growth_by.result ≡ growth g.even v = c.growth_by.ensures ∙ ap (growth g.even) (to_z-of_z {w = w64} {z = get_or g.row.now l.j (pos 0)} (fits_abs (omega arith))) in
    let same = ahead g.radii _ 0 l.r-items l.j l.invariant in
    record { fits = omega (arith, m, same, growth_le g.even v, q, c.requires.1.under l.j) }

pub loop-j-preserved : goal.loop-j-preserved
loop-j-preserved c =
    let g = c.args in
    let l = c.loop-j in
    let q = c.requires.2.small l.j in
    write-next g.radii _ l.r-items l.j _ l.invariant
    (ap₂ ◌+◌ (ahead g.radii _ 0 l.r-items l.j l.invariant)
    (c.growth_by.ensures ∙ ap (growth g.even) (to_z-of_z {w = w64} {z = get_or g.row.now l.j (pos 0)} (fits_abs (omega arith)))))

pub returns : goal.returns
returns c =
    let g = c.args in
    let e : c.loop-j.j ≡ 6 = omega arith in
    c.loop-j.invariant ∙ ap (write _ _ _) e ∙ added_all ◌+◌ g.radii 0 6 (growth g.even) g.row.now (pos 0) (search rules) c.requires.0
