-- `fold::shifted` meets its contract: j numbers are added.
use Rattle.std.proofs.Common.{◌≡◌, sym, ap, ◌∙◌, get_or, pos, ◌+ℤ◌, to_z-of_z, arith, rules}
use Rattle.whole.specs.Write.{write, write_none, write-next}
use Rattle.model.specs.Finish.{shift}
use Rattle.fold.specs.Row.{added_all, ahead, shift_sum, shift_fits}
use Rattle.fold.proofs.shifted.Goals as goal

pub loop-j-init : goal.loop-j-init
loop-j-init c = sym (write_none _ _ _)

pub overflow_add-c : goal.overflow_add-c
overflow_add-c c =
    let g = c.args in
    let l = c.loop-j in
    let a = get_or g.centre l.j (pos 0) in
    let v = get_or g.row.now l.j (pos 0) in
    let p = c.requires.1.small l.j in
    let q = c.requires.2.small l.j in
    rw (ahead g.centre _ (pos 0) l.c-items l.j l.invariant, shift_sum a g.even v p q c.shift_by.ensures) (shift_fits a g.even v p q)

pub loop-j-preserved : goal.loop-j-preserved
loop-j-preserved c =
    let g = c.args in
    let l = c.loop-j in
    let a = get_or g.centre l.j (pos 0) in
    let v = get_or g.row.now l.j (pos 0) in
    let p = c.requires.1.small l.j in
    let q = c.requires.2.small l.j in
    write-next g.centre _ l.c-items l.j _ l.invariant
    (rw (ahead g.centre _ (pos 0) l.c-items l.j l.invariant, shift_sum a g.even v p q c.shift_by.ensures)
    (to_z-of_z (shift_fits a g.even v p q)))

pub returns : goal.returns
returns c =
    let g = c.args in
    let e : c.loop-j.j ≡ 6 = omega arith in
    c.loop-j.invariant ∙ ap (write _ _ _) e ∙ added_all ◌+ℤ◌ g.centre (pos 0) 6 (shift g.even) g.row.now (pos 0) (search rules) c.requires.0
