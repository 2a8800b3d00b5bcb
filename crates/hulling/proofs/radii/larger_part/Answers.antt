-- `radii::larger_part` meets its contract, by its test.
use Rattle.std.proofs.Common.{sym, rules}
use Rattle.whole.specs.Tab.{get_d_tab, get_d_tab_past}
use Rattle.hulling.specs.Radii.{larger_part}
use Rattle.hulling.proofs.radii.larger_part.Goals as goal

pub returns-then-i-n : goal.returns-then-i-n
returns-then-i-n c =
    let a = c.args in
    rw (get_d_tab a.n (larger_part a.p.now a.q.now) 0 a.i c.if-i-n.true) (search rules)

pub returns-else-i-n : goal.returns-else-i-n
returns-else-i-n c = let a = c.args in sym (get_d_tab_past a.n (larger_part a.p.now a.q.now) 0 a.i c.if-i-n.false)
