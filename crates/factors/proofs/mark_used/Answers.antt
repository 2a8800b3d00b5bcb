-- `factors::mark_used` meets its contract: each place is written once.
use Rattle.std.proofs.Common.{◌≡◌, sym, ap, ◌∙◌, false, refl, arith}
use Rattle.std.specs.Prelude.{replicate}
use Rattle.whole.specs.Write.{write, write_none, write-next, write-all}
use Rattle.factors.proofs.mark_used.Goals as goal

pub loop-j-init : goal.loop-j-init
loop-j-init c = λ s. sym (write_none _ _ _)

pub loop-j-preserved : goal.loop-j-preserved
loop-j-preserved c =
    let l = c.loop-j in
    λ s. write-next (replicate 12 false) _ l.used-items l.j _ (l.invariant s) (c.occurs_at.ensures s)

pub returns : goal.returns
returns c =
    let e : c.loop-j.j ≡ 12 = omega arith in
    λ s. c.loop-j.invariant s ∙ ap (write _ _ _) e ∙ write-all (replicate 12 false) _ false 12 refl
