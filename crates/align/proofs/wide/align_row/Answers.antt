-- `align::wide::align_row` meets its contract: each column gets the exponent of its factor, or 0.
use Rattle.std.proofs.Common.{refl, sym, ◌∙◌, ◌*◌, arith}
use Rattle.std.proofs.Math.ListN.{length-set}
use Rattle.whole.specs.Write.{write_none}
use Rattle.align.specs.Align.{aligning_start, met_within, put_met, put_missed}
use Rattle.align.proofs.wide.align_row.Goals as goal
use Rattle.align.proofs.wide.align_row.Goals.{then-meets, else-meets}

pub loop-k-init : goal.loop-k-init
loop-k-init c = (sym (write_none _ _ _), refl, aligning_start _ _ _)

-- where a factor is found, it is one of the first p
pub overflow_add-e : goal.overflow_add-e
overflow_add-e c =
    let s = c.args in
    let w = met_within s.exponents.now s.p s.ids.now s.n s.all.now s.t _ _ (sym c.meets.ensures ∙ c.if-meets.true) in omega arith

pub bounds-exponents-t : goal.bounds-exponents-t
bounds-exponents-t c =
    let s = c.args in
    let w = met_within s.exponents.now s.p s.ids.now s.n s.all.now s.t _ _ (sym c.meets.ensures ∙ c.if-meets.true) in omega arith

pub overflow_add-i : goal.overflow_add-i
overflow_add-i c =
    let s = c.args in
    let w = met_within s.exponents.now s.p s.ids.now s.n s.all.now s.t _ _ (sym c.meets.ensures ∙ c.if-meets.true) in omega arith

pub loop-k-preserved : goal.loop-k-preserved
loop-k-preserved c =
    let s = c.args in
    let l = c.loop-k in
    elim c.if-meets.branch [
      | then-meets w ↦
          let h = put_met s.exponents.now s.p s.ids.now s.n s.all.now s.t _ l.e (s.to * 12) l.i l.k l.invariant.0 l.invariant.2
          (sym c.meets.ensures ∙ w.if-meets.true) in
          rw (w.e-is, w.i-is) (h.0, simp length-set l.invariant.1, h.1)
      | else-meets w ↦
          let h = put_missed s.exponents.now s.p s.ids.now s.n s.all.now s.t _ l.e (s.to * 12) l.i l.k l.invariant.0 l.invariant.2
          (sym c.meets.ensures ∙ w.if-meets.false) in
          rw (w.e-is, w.i-is) (h.0, simp length-set l.invariant.1, h.1)
    ]
