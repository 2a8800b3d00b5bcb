-- `image::rounding::round_first` meets its contract: each place is read, rounded and written in turn.
use Rattle.std.proofs.Common.{rules, arith, ◌≡◌, ap, ◌∙◌, ℕ, ℤ, List, pos, ◌++◌, take, drop, to_z, of_z, w64}
use Rattle.std.proofs.Math.Seq.{length-take-le}
use Rattle.whole.specs.Fits.{got64}
use Rattle.whole.specs.Write.{write, write-after, write-part, write_cong, get_d_take}
use Rattle.whole.specs.Round.{round}
use Rattle.model.specs.Set.{at}
use Rattle.forms.specs.Filling.{writing_begins, first-again, writing_ends}
use Rattle.image.proofs.rounding.round_first.Goals as goal

abbrev F : List ℤ → ℕ → ℤ
F w y = round (at w y)

pub loop-v-init : goal.loop-v-init
loop-v-init c = writing_begins _ 0 (F (take c.args.n c.args.w.now)) c.args.n

pub loop-v-preserved : goal.loop-v-preserved
loop-v-preserved c =
    let first = take c.args.n c.args.w.now in
    let i = c.loop-v.v-index in
    let read : to_z w64 (of_z w64 (at c.loop-v.v-items i)) ≡ at c.loop-v.v-items i = search rules in
    let held : at c.loop-v.v-items i ≡ at first i =
    ap (λ (ws : List ℤ). at ws i) c.loop-v.invariant.written ∙ write-after first 0 (F first) (pos 0) i i (omega arith) in
    first-again _ (F first) c.args.n i c.loop-v.v-items _ c.loop-v.invariant
    (omega (arith, c.loop-v-test.true, length-take-le c.args.n c.args.w.now c.requires))
    (got64 (c.round_scale.ensures ∙ ap round (read ∙ held)) c.round_scale.type_inv)

pub returns : goal.returns
returns c =
    let n = c.args.n in
    let w = c.args.w.now in
    let e : c.loop-v.v-items ≡ write (take n w) 0 (F (take n w)) n =
    writing_ends _ 0 (F (take n w)) n c.loop-v.v-index c.loop-v.v-items c.loop-v.invariant
    (omega (arith, c.loop-v-test.false, length-take-le n w c.requires)) in
    ap (◌++ drop n w) e
    ∙ write-part w 0 n (F (take n w)) (omega arith) n (omega arith)
    ∙ write_cong w 0 (F (take n w)) (F w) n (λ k h. ap round (get_d_take n w k (pos 0) h))
