-- `finish::span::column_size` meets its contract: the sum grows at its end.
use borrow.Author.Rules.{rules}
use native.Mathlib.Omega.{arith}
use mathlib.Core.Path.{◌≡◌, sym, ap, ap₂, ◌∙◌}
use Prim.Native.Nat.{ℕ, ◌+◌, ◌*◌}
use lib.ListN.{get_or}
use lib.IntN.{pos, nat_abs}
use Rattle.whole.specs.Fits.{read64}
use Rattle.whole.specs.Sum.{upto_by, upto_suc}
use Rattle.finish.specs.Spans.{column_size}
use Rattle.finish.proofs.span.column_size.Goals as goal

pub loop-t-init : goal.loop-t-init
unfolding upto_by
loop-t-init c = search rules

pub overflow_add-sum : goal.overflow_add-sum
overflow_add-sum c =
    let at = c in
    let x = at.loop-t.t * 6 + at.args.i in
    let z = get_or at.args.s.now x (pos 0) in
    let e : c.unsigned_abs-sum.result ≡ nat_abs z = c.unsigned_abs-sum.ensures.value ∙ ap nat_abs (read64 z (search rules)) in
    let few = at.loop-t.invariant.2 in
    omega (arith, few, at.requires.3.small x)

pub loop-t-preserved : goal.loop-t-preserved
loop-t-preserved c =
    let at = c in
    let g = at.args in
    let x = at.loop-t.t * 6 + g.i in
    let z = get_or g.s.now x (pos 0) in
    let e : c.unsigned_abs-sum.result ≡ nat_abs z = c.unsigned_abs-sum.ensures.value ∙ ap nat_abs (read64 z (search rules)) in
    let few = at.loop-t.invariant.2 in (
      omega arith,
      ap₂ ◌+◌ at.loop-t.invariant.1 e ∙ sym (upto_suc 0 ◌+◌ (λ t. nat_abs (get_or g.s.now (t * 6 + g.i) (pos 0))) at.loop-t.t),
      omega (arith, few, at.requires.3.small x),
    )

pub returns : goal.returns
returns c =
    let at = c in
    let e : at.loop-t.t ≡ at.args.n = omega arith in (
      at.loop-t.invariant.1 ∙ ap (λ (t : ℕ). column_size at.args.s.now t at.args.i) e,
      omega (arith, at.loop-t.invariant.2),
    )
