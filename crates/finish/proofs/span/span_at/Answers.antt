-- `finish::span::span_at` meets its contract, by those of its sums.
use Rattle.std.proofs.Common.{arith, rules}
use mathlib.Core.Path.{◌≡◌, ap, ap₂, ◌∙◌}
use Prim.Native.Nat.{ℕ, ◌+◌, ◌*◌, ◌^◌, ◌<◌, ◌≤◌}
use lib.ListN.{get_or}
use lib.IntN.{pos, nat_abs}
use Rattle.whole.specs.Fits.{read64}
use Rattle.finish.specs.Spans.{span_fits}
use Rattle.finish.proofs.span.span_at.Goals as goal
use Rattle.finish.proofs.span.span_at.Goals.{After-unsigned_abs}

-- the size of the centre's number, and that the whole sum fits
size_is : (c : After-unsigned_abs) → c.unsigned_abs.result ≡ nat_abs (get_or c.args.k.centre c.args.i (pos 0))
size_is c = c.unsigned_abs.ensures.value ∙ ap nat_abs (read64 (get_or c.args.k.centre c.args.i (pos 0)) (search rules))

sum_fits : (c : After-unsigned_abs) (r : ℕ) → r ≤ 2 ^ 61 + 3 * 2 ^ 40
    → c.unsigned_abs.result + c.column_size-terms.result + c.column_size-generators.result + r < 2 ^ 63
sum_fits c r few =
    rw (size_is c)
    (span_fits c.requires.2 c.args.i _
    _ r c.column_size-terms.ensures.1 c.column_size-generators.ensures.1 few)

pub overflow_add-result : goal.overflow_add-result
overflow_add-result c = omega (arith, sum_fits c 0 (omega arith))

pub overflow_add-result-2 : goal.overflow_add-result-2
overflow_add-result-2 c = omega (arith, sum_fits c 0 (omega arith))

pub radius_at-requires : goal.radius_at-requires
radius_at-requires c =
    let s = c in (s.requires.0, s.requires.1, s.requires.2.folded_small)

pub overflow_add-result-3 : goal.overflow_add-result-3
overflow_add-result-3 c = omega (arith, sum_fits c.before.before c.radius_at.result c.radius_at.ensures.1)

pub returns : goal.returns
returns c =
    let a = c in
    ap₂ ◌+◌ (ap₂ ◌+◌ (ap₂ ◌+◌ (size_is c.before.before) a.column_size-terms.ensures.0) a.column_size-generators.ensures.0)
    c.radius_at.ensures.0
