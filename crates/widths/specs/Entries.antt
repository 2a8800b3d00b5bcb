-- Half-widths that are not too large with their entries are small.
use Rattle.std.specs.Prelude.{List, ◌≡◌, false, ℕ, ◌+◌, ◌<◌, ◌≤◌, ltb, ℤ, nat_abs, length, get_or}
use Rattle.std.proofs.Math.Decide.{dec_lt}
use Rattle.std.proofs.Common.{arith, ltb-false}
use Rattle.std.proofs.Math.ListN.{get_or-eq_default}
use Rattle.whole.specs.Tests.{none_at}
use Rattle.model.specs.Set.{at}
use Rattle.model.specs.Field.{beyond_with}
use Rattle.image.specs.Remainder.{Below}

pub widths_small : (entries : List ℤ) (widths : List ℕ) → length widths ≤ length entries → beyond_with entries widths ≡ false
    → Below 32768 widths
unfolding beyond_with
widths_small entries widths short e = record { below = λ k. go k (dec_lt k (length entries)) }
  where
    go : (k : ℕ) → Dec (k < length entries) → get_or widths k 0 ≤ 32768
    go k (yes p) =
        omega (
          arith,
          ltb-false 32768 (nat_abs (at entries k) + get_or widths k 0)
              (none_at (λ k. ltb 32768 (nat_abs (at entries k) + get_or widths k 0)) (length entries) (λ k. k) e k p),
        )
    go k (no p) = rw (get_or-eq_default widths 0 {n = k} (omega arith)) (omega arith)
