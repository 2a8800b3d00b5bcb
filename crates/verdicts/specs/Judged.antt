-- The verdict on a set, and what a region's counts and lengths tell.
use Rattle.std.specs.Prelude.{◌≡◌, Bool, true, false, not, ◌||◌, ℕ, ◌*◌, ◌≤◌, ltb, eqb, Result, Ok, Err}
use Rattle.std.proofs.Math.Option.{Option, none, some}
use Rattle.std.proofs.Common.{mul-le-mul, ltb-false, eqb-true}
use Rattle.std.proofs.lemmas.Bool.{not-false}
use Rattle.whole.specs.Tests.{or_left, or_right}
use Rattle.zonotope.specs.Answer.{cause_of}
use Rattle.zonotope.specs.declared.Cause.{Cause}
use Rattle.verdicts.specs.declared.Verdict.{Verdict}
use Rattle.verdicts.specs.declared.Verdict.TheVariants.{Safe, Unknown}

-- the verdict: a refusal with the cause of its number, else whether the set is safe
abbrev pub judged : Option ℕ → Bool → Result Verdict Cause
judged none true = Ok Safe
judged none false = Ok Unknown
judged (some n) b = Err (cause_of n)

-- ---- what a region's counts and lengths tell
-- how many entries counts in limits give
pub few : (n count : ℕ) → (eqb n 0 || ltb 6 n || eqb count 0 || ltb 8 count) ≡ false → count * n ≤ 48
few n count e =
    let abc = or_left (eqb n 0 || ltb 6 n || eqb count 0) (ltb 8 count) e in
    let ab = or_left (eqb n 0 || ltb 6 n) (eqb count 0) abc in
    let h = ltb-false 6 n (or_right (eqb n 0) (ltb 6 n) ab) in
    let k = ltb-false 8 count (or_right (eqb n 0 || ltb 6 n || eqb count 0) (ltb 8 count) e) in
    mul-le-mul k h

-- both lengths are what the counts give
pub same_lengths : (a b c d : ℕ) → (not (eqb a b) || not (eqb c d)) ≡ false → (a ≡ b) × (c ≡ d)
same_lengths a b c d e = (
  eqb-true a b (not-false (eqb a b) (or_left (not (eqb a b)) (not (eqb c d)) e)),
  eqb-true c d (not-false (eqb c d) (or_right (not (eqb a b)) (not (eqb c d)) e)),
)
