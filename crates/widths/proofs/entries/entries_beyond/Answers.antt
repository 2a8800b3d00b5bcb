-- `entries::entries_beyond` meets its contract: each entry is asked with its half-width.
use Rattle.std.proofs.Common.{rules, tests, arith, ◌≡◌, true, false, ◌∙◌, ap, ℕ, ℤ, pos, nat_abs, ◌+◌, length}
use Rattle.std.proofs.lemmas.Iterator.{cases_from_any, YieldsList-from_slice, YieldsList-from_zip}
use Rattle.std.proofs.lemmas.Slice.Zip.{length-zip, get_or-zip}
use Rattle.std.specs.List.{zip}
use Rattle.std.specs.Prelude.{Bool, ltb}
use Rattle.whole.specs.Tests.{any-places, any_cong}
use Rattle.model.specs.Field.{beyond_with}
use Rattle.forms.specs.Answered.{any_answered}
use Rattle.widths.proofs.entries.entries_beyond.Goals as goal

abbrev too_large : ℤ × ℕ → Bool
too_large p = ltb 32768 (nat_abs p.0 + p.1)

pub returns : goal.returns
unfolding beyond_with
returns c =
    let xs = c.args.entries.now in
    let ws = c.args.widths.now in
    any_answered too_large (pos 0, 0) (length xs) _ (zip xs ws) (omega (arith, length-zip xs ws))
    (cases_from_any c.any.new.self _ _ (λ p. too_large p ≡ true) (λ p. too_large p ≡ false) c.any.ensures.ran
    (YieldsList-from_zip (YieldsList-from_slice xs cc) (YieldsList-from_slice ws cc))
    (λ x q k. search (rules, tests)) (λ x q k. search (rules, tests)))
    ∙ any-places too_large (length xs) _
    ∙ any_cong _ _ (length xs) (λ k. k) (λ k l. ap too_large (get_or-zip xs ws k (pos 0, 0) l (omega arith)))
