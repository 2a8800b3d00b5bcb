-- `used::rows_rise` meets its contract, by the test of one row.
use Rattle.std.specs.Prelude.{◌≡◌, refl, Bool, ◌&&◌, ℕ, zero, suc, ◌+◌, ◌-◌}
use Rattle.std.specs.List.{list_all, range_with_len}
use Rattle.std.proofs.Common.{◌∙◌, ap, ap₂, arith, rules, tests}
use Rattle.std.proofs.lemmas.Iterator.{YieldsList-from_range}
use Rattle.std.proofs.lemmas.Iterator.Search.{all_from_yields_List}
use Rattle.model.specs.Valid.{order, is_less}
use Rattle.arrays.specs.Rows.{row}
use Rattle.arrays.specs.Chains.{rises_listed}
use Rattle.arrays.proofs.used.rows_rise.Goals as goal

-- from 1 on the place after the one before is the place
next_is : {A : Type 0} (before : A → A → Bool) (f : ℕ → A) (n i : ℕ)
    → list_all (λ t. before (f (t - 1)) (f (t - 1 + 1))) (range_with_len (i + 1) n)
    ≡ list_all (λ t. before (f (t - 1)) (f t)) (range_with_len (i + 1) n)
next_is before f zero i = refl
next_is before f (suc n) i =
    let a : i + 1 - 1 + 1 ≡ i + 1 = omega arith in
    ap₂ ◌&&◌ (ap (λ m. before (f (i + 1 - 1)) (f m)) a) (next_is before f n (i + 1))

pub returns : goal.returns
returns c =
    let e = c.args.e.now in
    let p = c.args.p in
    all_from_yields_List (λ t. is_less (order (row 12 0 e (t - 1) p) (row 12 0 e (t - 1 + 1) p))) _ _ _ c.all.ensures.ran (YieldsList-from_range 1 c.args.h (c.args.h - 1) (cc) (omega arith))
    (λ x b q k. search (rules, tests))
    ∙ next_is (λ u v. is_less (order u v)) (λ t. row 12 0 e t p) (c.args.h - 1) 0
    ∙ rises_listed (λ u v. is_less (order u v)) (λ t. row 12 0 e t p) c.args.h
