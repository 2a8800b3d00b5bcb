-- `span::too_wide` meets its contract: a span is too wide where the library finds one.
use Rattle.std.specs.Prelude.{◌≡◌, List, ℕ, ℤ, ◌+◌, ◌<◌, ltb, pos, nat_abs, get_or}
use Rattle.std.proofs.Common.{ap, ap₂, ◌∙◌, arith, rules, tests}
use Rattle.std.proofs.lemmas.Iterator.{YieldsList-from_range}
use Rattle.std.proofs.lemmas.Iterator.Search.{any_from_yields_List}
use Rattle.whole.specs.Tab.{tab, get_d_tab}
use Rattle.whole.specs.Tests.{any_cong}
use Rattle.arrays.specs.Rows.{column_sizes}
use Rattle.arrays.specs.Chains.{some_listed}
use Rattle.arrays.proofs.span.too_wide.Goals as goal

-- a column's sizes
column : (xs : List ℤ) (rows i : ℕ) {r : List ℕ} → i < 6 → r ≡ tab 6 (λ i. column_sizes xs i rows) → get_or r i 0 ≡ column_sizes xs i rows
column xs rows i l e = ap (λ r. get_or r i 0) e ∙ get_d_tab 6 (λ i. column_sizes xs i rows) 0 i l

pub returns : goal.returns
returns c =
    let a = c.args in
    let terms = c.column_sizes-terms in
    let generators = c.column_sizes-generators in
    any_from_yields_List (λ i. ltb a.limit (nat_abs (get_or a.centre.now i (pos 0)) + get_or terms.result i 0 + get_or generators.result i 0 + get_or a.radii.now i 0))
    _ _ _ c.any.ensures.ran (YieldsList-from_range 0 a.n a.n (cc) (omega arith)) (λ x b q k. search (rules, tests))
    ∙ some_listed _ a.n
    ∙ any_cong _ _ a.n (λ i. i) (λ i l. ap₂ (λ x y. ltb a.limit (nat_abs (get_or a.centre.now i (pos 0)) + x + y + get_or a.radii.now i 0))
    (column a.coefficients.now a.h i (omega arith) terms.ensures.0) (column a.vectors.now a.q i (omega arith) generators.ensures.0))
