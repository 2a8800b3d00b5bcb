-- `raw::terms::pair_numbers` meets its contract, by its test.
use Rattle.std.proofs.Common.{rules, sym, ap, ◌∙◌, pos, List, ℤ}
use Rattle.whole.specs.Half.{half}
use Rattle.whole.specs.Tab.{tab_cong, get_d_tab}
use Rattle.model.specs.Set.{at}
use Rattle.forms.specs.Made.{made}
use Rattle.raw.specs.PairRows.{product, number_square, number-pair}
use Rattle.raw.proofs.terms.pair_numbers.Goals as goal

pub returns-then-s-t : goal.returns-then-s-t
returns-then-s-t c =
    let g = c.args in
    made (λ i. half (at c.products-numbers.result i)) 6 (pos 0) (λ i x q l k. search rules) c.from_fn.ensures.items
    ∙ tab_cong 6 _ _ (λ i l.
    ap half (ap (λ (v : List ℤ). at v i) c.products-numbers.ensures ∙ get_d_tab 6 (product g.column.now g.coefficients.now g.t) (pos 0) i l)
    ∙ sym (number_square g.column.now g.coefficients.now g.s g.t i c.if-s-t.true))

pub returns-else-s-t : goal.returns-else-s-t
returns-else-s-t c =
    let g = c.args in
    c.products-numbers.ensures
    ∙ tab_cong 6 _ _ (λ i _. sym (number-pair g.column.now g.coefficients.now g.s g.t i c.if-s-t.false))
