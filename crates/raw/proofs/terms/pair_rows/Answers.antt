-- `raw::terms::pair_rows` meets its contract: at each turn a used pair's row is added, or the rest of a row of the table is passed.
use Rattle.std.proofs.Common.{arith, ◌≡◌, sym, ap, ◌∙◌, ℕ, List, length, get_or, pos, ◌+◌, ◌*◌, ◌≤◌, ◌/◌, ◌<◌}
use Rattle.model.specs.Pairs.{pair_codes}
use Rattle.forms.specs.Numbers.{column_small}
use Rattle.forms.specs.RowsTo.{column_to}
use Rattle.forms.specs.Filling.{copied}
use Rattle.raw.specs.Zeros.{no_forms}
use Rattle.raw.specs.Pairs.{first_below}
use Rattle.raw.specs.PairRows.{taken_no_forms, taken_none, taken-left, taken-one, taken-all}
use Rattle.raw.proofs.terms.pair_rows.Goals as goal
use Rattle.raw.proofs.terms.pair_rows.Goals.{After-from-code}

-- the code that is read is the table's, and its first place is a term's
code_is : (c : After-from-code) → c.from-code.result ≡ get_or (pair_codes 40) c.loop-k.k 0
code_is c = c.from-code.ensures ∙ ap (λ (t : List ℕ). get_or t c.loop-k.k 0) c.requires.4

first : (c : After-from-code) → c.from-code.result / 40 < 40
first c = rw (code_is c) (first_below c.loop-k.k c.loop-k-test.true)

pub returns-then-no_forms : goal.returns-then-no_forms
returns-then-no_forms c =
    let g = c.args in
    taken_no_forms g.both.now g.coefficients.now g.exponents.now g.h _ _
    (no_forms g.m g.both.now c.requires.1 c.requires.9 (sym c.no_forms.ensures ∙ c.if-no_forms.true)) c.requires.8

pub loop-k-init : goal.loop-k-init
loop-k-init c =
    let g = c.args in
    (taken_none g.both.now g.coefficients.now g.exponents.now g.h _ _ c.requires.8, c.column-column.ensures)

pub column_of-requires : goal.column_of-requires
column_of-requires c =
    (c.requires.1, first (goal.at.column_of-requires c).After-from-code, c.loop-k.invariant.1, c.requires.5, c.requires.6, c.requires.9)

pub pair_numbers-numbers-requires : goal.pair_numbers-numbers-requires
pair_numbers-numbers-requires c =
    let g = c.args in
    let f = c.from-code.result / 40 in (
      omega arith,
      rw c.column_of.ensures (column_small g.both.now g.coefficients.now c.requires.5 c.requires.6 f),
      c.requires.6,
      rw c.column_of.ensures (column_to g.m g.both.now g.coefficients.now f c.requires.9),
    )

pub pair_exponents-added-requires : goal.pair_exponents-added-requires
pair_exponents-added-requires c =
    (first (goal.at.pair_exponents-added-requires c).After-from-code, omega arith, c.requires.7)

pub loop-k-preserved-then-second-h : goal.loop-k-preserved-then-second-h
loop-k-preserved-then-second-h c =
    let g = c.args in
    let i = c.loop-k.invariant.0 in
    let r = c.loop-k.r in
    let long : r * 6 + 6 ≤ length c.loop-k.w = omega (arith, i.long-numbers, i.inside) in
    let low : r * 12 + 12 ≤ length c.loop-k.e = omega (arith, i.long-exponents, i.inside) in (
      taken-one g.both.now g.coefficients.now g.exponents.now g.h _ _ c.loop-k.k r c.loop-k.e c.loop-k.w i c.loop-k-test.true
          c.from-code.result _ _ _ (code_is (goal.at.loop-k-preserved-then-second-h c).After-from-code) c.column_of.ensures c.if-second-h.true
          low long c.requires.6 c.requires.5
          (copied c.loop-k.e (r * 12) _ 12 _ 0 _ (omega arith) low (c.copy_from_slice-then-second-h.ensures.after ∙ c.pair_exponents-added.ensures))
          (copied c.loop-k.w (r * 6) _ 6 _ (pos 0) _ (omega arith) long (c.copy_from_slice.ensures.after ∙ c.pair_numbers-numbers.ensures)),
      c.column_of.ensures,
    )

pub loop-k-preserved : goal.loop-k-preserved
loop-k-preserved c =
    let g = c.args in (
      taken-left g.both.now g.coefficients.now g.exponents.now g.h _ _ c.loop-k.k c.loop-k.r c.loop-k.e c.loop-k.w c.loop-k.invariant.0
          c.loop-k-test.true c.from-code.result (code_is (goal.at.loop-k-preserved c).After-from-code) c.if-second-h.false,
      c.loop-k.invariant.1,
    )

pub returns : goal.returns
returns c =
    let g = c.args in
    taken-all g.both.now g.coefficients.now g.exponents.now g.h _ _ c.loop-k.k c.loop-k.r c.loop-k.e c.loop-k.w c.loop-k.invariant.0
    c.loop-k-test.false
