-- `align::join_terms` meets its contract: what the four calls write are the rows of the sum.
use mathlib.Core.List.{List}
use mathlib.Core.Path.{◌≡◌, ap, ◌∙◌}
use Prim.Native.Nat.{ℕ, ◌*◌}
use native.Mathlib.Omega.{arith}
use lib.IntN.{ℤ, pos}
use lib.ListN.{length, get_or}
use borrow.Author.Rules.{rules}
use Rattle.whole.specs.Write.{write}
use Rattle.align.specs.Sum.{exponents_of}
use Rattle.align.specs.Joins.{joins_terms}
use Rattle.align.specs.Examined.{counts}
use Rattle.align.specs.Runs.{flat}
use Rattle.align.proofs.join_terms.Goals as goal

pub align_rows-requires : goal.align_rows-requires
align_rows-requires c =
    let s = c in
    let k = counts s.args.a s.requires.0 in
    let p = k.terms_few in
    let few = s.requires.2.few in
    let long = s.requires.3 in
    (k.terms_few, k.factors_few, omega arith, omega arith)

pub align_rows-requires-2 : goal.align_rows-requires-2
align_rows-requires-2 c =
    let s = c in
    let p = (counts s.args.a s.requires.0).terms_few in
    let k = counts s.args.b s.requires.1 in
    let q = k.terms_few in
    let few = s.requires.2.few in
    let long = s.requires.3 in
    let same = c.align_rows.auto in
    (k.terms_few, k.factors_few, omega arith, omega arith)

pub widen_rows-requires : goal.widen_rows-requires
widen_rows-requires c =
    let s = c in
    let p = (counts s.args.a s.requires.0).terms_few in
    let own : length s.args.a.coefficients ≡ 240 = search rules in
    let long = s.requires.4 in
    (omega arith, omega arith)

pub widen_rows-requires-2 : goal.widen_rows-requires-2
widen_rows-requires-2 c =
    let s = c in
    let p = (counts s.args.a s.requires.0).terms_few in
    let q = (counts s.args.b s.requires.1).terms_few in
    let own : length s.args.b.coefficients ≡ 240 = search rules in
    let long = s.requires.4 in
    let same = c.widen_rows.auto in
    (omega arith, omega arith)

pub overflow_add-result : goal.overflow_add-result
overflow_add-result c =
    let s = c in
    let p = (counts s.args.a s.requires.0).terms_few in
    let q = (counts s.args.b s.requires.1).terms_few in
    omega arith

pub returns : goal.returns
returns c =
    let w₂ = c in
    let w₁ = w₂ in
    let e₂ = w₁ in
    let e₁ = e₂ in
    let s = e₁ in
    let a = s.args.a in
    let b = s.args.b in
    let ys = exponents_of b s.args.ids.now s.args.all in
    joins_terms a b s.requires.0 s.requires.1 s.args.ids.now s.args.all s.requires.2 s.args.e.now s.args.c.now s.requires.3
    s.requires.4
    s.requires.5 _ _
    (e₂.align_rows-2.ensures
    ∙ ap (λ (w : List ℕ). write w (a.terms * 12) (flat 12 ys) (b.terms * 12)) e₁.align_rows.ensures)
    (w₂.widen_rows-2.ensures
    ∙ ap (λ (w : List ℤ). write w (a.terms * 6) (λ k. get_or b.coefficients k (pos 0)) (b.terms * 6)) w₁.widen_rows.ensures)
