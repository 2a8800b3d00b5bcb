-- `align::join_generators` meets its contract: what the two calls write are the rows of the sum.
use mathlib.Core.List.{List}
use mathlib.Core.Path.{◌≡◌, ap, ◌∙◌}
use Prim.Native.Nat.{◌*◌}
use native.Mathlib.Omega.{arith}
use lib.IntN.{ℤ, pos}
use lib.ListN.{length, get_or}
use borrow.Author.Rules.{rules}
use Rattle.whole.specs.Write.{write}
use Rattle.align.specs.Joins.{joins_generators}
use Rattle.align.specs.Examined.{counts}
use Rattle.align.proofs.join_generators.Goals as goal

pub widen_rows-requires : goal.widen_rows-requires
widen_rows-requires c =
    let s = c in
    let p = (counts s.args.a s.requires.0).generators_few in
    let own : length s.args.a.vectors ≡ 144 = search rules in
    let long = s.requires.2 in
    (omega arith, omega arith)

pub widen_rows-requires-2 : goal.widen_rows-requires-2
widen_rows-requires-2 c =
    let s = c in
    let p = (counts s.args.a s.requires.0).generators_few in
    let q = (counts s.args.b s.requires.1).generators_few in
    let own : length s.args.b.vectors ≡ 144 = search rules in
    let long = s.requires.2 in
    let same = c.widen_rows.auto in
    (omega arith, omega arith)

pub overflow_add-result : goal.overflow_add-result
overflow_add-result c =
    let s = c in
    let p = (counts s.args.a s.requires.0).generators_few in
    let q = (counts s.args.b s.requires.1).generators_few in
    omega arith

pub returns : goal.returns
returns c =
    let second = c in
    let first = second in
    let s = first in
    let a = s.args.a in
    let b = s.args.b in
    λ ids. joins_generators a b s.requires.0 s.requires.1 s.args.g.now s.requires.2 s.requires.3 ids _
    (second.widen_rows-2.ensures
    ∙ ap (λ (w : List ℤ). write w (a.generators * 6) (λ k. get_or b.vectors k (pos 0)) (b.generators * 6)) first.widen_rows.ensures)
