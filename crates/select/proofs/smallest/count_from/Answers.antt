-- `smallest::count_from` meets its contract, by the library's count.
use Rattle.std.proofs.Common.{◌≡◌, ◌∙◌, rules}
use Rattle.std.proofs.Math.Dec.{leb}
use Rattle.std.proofs.iter.runs.Made.{chains}
use Rattle.std.specs.List.{count_by}
use Rattle.select.specs.Bar.{level_list}
use Rattle.select.proofs.smallest.count_from.Goals as goal

pub returns : goal.returns
returns c =
    let counted : c.count.result ≡ count_by (λ x. leb c.args.height x) c.args.z.now = search (rules, chains) in
    counted ∙ level_list c.args.z.now c.args.height
