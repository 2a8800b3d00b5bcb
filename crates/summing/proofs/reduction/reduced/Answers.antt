-- `reduction::reduced` meets its contract.
use Rattle.summing.specs.Wide.{finishable_parts, finished_parts}
use Rattle.summing.proofs.reduction.reduced.Goals as goal

pub unfinished-u-requires : goal.unfinished-u-requires
unfinished-u-requires c = c.requires.0.sized

pub finish_rows-requires : goal.finish_rows-requires
finish_rows-requires c =
    let v = c in
    let w = v in
    let u = w in
    let s = u in (
      finishable_parts s.args.s s.requires.0 u.unfinished-u.ensures w.widen_numbers.ensures v.widen_numbers-2.ensures,
      s.requires.1,
      s.requires.2,
    )

pub returns : goal.returns
returns c =
    let v = c in
    let w = v in
    let u = w in
    let s = u in
    finished_parts s.args.s s.requires.0 u.unfinished-u.ensures w.widen_numbers.ensures v.widen_numbers-2.ensures
    s.args.term_limit s.args.generator_limit c.finish_rows.ensures
