-- `flows::shift` meets its contract.
use Rattle.std.proofs.Common.{◌≡◌, ◌+◌, ◌-◌, take, drop, sym, ap, ◌∙◌, arith, length-drop}
use lib.Seq.{paste}
use Rattle.std.proofs.lemmas.List.{drop-take}
use Rattle.std.proofs.lemmas.List.Edits.{take-paste}
use Rattle.flows.proofs.shift.Goals as goal

pub returns : goal.returns
returns c =
    let buf = c.args.buf.now in
    let from = c.args.from in
    let n = c.args.to - from in
    let some : from + n ≡ c.args.to = omega (arith, c.requires.0) in
    let same : n ≡ 0 + n = omega arith in
    ap (take n) c.copy_within.ensures.after ∙ ap (λ k. take k (paste buf 0 (drop from buf) n)) same
    ∙ take-paste buf 0 (drop from buf) n (omega arith) (omega (arith, c.requires.0, c.requires.1, length-drop from buf))
    ∙ sym (drop-take from n buf) ∙ ap (λ k. drop from (take k buf)) some
