-- `worked_out` meets its contract.
use native.Mathlib.Omega.{arith}
use lib.IntN.{pos}
use Rattle.stepping.specs.Work.{work_numbers, work_exponents}
use Rattle.step.specs.Left.{written-cleared}
use Rattle.step.proofs.worked_out.Goals as goal

pub returns : goal.returns
returns c =
    let n = c in
    let f = n in
    let s = f in
    let image = f.image_finished-finished.ensures in
    let kept = f.image_finished-finished.auto in (
      image.value,
      (
        written-cleared (pos 0) work_numbers s.args.w.now image.numbers (omega (arith, kept)) n.clear_numbers.ensures,
        written-cleared 0 work_exponents s.args.e.now image.exponents (omega (arith, kept))
            c.clear_exponents.ensures,
      ),
    )
