-- `reduction::widen_numbers` meets its contract.
use Rattle.std.proofs.Common.{arith, rules}
use mathlib.Core.Path.{◌≡◌, refl, sym, ap, ◌∙◌}
use lib.ListN.{length, get_or}
use lib.IntN.{pos}
use Rattle.whole.specs.Fits.{got64, read32}
use Rattle.whole.specs.Tab.{tab_get_d}
use Rattle.whole.specs.Write.{write, write_none, write-next, write-all}
use Rattle.summing.proofs.reduction.widen_numbers.Goals as goal

pub loop-i-init : goal.loop-i-init
loop-i-init c = sym (write_none _ _ _)

pub loop-i-preserved : goal.loop-i-preserved
loop-i-preserved c =
    let at = c in
    let x = get_or at.args.numbers.now at.loop-i.i (pos 0) in
    write-next _ _ at.loop-i.out at.loop-i.i _ at.loop-i.invariant (got64 c.from.ensures c.from.type_inv ∙ read32 x (search rules))

pub returns : goal.returns
returns c =
    let at = c in
    let xs = at.args.numbers.now in
    let e : at.loop-i.i ≡ length xs = omega arith in
    at.loop-i.invariant ∙ ap (write _ _ _) e ∙ write-all _ _ (pos 0) (length xs) (sym at.requires) ∙ tab_get_d (length xs) xs (pos 0) refl
