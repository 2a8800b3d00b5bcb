-- `blending::blend_numbers` meets its contract: the runs one after the other.
use mathlib.Core.Path.{ap, ◌∙◌}
use mathlib.Core.List.{List}
use Prim.Native.Nat.{◌+◌, ◌*◌}
use lib.IntN.{ℤ}
use Rattle.whole.specs.Write.{write}
use Rattle.hulling.specs.WideTerms.{half, turned_half}
use Rattle.hulling.specs.Blending.{times_at}
use Rattle.hulling.proofs.blending.blend_numbers.Goals as goal

pub returns : goal.returns
returns c =
    let fourth = c in
    let third = fourth in
    let second = third in
    let first = second in
    let s = first.args in
    fourth.put_halves-4.ensures
    ∙ ap (λ (w : List ℤ). write w ((s.own + s.rest + 1 + s.own) * 6) (times_at turned_half s.c.now s.own) (s.rest * 6))
    (third.put_halves-3.ensures
    ∙ ap (λ (w : List ℤ). write w ((s.own + s.rest + 1) * 6) (times_at half s.c.now 0) (s.own * 6))
    (second.put_halves-2.ensures
    ∙ ap (λ (w : List ℤ). write w (1 * 6) (times_at half s.c.now 0) ((s.own + s.rest) * 6)) first.put_halves.ensures))
