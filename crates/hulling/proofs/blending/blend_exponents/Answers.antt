-- `blending::blend_exponents` meets its contract: the runs one after the other.
use mathlib.Core.Path.{ap, ◌∙◌}
use mathlib.Core.List.{List}
use Prim.Native.Nat.{ℕ, ◌+◌, ◌*◌}
use Rattle.whole.specs.Write.{write}
use Rattle.hulling.specs.Blending.{power_at}
use Rattle.hulling.proofs.blending.blend_exponents.Goals as goal

pub returns : goal.returns
returns c =
    let third = c in
    let second = third in
    let first = second in
    let s = first.args in
    let r = s.rows * 12 in
    third.put_exponents-3.ensures
    ∙ ap (λ (f : List ℕ). write f ((s.rows + 1) * 12) (power_at s.e.now s.n 1) r)
    (second.put_exponents-2.ensures
    ∙ ap (λ (f : List ℕ). write f (1 * 12) (power_at s.e.now s.n 0) r) first.put_exponents.ensures)
