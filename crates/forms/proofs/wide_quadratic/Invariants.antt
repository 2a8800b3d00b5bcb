-- `forms::wide_quadratic` meets its contract: each row is written in turn.
use Prim.Native.Nat.{ℕ, ◌*◌, ◌/◌, ◌%◌}
use Rattle.forms.specs.Wide.{form_entry}
use Rattle.forms.specs.Filling.{Writing}
use Rattle.forms.proofs.wide_quadratic.Given as goal

abbrev pub invariant-loop-x : goal.invariant-loop-x
invariant-loop-x l = Writing l.initial.out 0 (λ (y : ℕ). form_entry l.q l.n (y / 36) (y / 6 % 6) (y % 6)) 216 (l.x * 6) l.out
