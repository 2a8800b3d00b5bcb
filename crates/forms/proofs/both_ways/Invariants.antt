-- `forms::both_ways` meets its contract: each row is written in turn.
use Prim.Native.Nat.{ℕ, ◌*◌, ◌/◌, ◌%◌}
use Rattle.std.specs.Prelude.{◌+ℤ◌}
use Rattle.forms.specs.Tables.{form_of}
use Rattle.forms.specs.Filling.{Writing}
use Rattle.forms.proofs.both_ways.Given as goal

abbrev pub invariant-loop-x : goal.invariant-loop-x
invariant-loop-x l = Writing l.initial.out 0 (λ (y : ℕ). form_of l.q (y / 36) (y / 6 % 6) (y % 6) +ℤ form_of l.q (y / 36) (y % 6) (y / 6 % 6)) 216 (l.x * 6) l.out
