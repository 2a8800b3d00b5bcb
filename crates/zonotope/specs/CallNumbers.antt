-- Which numbers the calls on records refuse with: each is that of its cause. A refused call answers the cause of the number that its list of
-- causes gives, so this says that `cause.number()` is that number. The theorem is `call_numbers`, in proofs/CallNumbers.antt.
use Rattle.std.specs.Prelude.{◌≡◌, List, Bool, ℕ, ℤ}
use Rattle.std.proofs.Math.Option.{Option, some}
use Rattle.model.specs.Step.{Step}
use Rattle.model.specs.Ranged.{Widths}
use Rattle.model.specs.Library.{Given, examine, check_refusal, disturb_refusal, reduce_refusal, tied_refusal, independent_refusal}
use Rattle.model.specs.Library.{hull_refusal, step_refusal, ranged_refusal}
use Rattle.zonotope.specs.Answer.{Numbered}

-- the number of a refusal, where there is one, is that of its cause
abbrev pub HasCause : Option ℕ → Type 0
HasCause o = (n : ℕ) → o ≡ some n → Numbered n

-- of each call
pub record CallNumbers : Type 0 where
  pub examining : (g : Given) → HasCause (examine g)
  pub checking : (n count : ℕ) (normals bounds : List ℤ) (g : Given) → HasCause (check_refusal n count normals bounds g)
  pub disturbing : (n : ℕ) (radii : List ℕ) (g : Given) → HasCause (disturb_refusal n radii g)
  pub reducing : (terms generators : ℕ) (g : Given) → HasCause (reduce_refusal terms generators g)
  pub tied : (g h : Given) → HasCause (tied_refusal g h)
  pub independent : (next : ℕ) (g h : Given) → HasCause (independent_refusal next g h)
  pub hulling : (next : ℕ) (g h : Given) → HasCause (hull_refusal next g h)
  pub stepping : (short : Bool) (p : Step) (g : Given) → HasCause (step_refusal short p g)
  pub ranged : (short : Bool) (p : Step) (d : Widths) (g : Given) → HasCause (ranged_refusal short p d g)
