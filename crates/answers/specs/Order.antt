-- A call's refusal by its parts, in the order in which they are asked.
use Rattle.std.specs.Prelude.{◌≡◌, refl, List, ◌++◌, ℕ}
use Rattle.std.proofs.Common.{ap, ◌∙◌, arith}
use Rattle.std.proofs.Math.Option.{Option, none, some}
use Rattle.model.specs.Run.{Cause, first_of}
use Rattle.model.specs.Library.{Given, of_first, examine}
use Rattle.zonotope.specs.Answer.{or_else, first_append}

-- what is asked first of two parts that are asked before a third
pub or_else_assoc : (a b c : Option ℕ) → or_else a (or_else b c) ≡ or_else (or_else a b) c
or_else_assoc none b c = refl
or_else_assoc (some n) b c = refl

-- the first set, then the arguments, then the rest
pub in_order : (g : Given) (k l : List Cause) → first_of (of_first g ++ (k ++ l)) ≡ or_else (or_else (examine g) (first_of k)) (first_of l)
unfolding examine
in_order g k l =
    first_append (of_first g) (k ++ l) ∙ ap (or_else (first_of (of_first g))) (first_append k l)
    ∙ or_else_assoc (first_of (of_first g)) (first_of k) (first_of l)

-- what refuses nothing
pub neither : (a b : Option ℕ) → or_else a b ≡ none → (a ≡ none) × (b ≡ none)
neither none b e = (refl, e)
neither (some n) b e = let z : ◌≡◌ {A = ℕ} 0 1 = cc in absurd (omega arith)
