-- The number that refuses a field by its body.
use Rattle.std.specs.Prelude.{List, ℕ, length}
use Rattle.std.proofs.Math.Option.{Option}
use Rattle.model.specs.Set.{Zonotope}
use Rattle.model.specs.Field.{Kind, meaning}
use Rattle.model.specs.Run.{first_of, of_body}

-- of a field of this kind with the body b, given the current set and the next identifier
abbrev pub body_refusal : Kind → List ℕ → ℕ → Zonotope → Option ℕ
body_refusal k b next s = first_of (of_body (meaning k b next s) (length b))

-- the set that it leaves where nothing refuses it
abbrev pub result_of : Kind → List ℕ → ℕ → Zonotope → Zonotope
result_of k b next s = (meaning k b next s).result
