-- What a field answers where no cause holds, by its kind.
use mathlib.Core.Path.{◌≡◌, sym, ◌∙◌}
use mathlib.Core.List.{List}
use Prim.Native.Nat.{ℕ}
use native.Mathlib.Omega.{arith}
use Rattle.model.specs.Set.{Zonotope}
use Rattle.model.specs.Operations.{Box, box}
use Rattle.model.specs.Field.{Kind, inside, meaning}
pub use Rattle.model.proofs.Laws.{Answers, with-box, with_verdict, with_nothing}
use Rattle.model.proofs.Kind.{laws}

pub answers : (k : Kind) (b : List ℕ) (next : ℕ) (s : Zonotope) → Answers k (meaning k b next s)
answers k = (laws k).answers

-- a box that is answered is the result's
pub answered-box : (k : Kind) (b : List ℕ) (next : ℕ) (s : Zonotope) (x : Box) → (meaning k b next s).outcome ≡ inside x
    → box (meaning k b next s).result ≡ x
answered-box k b next s x e = go (answers k b next s)
  where
    go : Answers k (meaning k b next s) → box (meaning k b next s).result ≡ x
    go (with-box q) = cc (sym q ∙ e)
    go (with_verdict v q) = let z : ◌≡◌ {A = ℕ} 0 1 = cc (sym q ∙ e) in absurd (omega arith)
    go (with_nothing u q) = let z : ◌≡◌ {A = ℕ} 0 1 = cc (sym q ∙ e) in absurd (omega arith)
