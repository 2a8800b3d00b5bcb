-- The union of two lists of identifiers rises where the second does, and has no other identifiers.
use mathlib.Core.List.{List, [], ◌∷◌}
use Prim.Native.Nat.{ℕ, ◌<◌}
use native.Mathlib.Omega.{arith}
use Rattle.rational.specs.Sum.{All, none, more}
use Rattle.rational.proofs.Sum.{All-imp}
use Rattle.model.specs.Operations.{insert_identifier, union}
use Rattle.model.proofs.Lists.{Rising, nothing, first}
use Rattle.model.proofs.Aligned.{by_place}

module _ {P : ℕ → Type 0} where
  insert_all : (k : ℕ) {ms : List ℕ} → P k → All P ms → All P (insert_identifier k ms)
  unfolding insert_identifier
  insert_all k h none = more h none
  insert_all k h (more {a = m} {l = ms} p t) =
      by_place (All P) k m ms (λ _. more h (more p t)) (λ _. more p (insert_all k h t)) (λ _. more p t)

  pub union-all : {ks ms : List ℕ} → All P ks → All P ms → All P (union ks ms)
  unfolding union
  union-all none t = t
  union-all (more {a = k} h r) t = insert_all k h (union-all r t)

insert_rising : (k : ℕ) {ms : List ℕ} → Rising ◌<◌ ms → Rising ◌<◌ (insert_identifier k ms)
unfolding insert_identifier
insert_rising k nothing = first none nothing
insert_rising k (first {a = m} {l = ms} h r) =
    by_place (Rising ◌<◌) k m ms (λ l. first (more l (All-imp (λ n p. before l p) h)) (first h r))
    (λ g. first (insert_all k g h) (insert_rising k r)) (λ _. first h r)
  where
    before : {i j n : ℕ} → i < j → j < n → i < n
    before p q = omega arith

-- the union rises
pub union_rising : (ks : List ℕ) {ms : List ℕ} → Rising ◌<◌ ms → Rising ◌<◌ (union ks ms)
unfolding union
union_rising [] r = r
union_rising (k ∷ ks) r = insert_rising k (union_rising ks r)
