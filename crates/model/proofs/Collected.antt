-- Collected terms rise strictly, and a property of terms that adding keeps is kept.
use mathlib.Core.Path.{◌≡◌, refl}
use mathlib.Core.List.{List, [], ◌∷◌}
use Rattle.rational.specs.Sum.{All, none, more}
use Rattle.rational.proofs.Sum.{All-imp}
use Rattle.model.specs.Set.{Term}
use Rattle.model.specs.Valid.{Order, less, equal, greater, order}
use Rattle.model.specs.Finish.{by_order, plus_term, insert, collect_into, collect}
use Rattle.model.proofs.Order.{order_trans, greater_less}
use Rattle.model.proofs.Lists.{Rising, nothing, first}
use Rattle.model.proofs.Shape.{Before}

module _ {P : Term → Type 0} (adds : (u t : Term) → P u → P t → P (plus_term u t)) where
  insert_all : {t : Term} {l : List Term} → P t → All P l → All P (insert t l)
  unfolding insert
  insert_all h none = more h none
  insert_all {t} h (more {a = u} {l = l} k r) = go (order t.exponents u.exponents) (insert_all h r) where
    go : (o : Order) → All P (insert t l) → All P (by_order o (t ∷ (u ∷ l)) (plus_term u t ∷ l) (u ∷ insert t l))
    go less ih = more h (more k r)
    go equal ih = more (adds u t k h) r
    go greater ih = more k ih

  into_all : {acc ts : List Term} → All P acc → All P ts → All P (collect_into acc ts)
  unfolding collect_into
  into_all a none = a
  into_all {acc = acc} a (more {a = u} h t) = into_all {acc = insert u acc} (insert_all h a) t

  pub collect-all : {ts : List Term} → All P ts → All P (collect ts)
  collect-all h = into_all none h

insert_rising : (t : Term) {l : List Term} → Rising Before l → Rising Before (insert t l)
unfolding insert
insert_rising t nothing = first none nothing
insert_rising t (first {a = u} {l = l} h r) = go (order t.exponents u.exponents) refl (insert_rising t r) where
  go : (o : Order) → order t.exponents u.exponents ≡ o → Rising Before (insert t l)
      → Rising Before (by_order o (t ∷ (u ∷ l)) (plus_term u t ∷ l) (u ∷ insert t l))
  go less e ih = first (more e (All-imp (λ v p. order_trans t.exponents u.exponents v.exponents e p) h)) (first h r)
  go equal e ih = first h r
  go greater e ih = first (insert_all (λ v w p q. p) (greater_less t.exponents u.exponents e) h) ih

into_rising : {acc : List Term} (ts : List Term) → Rising Before acc → Rising Before (collect_into acc ts)
unfolding collect_into
into_rising [] r = r
into_rising {acc = acc} (t ∷ ts) r = into_rising {acc = insert t acc} ts (insert_rising t r)

pub collect_rising : (ts : List Term) → Rising Before (collect ts)
collect_rising ts = into_rising ts nothing
