-- `fold::row_size` meets its contract: the sum grows at its end.
use Rattle.std.proofs.Common.{◌≡◌, ℕ, ◌+◌, ◌*◌, ◌^◌, ◌≤◌, sym, ap, ap₂, ◌∙◌, length, get_or, pos, nat_abs, arith, rules}
use Rattle.std.proofs.lemmas.List.{length_push}
use Rattle.std.proofs.lemmas.Slice.Zip.{zip_turn, zip_end}
use Rattle.whole.specs.Sum.{upto_by, upto_ℕ, upto_suc}
use Rattle.fold.specs.Row.{weighed, size-six, held_size}
use Rattle.fold.proofs.row_size.Goals as goal

pub loop-weight-init : goal.loop-weight-init
unfolding upto_by
loop-weight-init c = (search rules, search rules)

pub overflow_mul-sum : goal.overflow_mul-sum
overflow_mul-sum c =
    let ws = c.args.weights.now in
    let row = c.args.row.now in
    let k = length c.loop-weight.yielded in
    let t = zip_turn ws row c.loop-weight.yielded c.into_iter-weight-iterator.result _ c.next.new.self _ (cc) (cc) c.loop-weight.yielded_by _ c.in-Some.is c.next.ensures.steps in
    let w : c.in-Some.weight.now ≡ get_or ws k 0 = t.2 0 in
    let q : nat_abs (get_or row k (pos 0)) ≤ 2 ^ 50 = c.requires.1.small k in
    let m : c.unsigned_abs.result ≡ nat_abs (get_or row k (pos 0)) =
    c.unsigned_abs.ensures.value ∙ held_size (t.3 (pos 0)) (omega arith) in
    let small = weighed c.in-Some.weight.now c.unsigned_abs.result (omega (arith, w, c.requires.2.under k)) (omega arith) in
    record { fits = omega arith }

pub overflow_add-sum : goal.overflow_add-sum
overflow_add-sum c =
    let ws = c.args.weights.now in
    let row = c.args.row.now in
    let k = length c.loop-weight.yielded in
    let t = zip_turn ws row c.loop-weight.yielded c.into_iter-weight-iterator.result _ c.next.new.self _ (cc) (cc) c.loop-weight.yielded_by _ c.in-Some.is c.next.ensures.steps in
    let w : c.in-Some.weight.now ≡ get_or ws k 0 = t.2 0 in
    let q : nat_abs (get_or row k (pos 0)) ≤ 2 ^ 50 = c.requires.1.small k in
    let m : c.unsigned_abs.result ≡ nat_abs (get_or row k (pos 0)) =
    c.unsigned_abs.ensures.value ∙ held_size (t.3 (pos 0)) (omega arith) in
    let small = weighed c.in-Some.weight.now c.unsigned_abs.result (omega (arith, w, c.requires.2.under k)) (omega arith) in
    let few = c.loop-weight.invariant.1 in
    let more = t.1 in
    let six = c.requires.0 in
    record { fits = omega arith }

pub loop-weight-preserved : goal.loop-weight-preserved
loop-weight-preserved c =
    let ws = c.args.weights.now in
    let row = c.args.row.now in
    let k = length c.loop-weight.yielded in
    let t = zip_turn ws row c.loop-weight.yielded c.into_iter-weight-iterator.result _ c.next.new.self _ (cc) (cc) c.loop-weight.yielded_by _ c.in-Some.is c.next.ensures.steps in
    let w : c.in-Some.weight.now ≡ get_or ws k 0 = t.2 0 in
    let q : nat_abs (get_or row k (pos 0)) ≤ 2 ^ 50 = c.requires.1.small k in
    let m : c.unsigned_abs.result ≡ nat_abs (get_or row k (pos 0)) =
    c.unsigned_abs.ensures.value ∙ held_size (t.3 (pos 0)) (omega arith) in
    let small = weighed c.in-Some.weight.now c.unsigned_abs.result (omega (arith, w, c.requires.2.under k)) (omega arith) in
    let f : ℕ → ℕ = λ i. get_or ws i 0 * nat_abs (get_or row i (pos 0)) in
    let long = length_push c.loop-weight.yielded (c.in-Some.weight, c.in-Some.g) in
    let few = c.loop-weight.invariant.1 in (
      ap₂ ◌+◌ c.loop-weight.invariant.0 (ap₂ ◌*◌ w m) ∙ sym (upto_suc 0 ◌+◌ f k) ∙ ap (upto_ℕ f) (sym long),
      omega arith,
    )

pub returns : goal.returns
returns c =
    let ws = c.args.weights.now in
    let row = c.args.row.now in
    let t = zip_end ws row c.loop-weight.yielded c.into_iter-weight-iterator.result _ c.next.new.self _ (cc) (cc) c.loop-weight.yielded_by c.in-None.is c.next.ensures.steps in
    let six : length ws ≡ 6 = c.told-weights in
    let e : length c.loop-weight.yielded ≡ 6 = omega (arith, t, six, c.requires.0) in
    let f : ℕ → ℕ = λ i. get_or ws i 0 * nat_abs (get_or row i (pos 0)) in (
      c.loop-weight.invariant.0 ∙ ap (upto_ℕ f) e ∙ sym (size-six ws row six c.requires.0),
      omega (arith, e, c.loop-weight.invariant.1),
    )
