-- `along::radii_reach` meets its contract: the sum so far is that of the products passed, each less than 2^49.
use Rattle.std.proofs.Common.{◌≡◌, refl, ℕ, ℤ, ◌+◌, ◌*◌, ◌≤◌, ◌<◌, length, get_or, take, sym, ◌∙◌, ap, ap₂, arith, nat_abs, pos, w32, to_z-of_z, get_or-take}
use Rattle.std.proofs.lemmas.List.{length_push, length-take-le}
use Rattle.std.proofs.lemmas.Slice.Zip.{zip_turn, zip_end}
use Rattle.whole.specs.Fits.{fits_abs}
use Rattle.whole.specs.Sum.{upto_by, upto_suc}
use Rattle.model.specs.Set.{at}
use Rattle.verdicts.specs.Along.{radius_sum, reach_size}
use Rattle.verdicts.proofs.along.radii_reach.Goals as goal
use Rattle.verdicts.proofs.along.radii_reach.Goals.{After-from}

-- what the loop's turn multiplies
module _ (s : After-from) where
  abbrev j : ℕ
  j = length s.loop-x.yielded

  abbrev x : ℤ
  x = at s.args.a.now j

  turn : (j < s.args.n) × (s.in-Some.x.now ≡ x) × (s.in-Some.radius.now ≡ get_or s.args.radii.now j 0)
  turn =
      let n = s.args.n in
      let t = zip_turn s.args.a.now (take n s.args.radii.now) s.loop-x.yielded s.into_iter-x-iterator.result
      s.loop-x.x-iterator s.next.new.self s.next.result (cc) (cc) s.loop-x.yielded_by (s.in-Some.x, s.in-Some.radius) s.in-Some.is s.next.ensures.steps in
      let six : length s.args.radii.now ≡ 6 = s.told-radii in
      let l : j < n = omega (arith, t.1, length-take-le n s.args.radii.now (omega (arith, six))) in
      (l, t.2 (pos 0), t.3 0 ∙ get_or-take n s.args.radii.now j 0 l)

  x_is : s.from.result ≡ nat_abs x
  x_is =
      s.from.ensures ∙ s.unsigned_abs.ensures.value
      ∙ ap nat_abs (to_z-of_z {w = w32} (fits_abs (rw turn.1 (omega (arith, s.requires.0.within j)))) ∙ turn.1)

  product : s.from.result * s.in-Some.radius.now ≤ 562949953290240
  product = reach_size _ _ (omega (arith, x_is, s.requires.0.within j)) (omega (arith, turn.2, s.requires.3 j))

pub loop-x-init : goal.loop-x-init
unfolding upto_by
loop-x-init c = (refl, omega arith)

pub overflow_mul-sum : goal.overflow_mul-sum
overflow_mul-sum c = omega (arith, product (goal.at.overflow_mul-sum c).After-from)

pub overflow_add-sum : goal.overflow_add-sum
overflow_add-sum c =
    let s = (goal.at.overflow_add-sum c).After-from in
    omega (arith, product s, (turn s).0, c.loop-x.invariant.1)

pub loop-x-preserved : goal.loop-x-preserved
loop-x-preserved c =
    let s = (goal.at.loop-x-preserved c).After-from in
    rw (length_push c.loop-x.yielded (c.in-Some.x, c.in-Some.radius)) (
      ap₂ ◌+◌ c.loop-x.invariant.0 (ap₂ ◌*◌ (x_is s) (turn s).2) ∙ sym (upto_suc 0 ◌+◌ _ _),
      omega (arith, product s, c.loop-x.invariant.1),
    )

pub returns : goal.returns
returns c =
    let a = c.args in
    let t = zip_end a.a.now (take a.n a.radii.now) c.loop-x.yielded c.into_iter-x-iterator.result
    c.loop-x.x-iterator c.next.new.self c.next.result (cc) (cc) c.loop-x.yielded_by c.in-None.is c.next.ensures.steps in
    let six : length a.radii.now ≡ 6 = c.told-radii in
    let e : length c.loop-x.yielded ≡ a.n = omega (arith, t, length-take-le a.n a.radii.now (omega (arith, six))) in
    (c.loop-x.invariant.0 ∙ ap (radius_sum a.a.now a.radii.now) e, omega (arith, e, c.loop-x.invariant.1))
