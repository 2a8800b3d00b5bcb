-- `along::dot` meets its contract: the sum so far is that of the products passed, each at most 2^46.
use Rattle.std.proofs.Common.{rules, ◌≡◌, refl, ℕ, ℤ, ◌+◌, ◌*◌, ◌≤◌, ◌<◌, length, sym, ◌∙◌, ap, ap₂, subst, arith, nat_abs, pos, ◌+ℤ◌, to_z, of_z, w32, w64, to_z-of_z}
use mir.Val.{SFits}
use lib.IntN.{◌*ℤ◌}
use Rattle.std.specs.List.{between}
use Rattle.std.proofs.lemmas.List.Edits.{length-between, get_or-between}
use Rattle.std.proofs.lemmas.Slice.Zip.{zip_turn, zip_end}
use Rattle.std.proofs.lemmas.List.{length_push}
use Rattle.whole.specs.Size.{abs_add, abs_mul}
use Rattle.whole.specs.Fits.{got64, abs_fits, fits_abs}
use Rattle.whole.specs.Sum.{upto_by, upto_suc}
use Rattle.model.specs.Set.{at}
use Rattle.verdicts.specs.Along.{row_dot, product-size, grown}
use Rattle.verdicts.proofs.along.dot.Goals as goal
use Rattle.verdicts.proofs.along.dot.Goals.{After-from-in-loop-x}

-- what the loop's turn multiplies and adds, as the code holds it
module _ (s : After-from-in-loop-x) where
  abbrev j : ℕ
  j = length s.loop-x.yielded

  abbrev first : ℕ
  first = s.args.t * 6

  abbrev x : ℤ
  x = at s.args.a.now j

  abbrev y : ℤ
  y = at s.args.xs.now (first + j)

  abbrev so_far : ℤ
  so_far = row_dot s.args.a.now s.args.xs.now s.args.t j

  turn : (j < s.args.n) × (s.in-Some.x.now ≡ x) × (s.in-Some.y.now ≡ y)
  turn =
      let t = zip_turn s.args.a.now (between first (first + s.args.n) s.args.xs.now) s.loop-x.yielded s.into_iter-x-iterator.result
      s.loop-x.x-iterator s.next.new.self s.next.result (cc) (cc) s.loop-x.yielded_by (s.in-Some.x, s.in-Some.y) s.in-Some.is s.next.ensures.steps in
      let l : j < s.args.n = omega (arith, t.1, length-between s.args.xs.now first (first + s.args.n) (omega arith)) in
      (l, t.2 (pos 0), t.3 (pos 0) ∙ get_or-between s.args.xs.now first (first + s.args.n) j (pos 0) (omega arith))

  x_is : to_z w64 (of_z w64 s.from.result) ≡ x
  x_is = got64 (s.from.ensures ∙ to_z-of_z {w = w32} (fits_abs (rw turn.1 (omega (arith, s.requires.0.within j)))) ∙ turn.1) s.from.type_inv

  y_fits : SFits w32 y
  y_fits = let fits : SFits w32 s.in-Some.y.now = search rules in subst (SFits w32) turn.2 fits

  y_is : to_z w64 (of_z w64 s.from-in-loop-x.result) ≡ y
  y_is = got64 (s.from-in-loop-x.ensures ∙ to_z-of_z {w = w32} (subst (SFits w32) (sym turn.2) y_fits) ∙ turn.2) s.from-in-loop-x.type_inv

  sum_is : to_z w64 s.loop-x.sum-bits ≡ so_far
  sum_is = s.loop-x.invariant.0

  product : nat_abs x * nat_abs y ≤ 70368744177664
  product = product-size x y (s.requires.0.within j) (abs_fits {w = w32} {z = y} y_fits)

  product_fits : SFits w64 (x *ℤ y)
  product_fits = fits_abs (rw (abs_mul x y) (omega (arith, product)))

  product_is : to_z w64 (of_z w64 (to_z w64 (of_z w64 s.from.result) *ℤ to_z w64 (of_z w64 s.from-in-loop-x.result))) ≡ x *ℤ y
  product_is = ap (λ z. to_z w64 (of_z w64 z)) (ap₂ ◌*ℤ◌ x_is y_is) ∙ to_z-of_z product_fits

  sum_fits : SFits w64 (so_far +ℤ x *ℤ y)
  sum_fits = fits_abs (omega (arith, abs_add so_far (x *ℤ y), abs_mul x y, product, turn.0, s.loop-x.invariant.1))

pub loop-x-init : goal.loop-x-init
unfolding upto_by
loop-x-init c = (refl, omega arith)

pub overflow_add-sum : goal.overflow_add-sum
overflow_add-sum c =
    let s = (goal.at.overflow_add-sum c).After-from-in-loop-x in
    subst (SFits w64) (sym (ap₂ ◌+ℤ◌ (sum_is s) (product_is s))) (sum_fits s)

pub loop-x-preserved : goal.loop-x-preserved
loop-x-preserved c =
    let s = (goal.at.loop-x-preserved c).After-from-in-loop-x in
    rw (length_push c.loop-x.yielded (c.in-Some.x, c.in-Some.y)) (
      ap (λ z. to_z w64 (of_z w64 z)) (ap₂ ◌+ℤ◌ (sum_is s) (product_is s)) ∙ to_z-of_z (sum_fits s) ∙ sym (upto_suc (pos 0) ◌+ℤ◌ _ _),
      grown _ _ _ c.loop-x.invariant.1 (rw (abs_mul (x s) (y s)) (product s)),
    )

pub returns : goal.returns
returns c =
    let a = c.args in
    let from = a.t * 6 in
    let t = zip_end a.a.now (between from (from + a.n) a.xs.now) c.loop-x.yielded c.into_iter-x-iterator.result
    c.loop-x.x-iterator c.next.new.self c.next.result (cc) (cc) c.loop-x.yielded_by c.in-None.is c.next.ensures.steps in
    let e : length c.loop-x.yielded ≡ a.n = omega (arith, t, length-between a.xs.now from (from + a.n) (omega arith)) in
    let is = c.loop-x.invariant.0 in
    (is ∙ ap (row_dot a.a.now a.xs.now a.t) e, rw is (omega (arith, e, c.loop-x.invariant.1)))
