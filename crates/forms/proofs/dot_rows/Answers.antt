-- `forms::dot_rows` meets its contract: six products of 21-bit and 39-bit numbers.
use Rattle.std.proofs.Common.{rules, ◌≡◌, ℕ, ◌+◌, ◌*◌, ◌≤◌, ◌<◌, length, sym, ◌∙◌, ap, arith, nat_abs, pos, to_z, of_z, w32, w64, to_z-of_z, ◌++◌, ◌∷◌, []}
use Rattle.std.specs.List.{between}
use Rattle.std.proofs.lemmas.List.Edits.{length-between, get_or-between}
use Rattle.std.proofs.lemmas.Slice.Zip.{zip_turn, zip_end}
use Rattle.std.proofs.lemmas.List.{length_push}
use Rattle.whole.specs.Fits.{fits_abs, got64}
use Rattle.model.specs.Step.{dot}
use Rattle.forms.specs.Dot.{Vector, dot_none}
use Rattle.forms.specs.Tables.{row_of}
use Rattle.forms.specs.Products.{sum_fits, sum_goes_on}
use Rattle.forms.proofs.dot_rows.Goals as goal
use Rattle.forms.proofs.dot_rows.Goals.{After-from}

module _ (c : After-from) where
  abbrev j : ℕ
  j = length c.loop-x.yielded

  abbrev p : Vector
  p = row_of c.args.u.now c.args.s

  abbrev u : Vector
  u = row_of c.args.v.now c.args.t

  p_small : (y : ℕ) → nat_abs (p y) ≤ 1048576
  p_small y = c.requires.4.small (c.args.s * 6 + y)

  u_small : (y : ℕ) → nat_abs (u y) ≤ 412451078144
  u_small y = c.requires.5.small (c.args.t * 6 + y)

  -- the two numbers that this turn takes
  turn : (j < 6) × (c.in-Some.x.now ≡ p j) × (c.in-Some.y.now ≡ u j)
  turn =
      let t = zip_turn (between (c.args.s * 6) (c.args.s * 6 + 6) c.args.u.now) (between (c.args.t * 6) (c.args.t * 6 + 6) c.args.v.now)
      c.loop-x.yielded c.into_iter-x-iterator.result c.loop-x.x-iterator c.next.new.self c.next.result (cc) (cc) c.loop-x.yielded_by (c.in-Some.x, c.in-Some.y) c.in-Some.is c.next.ensures.steps in
      let l : j < 6 = omega (arith, t.0, length-between c.args.u.now (c.args.s * 6) (c.args.s * 6 + 6) c.requires.2) in (
        l,
        t.2 (pos 0) ∙ get_or-between c.args.u.now (c.args.s * 6) (c.args.s * 6 + 6) j (pos 0) (omega arith),
        t.3 (pos 0) ∙ get_or-between c.args.v.now (c.args.t * 6) (c.args.t * 6 + 6) j (pos 0) (omega arith),
      )

  x_is : to_z w64 (of_z w64 c.from.result) ≡ p j
  x_is = got64 (c.from.ensures ∙ to_z-of_z {w = w32} (fits_abs (rw turn.1 (omega (arith, p_small j)))) ∙ turn.1) c.from.type_inv

  y_is : to_z w64 (of_z w64 c.in-Some.y.now) ≡ u j
  y_is = to_z-of_z {w = w64} (fits_abs (rw turn.2 (omega (arith, u_small j)))) ∙ turn.2

pub loop-x-init : goal.loop-x-init
loop-x-init c = (search rules, sym (dot_none _ _))

pub multiply_add-sum-requires : goal.multiply_add-sum-requires
multiply_add-sum-requires c =
    let s = (goal.at.multiply_add-sum-requires c).After-from in
    sum_fits (p s) (u s) 1048576 412451078144 (p_small s) (u_small s) tt (j s) (turn s).0 c.loop-x.invariant.1 (x_is s) (y_is s)

pub loop-x-preserved : goal.loop-x-preserved
loop-x-preserved c =
    let s = (goal.at.loop-x-preserved c).After-from in
    let e : length (c.loop-x.yielded ++ (c.in-Some.x, c.in-Some.y) ∷ []) ≡ j s + 1 = length_push c.loop-x.yielded (c.in-Some.x, c.in-Some.y) in
    rw e (
      omega (arith, (turn s).0),
      sum_goes_on (p s) (u s) 1048576 412451078144 (p_small s) (u_small s) tt (j s) (turn s).0 c.loop-x.invariant.1 (x_is s) (y_is s)
          c.multiply_add-sum.ensures,
    )

pub returns : goal.returns
returns c =
    let t = zip_end (between (c.args.s * 6) (c.args.s * 6 + 6) c.args.u.now) (between (c.args.t * 6) (c.args.t * 6 + 6) c.args.v.now)
    c.loop-x.yielded c.into_iter-x-iterator.result c.loop-x.x-iterator c.next.new.self c.next.result (cc) (cc) c.loop-x.yielded_by c.in-None.is c.next.ensures.steps in
    let e : length c.loop-x.yielded ≡ 6 = omega (arith, length-between c.args.u.now (c.args.s * 6) (c.args.s * 6 + 6) c.requires.2, length-between c.args.v.now (c.args.t * 6) (c.args.t * 6 + 6) c.requires.3) in
    c.loop-x.invariant.1 ∙ ap (λ (m : ℕ). dot m (row_of c.args.u.now c.args.s) (row_of c.args.v.now c.args.t)) e
