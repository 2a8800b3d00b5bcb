-- `finish::reduce` meets its contract, by its parts.
use native.Mathlib.Omega.{arith}
use Rattle.fold.specs.Folding.{core_of, small_mono}
use Rattle.finish.specs.Reduce.{reduced-from, holds_as}
use Rattle.finish.proofs.reduce.Goals as goal

pub fold_rest-requires : goal.fold_rest-requires
fold_rest-requires c =
    let b = c in
    let a = b in
    let s = a in
    let z = b.drop_zero_rows-m.ensures.upper_bound in
    let few = s.requires.generators_few in
    let long = s.requires.generators_long in (
      a.gather-n.ensures.ready,
      record {
        generators_few = omega (arith, z.0, few);
        generators_long = omega (arith, z.0, long, b.drop_zero_rows-m.auto.s);
        generators_small = z.2 _ (small_mono s.requires.generators_small (omega arith));
        centre_small = s.requires.centre_small;
        folded_small = s.requires.radii_small.folded;
        weights_small = s.requires.weights_small;
        term-limit = s.requires.term-limit;
        generator-limit = s.requires.generator-limit;
      },
    )

pub returns : goal.returns
returns c =
    let d = c in
    let b = d in
    let a = b in
    let s = a in
    let g = s.args in
    holds_as d.fold_rest.ensures
    (reduced-from g.u (core_of g.u.centre g.u.radii.folded) _ _ g.limits.weights g.limits.generators g.limits.terms
    a.gather-n.ensures.is b.drop_zero_rows-m.ensures.upper_bound.1)
