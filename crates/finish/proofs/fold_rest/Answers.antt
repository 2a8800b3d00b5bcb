-- `finish::fold_rest` meets its contract, by what its three folds leave.
use native.Mathlib.Omega.{arith}
use Rattle.fold.specs.Folding.{small_mono, under_mono}
use Rattle.finish.specs.Reduce.{centre-after, folded_after, rest_holds}
use Rattle.finish.proofs.fold_rest.Goals as goal

pub fold_high-low-requires : goal.fold_high-low-requires
fold_high-low-requires c =
    let s = c in
    (s.requires.0, small_mono s.requires.1.centre_small (omega arith), under_mono s.requires.1.folded_small (omega arith))

pub fold_terms-few-requires : goal.fold_terms-few-requires
fold_terms-few-requires c =
    let a = c in
    let s = a in
    let v = a.fold_high-low.ensures.passed in (
      v.ready,
      s.requires.1.weights_small,
      small_mono (centre-after 860 v.bounded s.requires.0.few s.requires.1.centre_small) (omega arith),
      under_mono (folded_after 860 v.bounded s.requires.0.few s.requires.1.folded_small) (omega arith),
    )

pub fold_generators-kept-requires : goal.fold_generators-kept-requires
fold_generators-kept-requires c =
    let b = c in
    let a = b in
    let s = a in
    let v = a.fold_high-low.ensures.passed in
    let w = b.fold_terms-few.ensures.passed.0 in
    let few = s.requires.1.generators_few in (
      omega (arith, few),
      s.requires.1.generators_long,
      s.requires.1.generators_small,
      s.requires.1.weights_small,
      small_mono (centre-after 860 w.bounded v.ready.few
          (centre-after 860 v.bounded s.requires.0.few s.requires.1.centre_small)) (omega arith),
      under_mono (folded_after 860 w.bounded v.ready.few (folded_after 860 v.bounded s.requires.0.few s.requires.1.folded_small))
          (omega arith),
    )

pub returns : goal.returns
returns c =
    let d = c in
    let b = d in
    let a = b in
    let s = a in
    let v = a.fold_high-low.ensures.passed in
    let w = b.fold_terms-few.ensures.passed in
    let x = d.fold_generators-kept.ensures.generators_passed in
    let terms_few = w.1 in
    let generators_few = x.1 in
    rest_holds s.args.u s.args.heads.now s.args.s.now s.args.g.now s.args.limits.weights s.args.limits.terms
    s.args.limits.generators
    v w.0 x.0
    s.requires.0.few (omega (arith, terms_few, s.requires.1.term-limit)) s.requires.1.generators_few
    (omega (arith, generators_few, s.requires.1.generator-limit)) s.requires.1.generators_long
    d.fold_generators-kept.auto.g s.requires.1.centre_small s.requires.1.folded_small
