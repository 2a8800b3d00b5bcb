-- `finish::finish` meets its contract, by the set that is left in rows.
use mathlib.Core.Path.{sym, ◌∙◌}
use Rattle.finish.specs.Answer.{dimension_few, packable, refused, accepted}
use Rattle.finish.proofs.finish.Goals as goal

pub too_wide-requires : goal.too_wide-requires
too_wide-requires c =
    let a = c in
    let s = a in
    let v = a.reduce-k.ensures in
    (dimension_few s.args.limits.weights s.args.limits.terms s.args.limits.generators v s.requires.1, s.requires.0.radii_small, v.sized)

pub returns-then-too_wide : goal.returns-then-too_wide
returns-then-too_wide c =
    let t = c in
    let a = t in
    let s = a in
    let k = a.reduce-k.auto in record {
      value = refused s.args.limits.weights s.args.limits.terms s.args.limits.generators a.reduce-k.ensures s.requires.1
          (sym (t.too_wide.ensures _ _) ∙ c.if-too_wide.true);
      places = k.places;
      heads = k.heads;
      rows = k.s;
      generators = k.g;
    }

pub pack-requires : goal.pack-requires
pack-requires c =
    let t = c in
    let a = t in
    let s = a in
    packable s.args.limits.weights s.args.limits.terms s.args.limits.generators a.reduce-k.ensures s.requires.1
    (sym (t.too_wide.ensures _ _) ∙ c.if-too_wide.false)

pub returns : goal.returns
returns c =
    let t = c in
    let a = t in
    let s = a in
    let k = a.reduce-k.auto in record {
      value = accepted s.args.limits.weights s.args.limits.terms s.args.limits.generators a.reduce-k.ensures s.requires.1
          (sym (t.too_wide.ensures _ _) ∙ c.if-too_wide.false) c.pack.ensures;
      places = k.places;
      heads = k.heads;
      rows = k.s;
      generators = k.g;
    }
