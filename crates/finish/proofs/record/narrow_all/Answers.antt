-- `finish::record::narrow_all` meets its contract: rows are written to zeros.
use Rattle.std.proofs.Common.{refl, ◌∙◌, ◌≡◌, ◌*◌, arith, rules, length, length-take-le, pos}
use Rattle.model.specs.Set.{at}
use Rattle.fold.specs.Marks.{same_at}
use Rattle.fold.specs.Row.{written_all}
use Rattle.finish.specs.Numbers.{numbers-array, taken-within, written-taken}
use Rattle.finish.proofs.record.narrow_all.Goals as goal

pub narrow_numbers-requires : goal.narrow_numbers-requires
narrow_numbers-requires c =
    let long : length c.args.k.centre ≡ 6 = search rules in
    (omega arith, rw long c.requires.centre-within)

pub narrow_numbers-requires-2 : goal.narrow_numbers-requires-2
narrow_numbers-requires-2 c =
    let few = c.requires.terms_few in
    let h = c.requires.terms-long in
    (omega (arith, length-take-le (c.args.k.terms * 6) c.args.s.now h), taken-within _ _ h c.requires.terms-within)

pub narrow_numbers-requires-3 : goal.narrow_numbers-requires-3
narrow_numbers-requires-3 c =
    let few = c.requires.generators_few in
    let h = c.requires.generators_long in
    (omega (arith, length-take-le (c.args.k.generators * 6) c.args.g.now h), taken-within _ _ h c.requires.generators_within)

pub returns : goal.returns
returns c =
    let s = c in
    let k = s.args.k in
    let long : length k.centre ≡ 6 = search rules in
    record {
      centre_is = c.narrow_numbers.ensures ∙ rw long (written_all _ (pos 0) 6 (at k.centre) refl);
      coefficients_are =
          c.narrow_numbers-2.ensures
          ∙ written-taken (k.terms * 6) s.args.s.now s.requires.terms-long _
          ∙ numbers-array _ 240 s.args.s.now k.terms refl (same_at (pos 0) 240) (omega (arith, s.requires.terms_few));
      vectors_are =
          c.narrow_numbers-3.ensures
          ∙ written-taken (k.generators * 6) s.args.g.now s.requires.generators_long _
          ∙ numbers-array _ 144 s.args.g.now k.generators refl (same_at (pos 0) 144) (omega (arith, s.requires.generators_few));
    }
