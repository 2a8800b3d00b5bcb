-- `finish::gather` meets its contract: rows that are all zero are left out before the others are collected, and zero sums after that.
use Prim.Native.Nat.{ℕ, ◌≤◌}
use mathlib.Core.List.{List, map}
use mathlib.Core.Path.{◌≡◌, sym, ap, ◌∙◌}
use lib.ListN.{length, drop}
use lib.Seq.{length-take-le, length_front}
use Rattle.model.specs.Finish.{collect, those}
use Rattle.rows.specs.Rows.{number_row}
use Rattle.rows.specs.Places.{places-first, places-drop, places_append}
use Rattle.rows.specs.Terms.{placed}
use Rattle.collect.specs.NonzeroPlaces.{nonzero-places, nonzero-numbers, nonzero_collected, terms_front}
use borrow.Author.Rules.{rules}
use native.Mathlib.Omega.{arith}
use Rattle.finish.proofs.gather.Goals as goal

pub slice_bounds-collect-end-2 : goal.slice_bounds-collect-end-2
slice_bounds-collect-end-2 c =
    let a = c.nonzero_places-m in
    sym (length-take-le a.result a.new.p (omega (arith, a.ensures.upper_bound.0, a.auto.p)))

pub slice_bounds-collect-end-4 : goal.slice_bounds-collect-end-4
slice_bounds-collect-end-4 c =
    let f = c in
    let a = f in
    let s = a in
    sym (length-take-le a.nonzero_places-m.result f.first_places.new.p
    (omega (arith, a.nonzero_places-m.ensures.upper_bound.0, f.first_places.auto.p, s.requires.5)))

pub collect-n-requires : goal.collect-n-requires
collect-n-requires c =
    let f = c in
    let a = f in
    let s = a in
    let z = a.nonzero_places-m in
    let e = s.args.e.now in
    let n = length s.args.places.now in
    let few = z.ensures.upper_bound.0 in
    let lp = length-take-le z.result z.new.p (omega (arith, few, z.auto.p)) in
    let lh = length-take-le z.result f.first_places.new.p (omega (arith, few, f.first_places.auto.p, s.requires.5)) in (
      rw z.ensures.upper_bound.1 (nonzero-places e s.args.c.now n s.requires.1),
      rw z.ensures.upper_bound.1 (nonzero-numbers e s.args.c.now n s.requires.3),
      omega (arith, few, lp, s.requires.0),
      omega (arith, few, lp, s.requires.4),
      lh ∙ sym lp,
      s.requires.6,
      s.requires.7,
    )

pub drop_zero-requires : goal.drop_zero-requires
drop_zero-requires c =
    let k = c in
    let f = k in
    let a = f in
    let s = a in
    let p = a.nonzero_places-m in
    let upto = k.collect-n.ensures.result_after.1 in
    let lp = length-take-le p.result p.new.p (omega (arith, p.ensures.upper_bound.0, p.auto.p)) in
    let lh = length_front f.first_places.new.p k.collect-n.new.t p.result k.collect-n.auto.t in (
      omega (arith, upto, lp, lh, p.ensures.upper_bound.0, f.first_places.auto.p, s.requires.5),
      omega (arith, upto, lp, p.ensures.upper_bound.0, s.requires.4, k.collect-n.auto.s),
    )

pub returns : goal.returns
returns c =
    let z = c in
    let k = z in
    let f = k in
    let a = f in
    let s = a in
    let e = s.args.e.now in
    let g = s.args.c.now in
    let p = a.nonzero_places-m in
    let h = f.first_places.new.p in
    let t = k.collect-n.new.t in
    let lp = length-take-le p.result p.new.p (omega (arith, p.ensures.upper_bound.0, p.auto.p)) in
    let lh : length h ≡ length s.args.places.now = f.first_places.auto.p ∙ s.requires.5 in
    let lt : length t ≡ p.result = k.collect-n.auto.t ∙ length-take-le p.result h (omega (arith, p.ensures.upper_bound.0, lh)) in
    let upto : k.collect-n.result ≤ p.result = omega (arith, k.collect-n.ensures.result_after.1, lp) in
    let few = z.drop_zero.ensures.upper_bound.0 in
    record {
      is =
          z.drop_zero.ensures.upper_bound.1 e
          ∙ ap (those _)
          (terms_front e t (drop p.result h) _ k.collect-n.result (omega (arith, upto, lt))
          ∙ k.collect-n.ensures.result_after.0
          ∙ ap (λ (l : List ℕ). collect (map (placed e (number_row g)) l)) p.ensures.upper_bound.1)
          ∙ nonzero_collected e g (length s.args.places.now);
      ready = record {
        few = omega (arith, few, upto, p.ensures.upper_bound.0, s.requires.0);
        places-long =
            omega
            (arith, few, upto, p.ensures.upper_bound.0, lh, z.drop_zero.auto.heads, length_front h t p.result k.collect-n.auto.t);
        rows_long = search rules;
        rows = z.drop_zero.ensures.upper_bound.2 e
            (places_append e t (drop p.result h) k.collect-n.ensures.result_after.2
            (places-drop e p.result h
            (rw f.first_places.ensures (places-first e (length s.args.heads.now) (omega (arith, s.requires.1, s.requires.5))))));
        small = z.drop_zero.ensures.upper_bound.3 _ k.collect-n.ensures.result_after.3;
      };
    }
