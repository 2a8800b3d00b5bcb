-- The rounded blend of two accepted records in rows: a set in wide form, with numbers for which nothing overflows. Finished it is the hull.
use Rattle.std.specs.Prelude.{◌≡◌, ℕ, ◌+◌, ◌*◌, ◌^◌, ◌<◌, ◌≤◌, length, replicate, ℤ, pos, Result}
use Rattle.std.proofs.Common.{sym, subst, ◌∙◌, arith}
use Rattle.std.proofs.Math.Path.{ap}
use mathlib.Core.List.{List, map}
use Rattle.std.proofs.Math.ListN.{get_or}
use Rattle.whole.specs.Round.{round}
use Rattle.whole.specs.Tab.{tab, tab_cong, tab_none, length-tab, get_d_tab}
use Rattle.whole.specs.Write.{write, write-length, write-all}
use Rattle.model.specs.Limits.{standard_weights}
use Rattle.model.specs.Set.{Zonotope, at}
use Rattle.model.specs.Finish.{finish}
use Rattle.model.specs.Step.{RawImage, rounded}
use Rattle.model.specs.Operations.{joined}
use Rattle.model.specs.Hull.{blended, hull}
use Rattle.model.proofs.StepShape.{rounded_shaped}
use Rattle.model.proofs.HullShape.{blended_shaped}
use Rattle.zonotope.specs.declared.PolyZonotope.{PolyZonotope}
use Rattle.zonotope.specs.declared.WideRadii.{WideRadii}
use Rattle.zonotope.specs.Record.{wide_parts_of, view}
use Rattle.rows.specs.Rows.{number_row, rows_of, Small}
use Rattle.raw.specs.Append.{Bounded, small_bounded}
use Rattle.image.specs.Rounding.{round_term, rounded-rows, rounded_small, bounded_mono}
use Rattle.image.specs.Counted.{round-terms, round_vector}
use Rattle.align.specs.declared.Identifiers.{Identifiers}
use Rattle.align.specs.Sum.{Common}
use Rattle.finish.specs.declared.Unfinished.{Unfinished}
use Rattle.zonotope.specs.declared.Cause.{Cause}
use Rattle.finish.specs.Held.{PartsUnder, held}
use Rattle.finish.specs.Wide.{wide, wide_term, wide_vector}
use Rattle.finish.specs.WideFinish.{Narrow}
use Rattle.answers.specs.Answer.{settled}
use Rattle.answers.specs.Accepted.{ready}
use Rattle.answers.specs.Finishing.{Finishable, part, part_length, rows-part, part_small, zeros_small}
use Rattle.answers.proofs.Settled.{settled_held}
use Rattle.summing.specs.Summable.{Summable}
use Rattle.hulling.specs.Sizes.{rounded_vector_small}
use Rattle.hulling.specs.Blended.{Blended}
use Rattle.hulling.specs.BlendRadii.{blend_radii, coordinates_few, blend-radii_small, radii_are}
use Rattle.hulling.specs.WithNext.{with_next, ids_are, ids_few}

-- the first n numbers rounded
abbrev rounded_first : List ℤ → ℕ → List ℤ
rounded_first w n = write w 0 (λ x. round (at w x)) n

module _ (a b : PolyZonotope) (h : Summable a b) (next : ℕ) (all : Identifiers) (o : Common (joined (view a) (view b)) all)
    (few : all.count < 12) (f : List ℕ) (w centre : List ℤ) (d : Blended (view a) (view b) a.terms b.terms f w centre)
    (lf : length f ≡ 1932) (lw : length w ≡ 966) (numbers middle : List ℤ) (ids : List ℕ) (radii : WideRadii) where
  abbrev rows : ℕ
  rows = 1 + ((a.terms + b.terms) + (a.terms + b.terms))

  abbrev z : RawImage
  z = blended next (view a) (view b)

  abbrev image : Zonotope
  image = rounded z

  room : rows * 6 ≤ length w
  room = let terms = d.few in omega arith

  centre-long : length centre ≡ 6
  centre-long = ap length (d.centre_is next) ∙ length-tab 6 _

  module _ (numbers-made : numbers ≡ rounded_first w (rows * 6)) (middle-made : middle ≡ rounded_first centre 6)
      (ids-made : ids ≡ with_next all.numbers all.count next) (radii-made : radii ≡ blend_radii a b w rows centre) where
    terms_are : rows_of f numbers rows ≡ map wide_term image.terms
    unfolding rounded
    terms_are =
        ap (λ (v : List ℤ). rows_of f v rows) numbers-made
        ∙ rounded-rows f w rows room
        ∙ ap (map round_term) (d.terms next)
        ∙ round-terms z.terms

    centre_is : middle ≡ wide_vector image.centre
    unfolding rounded
    centre_is =
        middle-made
        ∙ write-all centre (λ x. round (at centre x)) (pos 0) 6 centre-long
        ∙ tab_cong 6 _ _ (λ i l.
        ap round (ap (λ (v : List ℤ). at v i) (d.centre_is next) ∙ get_d_tab 6 (at z.centre) (pos 0) i l))
        ∙ round_vector z.centre

    numbers_small : Bounded 274877906945 (rows * 6) numbers
    numbers_small =
        subst (Bounded 274877906945 (rows * 6)) (sym numbers-made)
        (rounded_small f w rows room (bounded_mono (small_bounded (rows * 6) d.numbers_small) (omega arith)))

    middle_small : Small 274877906945 middle
    middle_small = rounded_vector_small centre middle centre-long d.centre_small middle-made

    -- ---- the set
    abbrev u : Unfinished
    u = record {
      dimension = a.dimension;
      factors = all.count + 1;
      identifiers = ids;
      centre = middle;
      radii = radii;
    }

    abbrev rows_lent : List ℕ
    rows_lent = part (rows * 12) f

    abbrev numbers_lent : List ℤ
    numbers_lent = part (rows * 6) numbers

    abbrev none_lent : List ℤ
    none_lent = replicate 144 (pos 0)

    image-wide : held u rows_lent numbers_lent rows none_lent 0 ≡ wide image
    unfolding wide rounded blended view
    image-wide = λ k. record {
      dimension = a.dimension;
      identifiers = (ap (λ (v : List ℕ). tab (all.count + 1) (λ i. get_or v i 0)) ids-made ∙ ids_are (view a) (view b) next all o few) k;
      centre = centre_is k;
      terms = (rows-part f numbers rows ∙ terms_are) k;
      generators = tab_none (number_row none_lent) k;
      radii = (ap wide_parts_of radii-made ∙ radii_are a b h next d room) k;
    }

    image-narrow : Narrow image
    unfolding rounded blended view
    image-narrow = record {
      shaped = rounded_shaped (blended_shaped next (ready a h.first) (ready b h.second) h.same);
      coordinates = coordinates_few a h.first;
      factors = ids_few (view a) (view b) next all o few;
    }

    -- it can be finished
    pub hull_finishable : Finishable u rows_lent numbers_lent rows none_lent 0
    hull_finishable =
        let terms = d.few in
        let long : length numbers ≡ length w = ap length numbers-made ∙ write-length w 0 (λ x. round (at w x)) (rows * 6) in
        let exponents : length rows_lent ≡ rows * 12 = part_length (rows * 12) f (omega arith) in
        let lent : length numbers_lent ≡ rows * 6 = part_length (rows * 6) numbers (omega arith) in
        record {
          rows_few = omega arith;
          exponents-long = omega arith;
          exponents_few = omega arith;
          numbers-long = omega arith;
          generators_few = omega arith;
          generators_long = omega arith;
          numbers_small = part_small (2 ^ 40) (rows * 6) numbers (omega arith) (λ i l. omega (arith, numbers_small.bounded i l));
          generators_small = zeros_small 144;
          centre_small = record { small = λ i. omega (arith, middle_small.small i) };
          radii_small = subst (PartsUnder (2 ^ 40)) (sym radii-made) (blend-radii_small a b h next d);
          widened = record { source = image; is = image-wide; narrow = image-narrow };
        }

    -- finished, it is the hull
    pub hull_as : {r : Result PolyZonotope Cause} → r ≡ settled (finish standard_weights 40 24 (held u rows_lent numbers_lent rows none_lent 0))
        → r ≡ settled (hull standard_weights next (view a) (view b))
    unfolding hull
    hull_as q = settled_held standard_weights 40 24 image image-narrow image-wide q
