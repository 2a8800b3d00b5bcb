-- The rounded image of an accepted set in rows: a set in wide form, with numbers for which nothing overflows.
use Rattle.std.specs.Prelude.{◌≡◌, refl, ℕ, ◌*◌, ◌^◌, ◌≤◌, length, ℤ, pos, Result}
use Rattle.std.proofs.Math.Path.{sym, ap, ap₂}
use Rattle.std.proofs.Common.{subst, ◌∙◌, arith}
use mathlib.Core.List.{List, [], map}
use Rattle.std.proofs.Math.ListN.{get_or, length-map}
use Rattle.whole.specs.Round.{round}
use Rattle.whole.specs.Tab.{tab, length-tab, tab_cong, tab_get_d, map-tab, tab-row}
use Rattle.model.specs.Limits.{max_terms, max_generators, standard_weights}
use Rattle.model.specs.Set.{Zonotope, at}
use Rattle.model.specs.Finish.{finish}
use Rattle.model.specs.Step.{Step, raw, rounded, raw_linear}
use Rattle.model.specs.Ranged.{gaining_step}
use Rattle.model.proofs.StepShape.{rounded-ready, gaining_ready}
use Rattle.zonotope.specs.declared.PolyZonotope.{PolyZonotope}
use Rattle.zonotope.specs.declared.WideRadii.{WideRadii}
use Rattle.zonotope.specs.Record.{wide_parts_of, anew, view}
use Rattle.zonotope.specs.View.{anew-rounded}
use Rattle.zonotope.specs.Counts.{InLimits, in_limits}
use Rattle.rows.specs.Rows.{number_row, rows_of}
use Rattle.raw.specs.Accepted as Raw
use Rattle.raw.specs.Unused.{generator_at}
use Rattle.raw.specs.Append.{KeptFrom}
use Rattle.raw.specs.Parts.{wide_vectors}
use Rattle.image.specs.declared.Image.{Image}
use Rattle.image.specs.StepAccepted.{StepAccepted, shaped}
use Rattle.image.specs.Gaining.{gained_image}
use Rattle.image.specs.Imaged.{Imaged}
use Rattle.image.specs.Remainder.{image_limit}
use Rattle.finish.specs.declared.Unfinished.{Unfinished}
use Rattle.zonotope.specs.declared.Cause.{Cause}
use Rattle.finish.specs.Held.{PartsUnder, held}
use Rattle.finish.specs.Wide.{wide, wide_vector}
use Rattle.finish.specs.WideFinish.{Narrow}
use Rattle.answers.specs.Answer.{settled}
use Rattle.answers.specs.Accepted.{AcceptedRecord, ready}
use Rattle.answers.specs.Finishing.{anew_under, Finishable, part, part_length, rows-part, part_small}
use Rattle.answers.proofs.Settled.{settled_held}
use Rattle.rational.proofs.Sum.{All-imp}
use Rattle.stepping.specs.Shortened.{with_terms, Shortened, shortened, finish_shortened}
use Rattle.stepping.specs.Work.{work_numbers, work_exponents}

-- the image without its terms and generators
abbrev pub unfinished_image : Step → PolyZonotope → Image → WideRadii → Unfinished
unfinished_image p s r radii = record {
  dimension = p.rows;
  factors = s.factors;
  identifiers = s.identifiers;
  centre = r.centre;
  radii = radii;
}

-- as far as the image needs it
pub for_image : {s : PolyZonotope} → AcceptedRecord s → Raw.InSpan s
for_image a = record {
  counts = a.passed.counts;
  range = a.passed.range;
  unused = a.passed.full;
  narrow = a.passed.narrow;
}

-- ---- generators in rows of six
vector_rows : (gs : List (List ℤ)) → length gs ≤ 24 → tab (length gs) (number_row (wide_vectors gs)) ≡ map wide_vector gs
vector_rows gs few =
    tab_cong (length gs) _ (λ t. wide_vector (get_or gs t [])) (λ t h. tab-row (pos 0) 6 144 t (λ q i. at (get_or gs q []) i) (omega arith))
    ∙ sym (map-tab wide_vector (length gs) (λ t. get_or gs t []))
    ∙ ap (map wide_vector) (tab_get_d (length gs) gs [] refl)

-- an image's generators fill their array
pub image-vectors : {p : Step} {gains : List ℕ} {s : PolyZonotope} {e₀ e : List ℕ} {w₀ w : List ℤ} {r : Image} → Imaged p gains s e₀ w₀ r
    e w
    → length r.generators ≡ 144
image-vectors d = ap length d.generators ∙ length-tab 144 _

module _ (p : Step) (gains : List ℕ) (s : PolyZonotope) (a : AcceptedRecord s) (ok : StepAccepted p) where
  abbrev image : Zonotope
  image = rounded (gained_image gains p (view s))

  generators_many : length image.generators ≡ s.generators
  unfolding rounded raw view
  generators_many =
      length-map (raw p (view s)).generators (map round)
      ∙ length-map (view s).generators (λ g. tab p.rows (raw_linear p (view s) g))
      ∙ length-tab s.generators (generator_at s)

  few : InLimits s
  few = in_limits s a.passed.counts

  image-narrow : Narrow image
  unfolding rounded raw view
  image-narrow = record {
    shaped = (rounded-ready (gaining_ready (λ i. get_or gains i 0) p (ready s a))).shaped;
    coordinates = (shaped p ok).rows;
    factors = rw (length-tab s.factors (λ i. get_or s.identifiers i 0)) few.factors;
  }

  -- ---- in the rows that `of_step` leaves
  module _ {e₀ e : List ℕ} {w₀ w : List ℤ} {r : Image} (d : Imaged p gains s e₀ w₀ r e w) (le : 10320 ≤ length e)
      (lw : 5160 ≤ length w) {radii : WideRadii} (made : radii ≡ anew r.carried r.rounded) where
    abbrev rows : ℕ
    rows = r.rows

    -- the image's terms but for those of zeros that the rows don't hold
    short : Shortened (length image.identifiers) image.dimension image-narrow.coordinates (rows_of e w rows) image.terms
        image-narrow.shaped.rows d.terms
    short = shortened (length image.identifiers) image.dimension image-narrow.coordinates (rows_of e w rows) image.terms
        image-narrow.shaped.rows d.terms

    abbrev short_image : Zonotope
    short_image = with_terms image short.terms

    short-narrow : Narrow short_image
    short-narrow = record {
      shaped = record {
        centre-long = image-narrow.shaped.centre-long;
        radii-long = image-narrow.shaped.radii-long;
        rows = short.long;
        generators_long = image-narrow.shaped.generators_long;
      };
      coordinates = image-narrow.coordinates;
      factors = image-narrow.factors;
    }

    image-wide : held (unfinished_image p s r radii) (part (rows * 12) e) (part (rows * 6) w) rows r.generators s.generators
        ≡ wide short_image
    unfolding wide rounded raw view
    image-wide = λ k. record {
      dimension = p.rows;
      identifiers = tab s.factors (λ i. get_or s.identifiers i 0);
      centre = d.centre k;
      terms = (rows-part e w rows ∙ sym short.held) k;
      generators = generators_wide k;
      radii = (ap wide_parts_of made ∙ anew-rounded (gained_image gains p (view s)) d.carried d.rounded) k;
    }
      where
        generators_wide : tab s.generators (number_row r.generators) ≡ map wide_vector image.generators
        generators_wide =
            ap₂ (λ (n : ℕ) (g : List ℤ). tab n (number_row g)) (sym generators_many) d.generators
            ∙ vector_rows image.generators (omega (arith, generators_many, few.generators))

    -- what finishing the rows asks
    pub image_finishable : Finishable (unfinished_image p s r radii) (part (rows * 12) e) (part (rows * 6) w) rows r.generators
        s.generators
    image_finishable =
        let inside = d.inside in
        let exponents : length (part (rows * 12) e) ≡ rows * 12 = part_length (rows * 12) e (omega arith) in
        let numbers : length (part (rows * 6) w) ≡ rows * 6 = part_length (rows * 6) w (omega arith) in
        let vectors = image-vectors d in
        record {
          rows_few = inside;
          exponents-long = omega arith;
          exponents_few = omega arith;
          numbers-long = omega arith;
          generators_few = omega (arith, few.generators);
          generators_long = omega (arith, few.generators);
          numbers_small = part_small image_limit (rows * 6) w (omega arith) d.small_terms.bounded;
          generators_small = d.small_generators;
          centre_small = d.small_centre;
          radii_small = subst (PartsUnder (2 ^ 40)) (sym made)
              (anew_under r.carried r.rounded (λ i. d.small_carried.below i) (λ i. d.small_rounded.below i));
          widened = record { source = short_image; is = image-wide; narrow = short-narrow };
        }

    -- finished, they are the step whose remainders gain these numbers
    pub image-step : {x : Result PolyZonotope Cause} → x ≡ settled (finish standard_weights max_terms max_generators
        (held (unfinished_image p s r radii) (part (rows * 12) e) (part (rows * 6) w) rows r.generators s.generators))
        → x ≡ settled (gaining_step standard_weights (λ i. get_or gains i 0) p (view s))
    unfolding gaining_step
    image-step q =
        settled_held standard_weights max_terms max_generators short_image short-narrow image-wide q
        ∙ ap settled
        (finish_shortened standard_weights max_terms max_generators image.dimension image short.terms short.rest short.joined
        (All-imp (λ t h. h.coefficients-long) image-narrow.shaped.rows) short.zero)

-- ---- places of the slices that no image uses
module _ {p : Step} {gains : List ℕ} {s : PolyZonotope} {e₀ e : List ℕ} {w₀ w : List ℤ} {r : Image} (d : Imaged p gains s e₀ w₀ r e w) where
  pub numbers-kept : KeptFrom (pos 0) work_numbers w₀ w
  numbers-kept = let inside = d.inside in record { place = λ x h. d.later-numbers.place x (omega arith) }

  pub exponents-kept : KeptFrom 0 work_exponents e₀ e
  exponents-kept = let inside = d.inside in record { place = λ x h. d.later-exponents.place x (omega arith) }
