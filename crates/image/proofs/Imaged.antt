-- What `of_step` gives meets `Imaged`, stage by stage.
use mathlib.Core.List.{List, map}
use Rattle.std.specs.Prelude.{◌≡◌, ℕ, ◌+◌, ◌*◌, ◌<◌, ◌≤◌, ℤ, pos, length}
use Rattle.std.proofs.Math.Path.{sym, ap, subst}
use Rattle.std.proofs.Common.{◌∙◌, arith}
use Rattle.std.proofs.Math.ListN.{get_or}
use Rattle.whole.specs.Round.{round}
use Rattle.whole.specs.Tab.{tab, tab_cong, map-tab, length-tab, get_d_tab}
use Rattle.whole.specs.Write.{write, write-all}
use Rattle.rows.specs.Rows.{rows_of, Small}
use Rattle.model.specs.Set.{Term, at}
use Rattle.model.specs.Step.{Step, RawImage, raw, raw_centre, raw_linear, remainder, inexact_at, carried_at, rounded_at, rounded}
use Rattle.zonotope.specs.Record.{view}
use Rattle.zonotope.specs.declared.PolyZonotope.{PolyZonotope}
use Rattle.forms.specs.Tables.{tab_small}
use Rattle.forms.specs.Numbers.{six, both_table, line_table, round_limit}
use Rattle.forms.specs.Wide.{wide, StepShaped}
use Rattle.raw.specs.Accepted.{InSpan}
use Rattle.raw.specs.Unused.{generator_at, counts_in, same_row}
use Rattle.raw.specs.Append.{wide_term, kept-after}
use Rattle.raw.specs.Kept.{Kept, kept_to}
use Rattle.raw.specs.Terms.{RawTerms}
use Rattle.image.specs.KeptRows.{kept-round}
use Rattle.image.specs.Rounding.{inexact_of, half_up, round_term, round_small, rounded-rows, rounded_small, bounded_mono}
use Rattle.image.specs.Remainder.{rounded_up, image_limit}
use Rattle.image.specs.Gaining.{Gaining, gained_image}
use Rattle.image.specs.Radii.{Carried}
use Rattle.raw.specs.Parts.{RawCentre, RawGenerators}
use Rattle.image.specs.Padded.{same-terms, same-centre, same-remainder, same_generators}
use Rattle.image.specs.Counted.{round-terms, round_vector, round-vectors, counted, counts-below, halves_below}
use Rattle.image.specs.Counted.{same-inexact, none_carried, none_rounded}
use Rattle.image.specs.declared.Image.{Image}
use Rattle.image.specs.Imaged.{Imaged}

-- there are as many generators as the record has
images-length : (p : Step) (s : PolyZonotope) → length (raw p (view s)).generators ≡ s.generators
unfolding raw view
images-length p s =
    ap length (map-tab (λ g. tab p.rows (raw_linear p (view s) g)) s.generators (generator_at s))
    ∙ length-tab s.generators (λ t. tab p.rows (raw_linear p (view s) (generator_at s t)))

-- ---- numbers rounded in place
rounded-all : (N : ℕ) (v w : List ℤ) → length v ≡ N → w ≡ write v 0 (λ x. round (at v x)) N → w ≡ tab N (λ x. round (at v x))
rounded-all N v w l e = e ∙ write-all v (λ x. round (at v x)) (pos 0) N l

rounded-all_small : (N : ℕ) (v w : List ℤ) → Small round_limit v → w ≡ tab N (λ x. round (at v x)) → Small image_limit w
rounded-all_small N v w h e =
    rw e (tab_small image_limit N (λ x. round (at v x)) (λ x l. omega (arith, round_small (at v x) (h.small x))))

-- ---- the stages, on six coordinates
module _ (c a q lines both : List ℤ) (s : PolyZonotope) (ok : InSpan s) (eb : both ≡ both_table q)
    (el : lines ≡ line_table a (both_table q) s.centre) (e₀ e : List ℕ) (w₀ w w' : List ℤ) (r : ℕ)
    (raw-terms : RawTerms lines both s e₀ w₀ r e w) (long : r * 6 ≤ length w) (rounded-terms : w' ≡ write w 0 (λ x. round (at w x)) (r * 6))
    (centre centre' : List ℤ) (raw-centre : RawCentre c a lines s centre)
    (rounded-centre : centre' ≡ write centre 0 (λ x. round (at centre x)) 6)
    (vectors vectors' : List ℤ) (raw-vectors : RawGenerators lines s vectors)
    (rounded-vectors : vectors' ≡ write vectors 0 (λ x. round (at vectors x)) 144)
    (gains counts halves carried : List ℕ) (counting : counts ≡ tab 6 (inexact_of w r centre vectors s.generators))
    (halving : halves ≡ tab 6 (λ i. half_up (get_or counts i 0))) (carrying : Carried lines q s gains carried) where
  abbrev P : Step
  P = six c a q

  abbrev z : RawImage
  z = raw P (view s)

  abbrev gained : RawImage
  gained = gained_image gains P (view s)

  centre_is : centre ≡ z.centre
  unfolding raw
  centre_is = raw-centre.numbers q el

  centre-wide : centre ≡ tab 6 (at z.centre)
  unfolding raw
  centre-wide = raw-centre.numbers q el ∙ tab_cong 6 (raw_centre P (view s)) _ (λ i h. sym (get_d_tab 6 (raw_centre P (view s)) (pos 0) i h))

  centre-rounded : centre' ≡ tab 6 (λ x. round (at centre x))
  centre-rounded = rounded-all 6 centre centre' (ap length (raw-centre.numbers q el) ∙ length-tab 6 (raw_centre P (view s))) rounded-centre

  vectors-rounded : vectors' ≡ tab 144 (λ x. round (at vectors x))
  vectors-rounded = rounded-all 144 vectors vectors' (ap length (raw-vectors.numbers c a q el) ∙ length-tab 144 _) rounded-vectors

  count_at : (i : ℕ) → i < 6 → get_or counts i 0 ≡ inexact_at z i
  count_at i h =
      ap (λ (ns : List ℕ). get_or ns i 0) counting
      ∙ get_d_tab 6 (inexact_of w r centre vectors s.generators) 0 i h
      ∙ counted z e w centre vectors r s.generators long (images-length P s) (counts_in s ok).3 (raw-terms.rows c a q eb el)
      centre-wide (raw-vectors.numbers c a q el) i h

  carried-at : (i : ℕ) → i < 6 → rounded_up (remainder P (view s) i + get_or gains i 0) ≡ get_or (tab 6 (carried_at gained)) i 0
  unfolding carried_at
  carried-at i h =
      ap rounded_up (sym (get_d_tab 6 (λ j. remainder P (view s) j + get_or gains j 0) 0 i h))
      ∙ sym (get_d_tab 6 (carried_at gained) 0 i h)

  rounded-at : (i : ℕ) → i < 6 → half_up (get_or counts i 0) ≡ get_or (tab 6 (rounded_at gained)) i 0
  unfolding rounded_at inexact_at
  rounded-at i h = ap half_up (count_at i h) ∙ sym (get_d_tab 6 (rounded_at gained) 0 i h)

  pub imaged : Imaged P gains s e₀ w₀
      (record { rows = r; centre = centre'; generators = vectors'; carried = carried; rounded = halves }) e w'
  unfolding rounded raw
  imaged = record {
    inside = raw-terms.inside;
    terms =
        subst (λ (ts : List Term). Kept ts (map wide_term (map round_term z.terms)))
        (sym (ap (λ (v : List ℤ). rows_of e v r) rounded-terms ∙ rounded-rows e w r long))
        (kept_to (kept-round (raw-terms.rows c a q eb el)) (round-terms z.terms));
    centre = centre-rounded ∙ ap (λ (v : List ℤ). tab 6 (λ x. round (at v x))) centre_is ∙ round_vector z.centre;
    generators =
        vectors-rounded
        ∙ ap (λ (v : List ℤ). tab 144 (λ x. round (at v x))) (raw-vectors.numbers c a q el)
        ∙ round-vectors z.generators;
    carried = carrying.numbers c a el ∙ tab_cong 6 _ (λ i. get_or (tab 6 (carried_at gained)) i 0) carried-at;
    rounded = halving ∙ tab_cong 6 _ (λ i. get_or (tab 6 (rounded_at gained)) i 0) rounded-at;
    small_terms = rw rounded-terms (bounded_mono (rounded_small e w r long (bounded_mono raw-terms.numbers (omega arith)))
        (omega arith));
    small_centre = rounded-all_small 6 centre centre' raw-centre.small centre-rounded;
    small_generators = rounded-all_small 144 vectors vectors' raw-vectors.small vectors-rounded;
    small_carried = carrying.small;
    small_rounded =
        halves_below counts halves
        (counts-below w centre vectors r s.generators counts counting raw-terms.inside (counts_in s ok).3) halving;
    later-exponents = raw-terms.later-exponents;
    later-numbers = record {
      place = λ x h. ap (λ (v : List ℤ). at v x) rounded-terms
          ∙ (kept-after (pos 0) w 0 (λ y. round (at w y)) (r * 6)).place x (omega arith)
          ∙ raw-terms.later-numbers.place x h;
    };
  }

-- ---- on the step's own coordinates
module _ (p : Step) (shaped : StepShaped p) (gains : List ℕ) (gaining : Gaining p.rows gains) (s : PolyZonotope) (ok : InSpan s) where
  abbrev y : RawImage
  y = gained_image gains (wide p) (view s)

  abbrev x : RawImage
  x = gained_image gains p (view s)

  few : length x.generators ≤ 24
  few = rw (images-length p s) (counts_in s ok).3

  as_many : length y.generators ≡ length x.generators
  as_many = images-length (wide p) s ∙ sym (images-length p s)

  -- numbers of the two images by coordinate, those of the step's own 0 past its rows
  part_same : (f g : ℕ → ℕ) → ((i : ℕ) → i < 6 → f i ≡ g i) → ((i : ℕ) → p.rows ≤ i → g i ≡ 0)
      → (i : ℕ) → i < 6 → get_or (tab 6 f) i 0 ≡ get_or (tab p.rows g) i 0
  part_same f g same none i h = get_d_tab 6 f 0 i h ∙ same i h ∙ same_row 0 g p.rows 6 (λ j l m. none j m) i h

  carried_same : (i : ℕ) → i < 6 → carried_at y i ≡ carried_at x i
  unfolding carried_at
  carried_same i h = ap rounded_up (same-remainder p shaped (view s) (λ j. get_or gains j 0) gaining.past i h)

  rounded-same : (i : ℕ) → i < 6 → rounded_at y i ≡ rounded_at x i
  unfolding rounded_at
  rounded-same i h =
      ap half_up
      (same-inexact y x (same-terms p shaped (view s)) (same_generators p shaped (view s)) as_many few i h
      (same-centre p shaped (view s) i h))

  pub imaged_narrow : (e₀ : List ℕ) (w₀ : List ℤ) (r : Image) (e : List ℕ) (w : List ℤ) → Imaged (wide p) gains s e₀ w₀ r e w →
      Imaged p gains s e₀ w₀ r e w
  unfolding rounded raw
  imaged_narrow e₀ w₀ r e w d = record {
    inside = d.inside;
    terms = kept_to d.terms
        (sym (round-terms y.terms) ∙ ap (map round_term) (same-terms p shaped (view s)) ∙ round-terms x.terms);
    centre =
        d.centre
        ∙ sym (round_vector y.centre)
        ∙ tab_cong 6 _ _ (λ i h. ap round (same-centre p shaped (view s) i h))
        ∙ round_vector x.centre;
    generators =
        d.generators
        ∙ sym (round-vectors y.generators)
        ∙ ap (λ (v : List ℤ). tab 144 (λ k. round (at v k))) (same_generators p shaped (view s))
        ∙ round-vectors x.generators;
    carried = d.carried
        ∙ tab_cong 6 _ _ (part_same (carried_at y) (carried_at x) carried_same (λ i l. none_carried p (view s) i l gains));
    rounded = d.rounded
        ∙ tab_cong 6 _ _ (part_same (rounded_at y) (rounded_at x) rounded-same (λ i l. none_rounded p (view s) i l gains));
    small_terms = d.small_terms;
    small_centre = d.small_centre;
    small_generators = d.small_generators;
    small_carried = d.small_carried;
    small_rounded = d.small_rounded;
    later-exponents = d.later-exponents;
    later-numbers = d.later-numbers;
  }
