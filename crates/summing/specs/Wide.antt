-- An accepted record in rows of fixed width: its rows are its set in wide form, and no number is larger than a span may be.
use Rattle.std.specs.Prelude.{◌≡◌, ℕ, ◌/◌, ◌%◌, ◌^◌, ◌<◌, ◌≤◌, length, ℤ, pos, nat_abs, Result}
use Rattle.std.proofs.Math.Path.{refl, subst}
use Rattle.std.proofs.Common.{sym, ap, ◌∙◌, arith}
use mathlib.Core.List.{List, [], map}
use Rattle.std.proofs.Math.Decide.{dec_lt}
use Rattle.std.proofs.Math.ListN.{get_or}
use Rattle.whole.specs.Tab.{tab, length-tab, get_d_tab, get_d_tab_past, tab_cong, tab_get_d, map-tab, tab-row}
use Rattle.model.specs.Limits.{max_span, standard_weights}
use Rattle.model.specs.Set.{Zonotope, at}
use Rattle.model.specs.Finish.{finish}
use Rattle.model.specs.Operations.{reduce}
use Rattle.zonotope.specs.declared.Radii.{Radii}
use Rattle.zonotope.specs.declared.WideRadii.{WideRadii}
use Rattle.zonotope.specs.declared.PolyZonotope.{PolyZonotope}
use Rattle.zonotope.specs.Record.{firsts, no_term, view, pack}
use Rattle.zonotope.specs.Shape.{PartLengths}
use Rattle.zonotope.specs.Counts.{Countable, countable}
use Rattle.rows.specs.Rows.{term_of, rows_of, Small}
use Rattle.align.specs.Examined.{counts, terms-held, generators_held, centre_small, radii_small}
use Rattle.finish.specs.declared.Unfinished.{Unfinished}
use Rattle.zonotope.specs.declared.Cause.{Cause}
use Rattle.finish.specs.Held.{PartsUnder, held}
use Rattle.finish.specs.Wide.{wide_vector, wide_radii, wide_term, wide}
use Rattle.finish.specs.WideFinish.{Narrow}
use Rattle.answers.specs.Answer.{settled}
use Rattle.answers.specs.Accepted.{AcceptedRecord, own_record}
use Rattle.zonotope.proofs.ViewPack.{view_shaped}
use Rattle.summing.specs.Summand.{for_sum}
use Rattle.answers.specs.Finishing.{parts_under, Finishable}
use Rattle.answers.proofs.Settled.{settled_held}

-- radii at 64 bits, and the first six numbers of each part
abbrev pub wide_radii_of : Radii → WideRadii
wide_radii_of r = record { carried = r.carried; rounded = r.rounded; folded = r.folded; given = r.given }

abbrev pub wide_firsts : Radii → WideRadii
wide_firsts r = record {
  carried = firsts 6 r.carried;
  rounded = firsts 6 r.rounded;
  folded = firsts 6 r.folded;
  given = firsts 6 r.given;
}

-- the set without its terms and generators
abbrev pub unfinished_of : PolyZonotope → Unfinished
unfinished_of s = record {
  dimension = s.dimension;
  factors = s.factors;
  identifiers = s.identifiers;
  centre = s.centre;
  radii = wide_radii_of s.radii;
}

-- what a record holds in its rows
abbrev pub held_in : PolyZonotope → Zonotope
held_in s = held (unfinished_of s) s.exponents s.coefficients s.terms s.vectors s.generators

-- The rows of the record of a set are the set in wide form.
record_wide : (m : Zonotope) → Countable m → held_in (pack m) ≡ wide m
unfolding pack wide rows_of
record_wide m l = λ k. record {
  dimension = m.dimension;
  identifiers = (tab_cong (length m.identifiers) _ _ (λ i h. get_d_tab 12 (λ i. get_or m.identifiers i 0) 0 i
      (omega (arith, l.factors)))
      ∙ tab_get_d (length m.identifiers) m.identifiers 0 refl) k;
  centre = wide_vector m.centre;
  terms = (tab_cong (length m.terms) _ _ (λ t h. term-wide t h)
      ∙ sym (map-tab wide_term (length m.terms) (λ t. get_or m.terms t no_term))
      ∙ ap (map wide_term) (tab_get_d (length m.terms) m.terms no_term refl)) k;
  generators = (tab_cong (length m.generators) _ _ (λ t h.
      tab-row (pos 0) 6 144 t (λ q i. at (get_or m.generators q []) i) (omega (arith, l.generators)))
      ∙ sym (map-tab wide_vector (length m.generators) (λ t. get_or m.generators t []))
      ∙ ap (map wide_vector) (tab_get_d (length m.generators) m.generators [] refl)) k;
  radii = wide_radii m.radii;
}
  where
    term-wide : (t : ℕ) → t < length m.terms → term_of (tab 480 (λ x. get_or (get_or m.terms (x / 12) no_term).exponents (x % 12) 0))
        (tab 240 (λ x. at (get_or m.terms (x / 6) no_term).coefficients (x % 6))) t t ≡ wide_term (get_or m.terms t no_term)
    term-wide t h = λ k. record {
      exponents = tab-row 0 12 480 t (λ q i. get_or (get_or m.terms q no_term).exponents i 0) (omega (arith, l.terms)) k;
      coefficients = tab-row (pos 0) 6 240 t (λ q i. at (get_or m.terms q no_term).coefficients i) (omega (arith, l.terms)) k;
    }

-- an entry of a table that is small at each place
pub small_in : {A : Type 0} {b : ℕ} (d : A) (read : A → ℤ) (n : ℕ) (f : ℕ → A) → read d ≡ pos 0 →
    ((t : ℕ) → t < n → nat_abs (read (f t)) ≤ b)
    → (t : ℕ) → nat_abs (read (get_or (tab n f) t d)) ≤ b
small_in {b = b} d read n f z h t = go (dec_lt t n) where
  go : Dec (t < n) → nat_abs (read (get_or (tab n f) t d)) ≤ b
  go (yes l) = rw (get_d_tab n f d t l) (h t l)
  go (no l) = rw (get_d_tab_past n f d t (omega arith), z) (omega arith)

-- numbers in rows are small where those of each row are
rows_small : {b : ℕ} (n : ℕ) (G : ℕ → List ℤ) → ((t j : ℕ) → nat_abs (at (G t) j) ≤ b) → Small b (tab n (λ x. at (G (x / 6)) (x % 6)))
rows_small n G h = record { small = small_in (pos 0) (λ z. z) n (λ x. at (G (x / 6)) (x % 6)) refl (λ x l. h (x / 6) (x % 6)) }

pub small_mono : {a b : ℕ} {c : List ℤ} → a ≤ b → Small a c → Small b c
small_mono l s = record { small = λ i. omega (arith, s.small i) }

module _ (s : PolyZonotope) (a : AcceptedRecord s) where
  pub narrow : Narrow (view s)
  unfolding view
  narrow = let few = counts s (for_sum s a) in record {
    shaped = view_shaped s;
    coordinates = (countable (view s) a.passed.counts).dimension;
    factors = rw (length-tab s.factors (λ i. get_or s.identifiers i 0)) few.factors_few;
  }

  pub held-wide : held_in s ≡ wide (view s)
  held-wide = subst (λ q. held_in q ≡ wide (view s)) (own_record s a) (record_wide (view s) (countable (view s) a.passed.counts))

  coefficients_small : Small max_span s.coefficients
  unfolding pack view
  coefficients_small = subst (λ (q : PolyZonotope). Small max_span q.coefficients) (own_record s a)
      (rows_small 240 (λ t. (get_or (view s).terms t no_term).coefficients) (λ t j.
      small_in no_term (λ u. at u.coefficients j) s.terms _ refl (λ t l. (terms-held s (for_sum s a)).small t j l) t))

  vectors_small : Small max_span s.vectors
  unfolding pack view
  vectors_small = subst (λ (q : PolyZonotope). Small max_span q.vectors) (own_record s a)
      (rows_small 144 (λ t. get_or (view s).generators t []) (λ t j.
      small_in [] (λ g. at g j) s.generators _ refl (λ t l. (generators_held s (for_sum s a)).small t j l) t))

  finite_centre : Small max_span s.centre
  unfolding pack
  finite_centre = subst (λ (q : PolyZonotope). Small max_span q.centre) (own_record s a) (record {
    small = small_in (pos 0) (λ z. z) 6 (at (view s).centre) refl (λ i l. centre_small s (for_sum s a) i);
  })

  finite_radii : PartsUnder (2 ^ 40) (wide_radii_of s.radii)
  unfolding pack
  finite_radii = subst (λ (q : PolyZonotope). PartsUnder (2 ^ 40) (wide_radii_of q.radii)) (own_record s a)
      (parts_under (wide_radii_of (pack (view s)).radii) (view s).radii refl (λ i. omega (arith, radii_small s (for_sum s a) i)))

  -- what finishing the record's rows asks
  pub finishable : Finishable (unfinished_of s) s.exponents s.coefficients s.terms s.vectors s.generators
  finishable =
      let few = counts s (for_sum s a) in
      let z = a.sized in
      record {
        rows_few = omega arith;
        exponents-long = omega arith;
        exponents_few = omega arith;
        numbers-long = omega arith;
        generators_few = omega arith;
        generators_long = omega arith;
        numbers_small = small_mono (omega arith) coefficients_small;
        generators_small = small_mono (omega arith) vectors_small;
        centre_small = small_mono (omega arith) finite_centre;
        radii_small = finite_radii;
        widened = record { source = view s; is = held-wide; narrow = narrow };
      }

  -- the same of what is equal to the record's parts, and what finishing it gives
  module _ {u : Unfinished} {c g : List ℤ} (p : u ≡ unfinished_of s) (q : c ≡ s.coefficients) (r : g ≡ s.vectors) where
    pub finishable_parts : Finishable u s.exponents c s.terms g s.generators
    finishable_parts = rw (p, q, r) finishable

    pub finished_parts : (h k : ℕ) {r : Result PolyZonotope Cause}
        → r ≡ settled (finish standard_weights h k (held u s.exponents c s.terms g s.generators))
        → r ≡ settled (reduce standard_weights h k (view s))
    unfolding reduce
    finished_parts h k e = settled_held standard_weights h k (view s) narrow held-wide (rw (p, q, r) at e)

-- the parts of the set without its terms and generators
pub unfinished-parts : (s : PolyZonotope) {c : List ℤ} {r : WideRadii} → c ≡ s.centre → r ≡ wide_firsts s.radii →
    PartLengths s.radii
    → ◌≡◌ {A = Unfinished} (record {
      dimension = s.dimension;
      factors = s.factors;
      identifiers = s.identifiers;
      centre = c;
      radii = r;
    }) (unfinished_of s)
unfinished-parts s p q l =
    rw (
      p,
      q,
      tab_get_d 6 s.radii.carried 0 l.carried,
      tab_get_d 6 s.radii.rounded 0 l.rounded,
      tab_get_d 6 s.radii.folded 0 l.folded,
      tab_get_d 6 s.radii.given 0 l.given,
    )
