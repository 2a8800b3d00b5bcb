-- A set with wide numbers has the same record and the same spans; so a wide set, once finished, has the record and the spans that the
-- finished set has.
use Rattle.std.specs.Prelude.{◌≡◌, refl, List, [], ◌∷◌, map, ℕ, zero, suc, ◌+◌, ◌/◌, ◌%◌, ◌≤◌, ◌<◌, ltb, length, get_or, ℤ, pos, nat_abs}
use Rattle.std.proofs.Common.{sym, ◌∙◌, ap, ap₂, subst, mod-lt, arith, lit<}
use Rattle.std.proofs.Math.Path.{fun_ext}
use Rattle.std.proofs.lemmas.List.{length-map}
use Rattle.whole.specs.Sum.{sum_ℕ, sum-map}
use Rattle.whole.specs.Tests.{any_cong}
use Rattle.whole.specs.Tab.{tab, get_d_tab, tab_cong}
use Rattle.model.specs.Limits.{max_span}
use Rattle.model.specs.Set.{Radii, Zonotope, at, radius_of, term_sizes, generator_sizes, span}
use Rattle.model.specs.Valid.{is_too_wide}
use Rattle.model.specs.Finish.{collect_terms, drop_zero_terms, drop_zero_generators, fold_high, fold_terms, fold_generators, drop_unused, finish}
use Rattle.zonotope.specs.Record.{no_term, pack}
use Rattle.finish.specs.Wide.{wide_vector, wide_part, wide_radii, wide_coefficients, wide, wide_numbers}
use Rattle.finish.specs.WideFinish.{Narrow, finish-wide}

-- the first 6 numbers of a vector are its own
pub vector_at : (v : List ℤ) (i : ℕ) → i < 6 → at (wide_vector v) i ≡ at v i
vector_at v i h = get_d_tab 6 (at v) (pos 0) i h

-- ---- the record
-- what is read of the element at place i, where no element's change changes what is read of it
read_mapped : {A B : Type 0} (widen : A → A) (read : A → B) (d : A) → ((a : A) → read (widen a) ≡ read a) → (l : List A) (i : ℕ)
    → read (get_or (map widen l) i d) ≡ read (get_or l i d)
read_mapped widen read d h [] i = refl
read_mapped widen read d h (a ∷ l) zero = h a
read_mapped widen read d h (a ∷ l) (suc i) = read_mapped widen read d h l i

-- the first 6 numbers of a part are its own
part_at : (l : List ℕ) (i : ℕ) → i < 6 → get_or (wide_part l) i 0 ≡ get_or l i 0
part_at l i h = get_d_tab 6 (λ j. get_or l j 0) 0 i h

part-wide : (l : List ℕ) → wide_part (wide_part l) ≡ wide_part l
part-wide l = tab_cong 6 _ _ (part_at l)

-- A set with wide numbers has the same record.
pub pack-wide : (m : Zonotope) → pack (wide_numbers m) ≡ pack m
unfolding pack wide_numbers
pack-wide m = λ i. record {
  dimension = m.dimension;
  factors = length m.identifiers;
  terms = length-map m.terms wide_coefficients i;
  generators = length-map m.generators wide_vector i;
  identifiers = tab 12 (λ j. get_or m.identifiers j 0);
  centre = tab_cong 6 _ _ (vector_at m.centre) i;
  exponents = tab_cong 480 _ _ (λ x h.
      read_mapped wide_coefficients (λ t. get_or t.exponents (x % 12) 0) no_term (λ t. refl) m.terms (x / 12)) i;
  coefficients = tab_cong 240 _ _ (λ x h.
      read_mapped wide_coefficients (λ t. at t.coefficients (x % 6)) no_term
      (λ t. vector_at t.coefficients (x % 6) (mod-lt x (lit< tt))) m.terms (x / 6)) i;
  vectors = tab_cong 144 _ _ (λ x h.
      read_mapped wide_vector (λ g. at g (x % 6)) [] (λ g. vector_at g (x % 6) (mod-lt x (lit< tt))) m.generators (x / 6)) i;
  radii = record {
    carried = part-wide m.radii.carried i;
    rounded = part-wide m.radii.rounded i;
    folded = part-wide m.radii.folded i;
    given = part-wide m.radii.given i;
  };
}

-- ---- spans
sum_mapped : {A : Type 0} (widen : A → A) (f : A → ℕ) → ((a : A) → f (widen a) ≡ f a) → (l : List A) → sum_ℕ f (map widen l) ≡ sum_ℕ f l
sum_mapped widen f h l = sum-map 0 ◌+◌ f widen l ∙ ap (λ (g : _). sum_ℕ g l) (fun_ext h)

radius-wide : (r : Radii) (i : ℕ) → i < 6 → radius_of (wide_radii r) i ≡ radius_of r i
unfolding radius_of
radius-wide r i h =
    ap₂ ◌+◌ (ap₂ ◌+◌ (ap₂ ◌+◌ (part_at r.carried i h) (part_at r.rounded i h)) (part_at r.folded i h)) (part_at r.given i h)

-- A coordinate's span is the same.
pub span-wide : (m : Zonotope) (i : ℕ) → i < 6 → span (wide_numbers m) i ≡ span m i
unfolding span term_sizes generator_sizes wide_numbers
span-wide m i h =
    ap₂ ◌+◌ (ap₂ ◌+◌ (ap₂ ◌+◌ (ap nat_abs (vector_at m.centre i h))
    (sum_mapped wide_coefficients _ (λ t. ap nat_abs (vector_at t.coefficients i h)) m.terms))
    (sum_mapped wide_vector _ (λ g. ap nat_abs (vector_at g i h)) m.generators))
    (radius-wide m.radii i h)

pub too_wide-wide : (m : Zonotope) → m.dimension ≤ 6 → is_too_wide (wide_numbers m) ≡ is_too_wide m
unfolding is_too_wide wide_numbers
too_wide-wide m few = any_cong _ _ m.dimension (λ i. i) (λ i h. ap (ltb max_span) (span-wide m i (omega arith)))

-- ---- of a wide set, finished
finish-dimension : (weights : List ℕ) (h q : ℕ) (s : Zonotope) → (finish weights h q s).dimension ≡ s.dimension
unfolding finish drop_unused fold_generators fold_terms fold_high drop_zero_generators drop_zero_terms collect_terms
finish-dimension weights h q s = refl

module _ (weights : List ℕ) (h q : ℕ) (s : Zonotope) (n : Narrow s) where
  -- The record of a wide set, finished, is the record of the set, finished.
  pub finish-pack : pack (finish weights h q (wide s)) ≡ pack (finish weights h q s)
  finish-pack = ap pack (finish-wide weights h q s n) ∙ pack-wide (finish weights h q s)

  -- One is too wide where the other is.
  pub finish-too_wide : is_too_wide (finish weights h q (wide s)) ≡ is_too_wide (finish weights h q s)
  finish-too_wide =
      ap is_too_wide (finish-wide weights h q s n)
      ∙ too_wide-wide (finish weights h q s) (subst (◌≤ 6) (sym (finish-dimension weights h q s)) n.coordinates)
