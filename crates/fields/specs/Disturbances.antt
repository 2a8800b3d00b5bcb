-- Disturbances: their causes in parts.
use Rattle.std.specs.Prelude.{◌≡◌, List, [], ◌∷◌, ◌++◌, map, Bool, true, false, ◌||◌, ℕ, ◌≤◌, ltb, eqb, length, replicate, ℤ, nat_abs, Result, Err}
use Rattle.std.proofs.Common.{sym, ap, ap₂, ◌∙◌, arith}
use Rattle.std.proofs.Math.Option.{none}
use Rattle.std.specs.Result.{IsErrAnd}
use borrow.Author.Tests.{ltb-false, le-ltb, eq-eqb, ne_eqb}
use Rattle.std.proofs.lemmas.List.{length-replicate, length-map}
use Rattle.whole.specs.Tab.{any, length-tab}
use Rattle.whole.specs.Tests.{or_left, or_right}
use Rattle.model.specs.Limits.{max_disturbance}
use Rattle.model.specs.Valid.{is_too_wide}
use Rattle.model.specs.Operations.{disturb}
use Rattle.model.specs.Body.{dimension, disturbance_words, given_radii}
use Rattle.model.specs.Field.{disturbance, meaning, bad_dimension, all_zero, negative, beyond, differs}
use Rattle.model.specs.Run.{Cause, ◌if◌, first_of}
use Rattle.zonotope.specs.declared.PolyZonotope.{PolyZonotope}
use Rattle.zonotope.specs.Record.{view}
use Rattle.zonotope.specs.Valid.{passed}
use Rattle.zonotope.specs.declared.Cause as Zonotopes
use Rattle.zonotope.specs.Answer.{Examined, Accepted, Refused, examined, or_else, first_append}
use Rattle.answers.specs.Answer.{of_result, settled, refused-first}
use Rattle.answers.specs.Order.{or_else_assoc, neither}
use Rattle.answers.specs.Accepted.{AcceptedRecord, equal}
use Rattle.answers.specs.Finishing.{part, part_length}
use Rattle.summing.specs.Disturb.{Disturbable}
use Rattle.bodies.specs.Fields.{radii_length}
use Rattle.fields.specs.Refusal.{body_refusal}
use Rattle.fields.specs.Layout.{layout, LaidOut, laid_out, in_parts}

module _ (b : List ℕ) where
  -- the body is as long as its count says: 3, 4, 3
  abbrev pub radii_layout : List Cause
  radii_layout = layout 1 (bad_dimension (dimension b)) (radii_length b) (length b)

  abbrev pub RadiiLaid : Type 0
  RadiiLaid = LaidOut 1 (bad_dimension (dimension b)) (radii_length b) (length b)

  -- 6: a radius is negative or too large
  abbrev pub radii_out : Bool
  radii_out = any (λ z. negative z || beyond max_disturbance z) (disturbance_words b)

  -- 5, 6 and 14 in n coordinates
  abbrev pub of_given : ℕ → List Cause
  of_given n = (5 if differs (dimension b) n) ∷ (6 if radii_out) ∷ (14 if all_zero (given_radii b)) ∷ []

-- a disturbance in n coordinates: the layout, then its dimension and radii
abbrev pub of_disturbance : ℕ → List ℕ → List Cause
of_disturbance n b = radii_layout b ++ of_given b n

pub disturbance_order : (b : List ℕ) (s : PolyZonotope)
    → body_refusal disturbance b 0 (view s) ≡ or_else (first_of (of_disturbance s.dimension b)) (of_result (disturb (given_radii b) (view s)))
unfolding meaning view first_of
disturbance_order b s =
    let numbers = of_given b s.dimension in
    in_parts (radii_layout b) numbers ((10 if is_too_wide (disturb (given_radii b) (view s))) ∷ [])
    ∙ or_else_assoc (first_of (radii_layout b)) (first_of numbers) _
    ∙ ap (λ o. or_else o (of_result (disturb (given_radii b) (view s)))) (sym (first_append (radii_layout b) numbers))

-- ---- the answer of each test
module _ (n : ℕ) (b : List ℕ) where
  abbrev numbers : List Cause
  numbers = of_given b n

  pub radii-refused : {c : Zonotopes.Cause} {r : Examined} → Err c ≡ examined (first_of (radii_layout b)) → IsErrAnd r (λ e. e ≡ c)
      → r ≡ examined (first_of (of_disturbance n b))
  radii-refused e f = rw (first_append (radii_layout b) numbers) (refused-first (first_of (radii_layout b)) (first_of numbers) e f)

  module _ (h : RadiiLaid b) where
    laid_order : first_of (of_disturbance n b) ≡ first_of numbers
    unfolding first_of
    laid_order = rw (le-ltb (length b) 1 h.counts_in, h.right, eq-eqb (length b) (radii_length b) h.whole)

    pub radii-dimension : (dimension b ≡ n → ⊥) → Refused 5 ≡ examined (first_of (of_disturbance n b))
    unfolding first_of
    radii-dimension d = rw (laid_order, ne_eqb (dimension b) n d)

    module _ (d : dimension b ≡ n) where
      pub radii_range : radii_out b ≡ true → Refused 6 ≡ examined (first_of (of_disturbance n b))
      unfolding first_of
      radii_range e = rw (laid_order, eq-eqb (dimension b) n d, e)

      module _ (e : radii_out b ≡ false) where
        pub radii_unfilled : all_zero (given_radii b) ≡ true → Refused 14 ≡ examined (first_of (of_disturbance n b))
        unfolding first_of
        radii_unfilled z = rw (laid_order, eq-eqb (dimension b) n d, e, z)

        pub radii-accepted : all_zero (given_radii b) ≡ false → Accepted ≡ examined (first_of (of_disturbance n b))
        unfolding first_of
        radii-accepted z = rw (laid_order, eq-eqb (dimension b) n d, e, z)

-- ---- what is left where nothing refuses
sizes_in : (l : List ℤ) → any (λ z. negative z || beyond max_disturbance z) l ≡ false → any (ltb max_disturbance) (map nat_abs l) ≡ false
unfolding any
sizes_in [] e = e
sizes_in (z ∷ l) e =
    let out = negative z || beyond max_disturbance z in
    let rest = any (λ z. negative z || beyond max_disturbance z) l in
    ap₂ ◌||◌ (or_right (negative z) (beyond max_disturbance z) (or_left out rest e)) (sizes_in l (or_right out rest e))

pub disturbance_in : (b : List ℕ) (s : PolyZonotope) → AcceptedRecord s → first_of (of_disturbance s.dimension b) ≡ none
    → RadiiLaid b × Disturbable s (given_radii b)
unfolding first_of given_radii
disturbance_in b s a e =
    let numbers = of_given b s.dimension in
    let parts = neither (first_of (radii_layout b)) (first_of numbers) (sym (first_append (radii_layout b) numbers) ∙ e) in
    let same = passed (differs (dimension b) s.dimension) 5 parts.1 in
    let small = passed (radii_out b) 6 same.1 in (
      laid_out 1 (bad_dimension (dimension b)) (radii_length b) (length b) parts.0,
      record {
        set = a;
        long = length-map (disturbance_words b) nat_abs ∙ length-tab (dimension b) _ ∙ equal (dimension b) s.dimension same.0;
        small = sizes_in (disturbance_words b) small.0;
      },
    )

-- ---- radii that are read from the body
module _ (b : List ℕ) {radii : List ℕ} (e : radii ≡ given_radii b) (s : PolyZonotope) where
  pub given_disturbable : Disturbable s (given_radii b) → Disturbable s radii
  given_disturbable h = rw e h

  pub given-disturbed : {r : Result PolyZonotope Zonotopes.Cause} → r ≡ settled (disturb radii (view s))
      → r ≡ settled (disturb (given_radii b) (view s))
  given-disturbed h = rw e at h

-- an array that has room for them
module _ (b : List ℕ) (h : RadiiLaid b) where
  pub few_radii : dimension b ≤ 6
  few_radii = ltb-false 6 (dimension b) (or_right (eqb (dimension b) 0) (ltb 6 (dimension b)) h.right)

  pub radii_room : {n : ℕ} → n ≡ dimension b → length (part n (replicate {A = ℕ} 6 0)) ≡ dimension b
  radii_room {n} e = let few = few_radii in part_length n (replicate 6 0) (omega (arith, length-replicate {A = ℕ} 6 0)) ∙ e
