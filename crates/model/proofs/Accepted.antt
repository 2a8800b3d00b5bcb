-- What an accepted field passed, test by test, and what its body's counts, dimension and set come to.
use mathlib.Core.Path.{◌≡◌, refl, sym, ◌∙◌, ap}
use mathlib.Core.List.{List, [], ◌∷◌, ◌++◌}
use mathlib.Core.Bool.{Bool, true, false, cond, true≢false}
use mathlib.Core.Option.{Option, some}
use Prim.Native.Nat.{ℕ, ◌<◌, ◌≤◌}
use native.Mathlib.Omega.{arith}
use lib.Dec.{T, ltb, eqb}
use lib.ListN.{length, length-map}
use lib.IntN.{nat_abs}
use borrow.Author.Tests.{ltb-false, eqb-true, eqb-false, not-false}
use Rattle.whole.specs.Tab.{any, length-tab}
use Rattle.rational.specs.Sum.{All, none, more}
use Rattle.model.specs.Limits.{max_dimension, file_identifiers, last_field}
use Rattle.model.specs.Set.{Zonotope}
use Rattle.model.specs.Valid.{bad_counts, is_too_wide}
use Rattle.model.specs.Body.{dimension, factors, term_count, generator_count, radius_words, given_set, disturbance_words, given_radii}
use Rattle.model.specs.Field.{start, Meaning, bad_dimension, differs, negative, of_set}
use Rattle.model.specs.Run.{State, body, tag, kind_of, meant, misplaced, cut, Cause, of_body, causes, refusal, accepted}
use Rattle.model.proofs.Radii.{given-only-long}
use Rattle.model.proofs.Tests.{or_false, no_cause, all-tab}
use Rattle.model.proofs.Shape.{Shaped, Valid}

-- the first cause of this number, where there is one, holds
unfoldable pub holds_at : ℕ → List Cause → Bool
holds_at n [] = false
holds_at n (c ∷ cs) = cond (eqb c.number n) c.holds (holds_at n cs)

pub holds_not : (n : ℕ) {cs : List Cause} → All (λ c. c.holds ≡ false) cs → holds_at n cs ≡ false
unfolding holds_at
holds_not n none = refl
holds_not n (more {a = c} {l = cs} h t) = go (eqb c.number n) h (holds_not n t) where
  go : (b : Bool) → c.holds ≡ false → holds_at n cs ≡ false → cond b c.holds (holds_at n cs) ≡ false
  go true p q = p
  go false p q = q

-- the tests that a kind makes, by their numbers
pub record Passed (m : Meaning) : Type 0 where
  pub bytes : ℕ
  pub not_at : (n : ℕ) → holds_at n (m.causes bytes) ≡ false
  pub result-width : is_too_wide m.result ≡ false

-- all tests
pub record AcceptedField (st : State) (f : List ℕ) : Type 0 where
  pub not_over : st.over ≡ false
  pub numbered : st.count ≤ last_field
  pub placed : misplaced st.count f ≡ false
  pub whole : cut f ≡ false
  pub passed : Passed (meant st f)

parts : {P : Cause → Type 0} (cs : List Cause) {d : Cause} → All P (cs ++ (d ∷ [])) → All P cs × P d
parts [] (more h t) = (none, h)
parts (c ∷ cs) (more h t) = let q = parts cs t in (more h q.0, q.1)

-- a body that no cause refuses passed the tests of its kind
pub body-passed : (m : Meaning) (bytes : ℕ) → All (λ c. c.holds ≡ false) (of_body m bytes) → Passed m
body-passed m bytes a =
    let q = parts (m.causes bytes) a in
    record { bytes = bytes; not_at = λ n. holds_not n q.0; result-width = q.1 }

-- where no cause of a refusal holds, every test is passed
pub no_refusal : (st : State) (f : List ℕ) → st.over ≡ false → refusal st f ≡ Option.none → AcceptedField st f
unfolding causes
no_refusal st f o e = go (no_cause (causes st f) e) where
  go : All (λ c. c.holds ≡ false) (causes st f) → AcceptedField st f
  go (more late (more place (more end rest))) = record {
    not_over = o;
    numbered = ltb-false _ _ late;
    placed = place;
    whole = end;
    passed = body-passed (meant st f) (length (body f)) rest;
  }

-- An accepted field passed every test.
pub accepted-passed : (st : State) (f : List ℕ) → T (accepted st f) → AcceptedField st f
unfolding accepted
accepted-passed st f t = go st.over (refusal st f) refl refl t where
  go : (b : Bool) (o : Option ℕ) → st.over ≡ b → refusal st f ≡ o → T (cond b false (elim o [ Option.none ↦ true | some n ↦ false ]))
      → AcceptedField st f
  go true o p q t = absurd t
  go false Option.none p q t = no_refusal st f p q
  go false (some n) p q t = absurd t

-- The first accepted field is a start set.
pub first-starts : (f : List ℕ) → misplaced 0 f ≡ false → cut f ≡ false → kind_of (tag f) ≡ start
unfolding misplaced cut kind_of
first-starts [] p q = absurd (true≢false q)
first-starts (t ∷ f) p q = ap kind_of (eqb-true t 1 (not-false (eqb t 1) p))

-- ---- counts and dimensions
pub dimension_in : (n : ℕ) → bad_dimension n ≡ false → (0 < n) × (n ≤ max_dimension)
dimension_in n e =
    let h = or_false (eqb n 0) (ltb max_dimension n) e in
    let z = eqb-false n 0 h.0 in
    (omega arith, ltb-false _ _ h.1)

pub same : (m n : ℕ) → differs m n ≡ false → m ≡ n
same m n e = eqb-true m n (not-false _ e)

-- ---- the body's set
pub given_shaped : (b : List ℕ) → Shaped (given_set b)
unfolding given_set
given_shaped b = record {
  centre-long = length-tab _ _;
  radii-long = given-only-long (dimension b) _ (length-map (radius_words b) nat_abs ∙ length-tab _ _);
  rows = all-tab (term_count b) _ (λ i l. record {
    exponents-long = length-tab _ _ ∙ sym (length-tab _ _);
    coefficients-long = length-tab _ _;
  });
  generators_long = all-tab (generator_count b) _ (λ i l. length-tab _ _);
}

pub given-dimension : (b : List ℕ) → (given_set b).dimension ≡ dimension b
unfolding given_set
given-dimension b = refl

pub given-factors : (b : List ℕ) → length (given_set b).identifiers ≡ factors b
unfolding given_set
given-factors b = length-tab _ _

-- The body's set of an accepted field is valid, with identifiers of a file.
pub given_valid : (b : List ℕ) (wrong_dimension many_factors : Bool) (result : Zonotope) (folds : List ℕ) (next : ℕ)
    → Passed (of_set b wrong_dimension many_factors result folds next) → Valid file_identifiers (given_set b)
unfolding given_set bad_counts holds_at
given_valid b d m r l n p = record {
  shaped = given_shaped b;
  counts = rw (length-tab (factors b), length-tab (term_count b), length-tab (generator_count b)) (p.not_at 4);
  ranges = (or_false _ (any negative (radius_words b)) (p.not_at 6)).0;
  ordered = p.not_at 7;
  narrow = p.not_at 8;
}

-- the radii of a disturbance
pub given-radii : (b : List ℕ) → length (given_radii b) ≡ dimension b
unfolding given_radii
given-radii b = length-map (disturbance_words b) nat_abs ∙ length-tab _ _
