-- What finishing does to the radii: what folding adds joins the folded parts, and the other parts stay. So `folds` is what was added,
-- whatever the folded parts were before.
use mathlib.Core.Path.{◌≡◌, refl, ap, ◌∙◌, sym}
use mathlib.Core.List.{List, [], ◌∷◌, map}
use mathlib.Core.Bool.{Bool, false}
use Prim.Native.Nat.{ℕ, zero, suc, ◌+◌, ◌-◌}
use native.Mathlib.Omega.{arith}
use lib.ListN.{length, get_or}
use lib.IntN.{ℤ}
use Rattle.whole.specs.Sum.{monoid_ℕ}
use Rattle.model.specs.Limits.{max_terms, max_generators, standard_weights}
use Rattle.model.specs.Set.{Term, Zonotope, radius, radius_of, longer, plus_ℕ, with_folded}
use Rattle.model.specs.Finish.{Core, Folded, growth, fold_vector, fold_term, fold_generator, fold_all, fold_smallest, fold_times}
use Rattle.model.specs.Finish.{size, core, collect_terms, drop_zero_terms, drop_zero_generators, fold_high, fold_terms}
use Rattle.model.specs.Finish.{fold_generators, with_terms, with_generators, drop_unused, finish, folds}
use Rattle.model.specs.Step.{RawImage, rounded}
use Rattle.model.specs.Operations.{joined, renumbered}
use Rattle.model.specs.Body.{given_set}
use Rattle.model.specs.Field.{folds_of}
use Rattle.model.proofs.Vectors.{longer_assoc, plus_ℕ-at}
use Rattle.model.proofs.Radii.{blank-at}

-- ---- the core with r added to its radii
abbrev raised : List ℕ → Core → Core
raised r k = record { centre = k.centre; radii = plus_ℕ r k.radii }

abbrev raised_in : {A : Type 0} → List ℕ → Folded A → Folded A
raised_in r f = record { core = raised r f.core; kept = f.kept }

vector_raised : (r : List ℕ) (b : Bool) (v : List ℤ) (k : Core) → fold_vector b v (raised r k) ≡ raised r (fold_vector b v k)
unfolding fold_vector
vector_raised r b v k =
    ap (λ (q : List ℕ). record { centre = (fold_vector b v k).centre; radii = q }) (longer_assoc monoid_ℕ r k.radii (map (growth b) v))

-- folds of any elements
module _ {A : Type 0} (fold : A → Core → Core) (r : List ℕ) (one : (a : A) (k : Core) → fold a (raised r k) ≡ raised r (fold a k)) where
  all-raised : (l : List A) (k : Core) → fold_all fold l (raised r k) ≡ raised r (fold_all fold l k)
  unfolding fold_all
  all-raised [] k = refl
  all-raised (a ∷ l) k = ap (fold_all fold l) (one a k) ∙ all-raised l (fold a k)

  smallest-raised : (f : A → ℕ) (k : Core) (l : List A) → fold_smallest f fold (raised r k) l ≡ raised_in r (fold_smallest f fold k l)
  unfolding fold_smallest
  smallest-raised f k [] = refl
  smallest-raised f k (a ∷ l) = ap (λ (c : Core). record { core = c; kept = (fold_smallest f fold k (a ∷ l)).kept }) (one _ k)

  times_raised : (f : A → ℕ) (n : ℕ) (k : Core) (l : List A) → fold_times f fold n (raised r k) l ≡ raised_in r (fold_times f fold n k l)
  unfolding fold_times
  times_raised f zero k l = refl
  times_raised f (suc n) k l =
      ap (λ (x : Folded A). fold_times f fold n x.core x.kept) (smallest-raised f k l)
      ∙ times_raised f n (fold_smallest f fold k l).core (fold_smallest f fold k l).kept

-- ---- the set with r added to its folded parts, stage by stage
abbrev lifted : List ℕ → Zonotope → Zonotope
lifted r s = record {
  dimension = s.dimension;
  identifiers = s.identifiers;
  centre = s.centre;
  terms = s.terms;
  generators = s.generators;
  radii = with_folded s.radii (plus_ℕ r s.radii.folded);
}

module _ (r : List ℕ) where
  term-raised : (t : Term) (k : Core) → fold_term t (raised r k) ≡ raised r (fold_term t k)
  term-raised t k = vector_raised r _ t.coefficients k

  high-lifted : (s : Zonotope) → fold_high (lifted r s) ≡ lifted r (fold_high s)
  unfolding fold_high
  high-lifted s =
      ap (λ (c : Core). with_terms s (record { core = c; kept = (fold_high s).terms })) (all-raised fold_term r term-raised _ (core s))

  terms-lifted : (weights : List ℕ) (limit : ℕ) (s : Zonotope) → fold_terms weights limit (lifted r s) ≡ lifted r (fold_terms weights limit s)
  unfolding fold_terms
  terms-lifted weights limit s =
      ap (with_terms s) (times_raised fold_term r term-raised (λ t. size weights t.coefficients) (length s.terms - limit) (core s)
      s.terms)

  generators_lifted : (weights : List ℕ) (limit : ℕ) (s : Zonotope)
      → fold_generators weights limit (lifted r s) ≡ lifted r (fold_generators weights limit s)
  unfolding fold_generators
  generators_lifted weights limit s =
      ap (with_generators s) (times_raised fold_generator r (vector_raised r false) (size weights) (length s.generators - limit) (core s)
      s.generators)

  finish-lifted : (weights : List ℕ) (h q : ℕ) (s : Zonotope) → finish weights h q (lifted r s) ≡ lifted r (finish weights h q s)
  unfolding finish collect_terms drop_zero_terms drop_zero_generators drop_unused
  finish-lifted weights h q s =
      let c = drop_zero_generators (drop_zero_terms (collect_terms s)) in
      let d = fold_high c in
      let e = fold_terms weights h d in
      ap (λ (u : Zonotope). drop_unused (fold_generators weights q (fold_terms weights h u))) (high-lifted c)
      ∙ ap (λ (u : Zonotope). drop_unused (fold_generators weights q u)) (terms-lifted weights h d)
      ∙ ap drop_unused (generators_lifted weights q e)

-- ---- what finishing leaves
plus_none : (r : List ℕ) → plus_ℕ r [] ≡ r
unfolding longer
plus_none [] = refl
plus_none (x ∷ r) = refl

module _ (weights : List ℕ) (h q : ℕ) (s : Zonotope) where
  -- What folding adds joins the folded parts.
  pub finish_folded : (finish weights h q s).radii.folded ≡ plus_ℕ s.radii.folded (folds weights h q s)
  unfolding folds
  finish_folded =
      sym (ap (λ (r : List ℕ). (finish weights h q (record {
        dimension = s.dimension;
        identifiers = s.identifiers;
        centre = s.centre;
        terms = s.terms;
        generators = s.generators;
        radii = with_folded s.radii r;
      })).radii.folded) (plus_none s.radii.folded))
      ∙ ap (λ (u : Zonotope). u.radii.folded) (finish-lifted s.radii.folded weights h q _)

  pub folded_at : (i : ℕ) → get_or (finish weights h q s).radii.folded i 0 ≡ get_or s.radii.folded i 0 + get_or (folds weights h q s) i 0
  folded_at i = ap (λ (r : List ℕ). get_or r i 0) finish_folded ∙ plus_ℕ-at s.radii.folded (folds weights h q s) i

  -- Finishing leaves the other parts, so that the radius grows by what folding adds.
  pub finish-radius : (i : ℕ) → radius (finish weights h q s) i ≡ radius s i + get_or (folds weights h q s) i 0
  unfolding finish collect_terms drop_zero_terms drop_zero_generators fold_high fold_terms fold_generators drop_unused radius_of
  finish-radius i = omega (arith, folded_at i)

-- ---- of a field's result
pub finished_at : (u : Zonotope) (i : ℕ)
    → get_or (finish standard_weights max_terms max_generators u).radii.folded i 0 ≡ get_or u.radii.folded i 0 + get_or (folds_of u) i 0
finished_at u i = folded_at standard_weights max_terms max_generators u i

-- rounding makes the parts anew
pub rounded-anew : (r : RawImage) (i : ℕ) → get_or (rounded r).radii.folded i 0 ≡ 0
unfolding rounded
rounded-anew r i = blank-at r.dimension i

-- a body's set has no folded parts
pub sum-goes_on : (s u : Zonotope) (i : ℕ) → get_or u.radii.folded i 0 ≡ 0
    → get_or (joined s u).radii.folded i 0 ≡ get_or s.radii.folded i 0
unfolding joined
sum-goes_on s u i e = omega (arith, plus_ℕ-at s.radii.folded u.radii.folded i)

pub given_none : (b : List ℕ) (next : ℕ) (i : ℕ)
    → (get_or (given_set b).radii.folded i 0 ≡ 0) × (get_or (renumbered next (given_set b)).radii.folded i 0 ≡ 0)
unfolding given_set renumbered
given_none b next i = (blank-at _ i, blank-at _ i)
