-- Whatever survives the folding of any one element survives the folding of those that pass a test, and of the smallest ones. So the stages
-- that fold keep every point.
use mathlib.Core.Path.{◌≡◌, refl, sym, ap, subst}
use mathlib.Core.List.{List, [], ◌∷◌, ◌++◌}
use mathlib.Core.Bool.{Bool, true, false, not, cond}
use Prim.Native.Nat.{ℕ, zero, suc, ◌-◌}
use lib.Dec.{leb}
use lib.ListN.{length}
use lib.Seq.{append_snoc}
use Rattle.model.specs.Set.{Zonotope}
use Rattle.model.specs.Finish.{Core, Taken, those, fold_all, fold_term, fold_generator, smallest, fold_smallest, fold_times, core, too_high}
use Rattle.model.specs.Finish.{size}
use Rattle.model.specs.Finish.{with_terms, with_generators, fold_high, fold_terms, fold_generators}
use Rattle.model.specs.Points.{Point}
use Rattle.model.proofs.Covers.{Covers}
use Rattle.model.proofs.Choice.{by_test}
use Rattle.model.proofs.FoldCovers.{term_folded, generator_folded}

-- ---- the smallest stands somewhere in the list, and the others are the list without it
record Place {A : Type 0} (out : A) (rest l : List A) : Type 0 where
  before : List A
  after : List A
  list_is : l ≡ before ++ (out ∷ after)
  rest_is : rest ≡ before ++ after

place : {A : Type 0} (f : A → ℕ) (a : A) (l : List A) → Place (smallest f a l).out (smallest f a l).rest (a ∷ l)
unfolding smallest
place {A} f a [] = record { before = []; after = []; list_is = refl; rest_is = refl }
place {A} f a (b ∷ l) = let p = place f b l in
    by_test {A = Taken A} (λ t. Place t.out t.rest (a ∷ (b ∷ l))) (leb (f (smallest f b l).out) (f a))
    (λ _. record { before = a ∷ p.before; after = p.after; list_is = ap (a ∷◌) p.list_is; rest_is = ap (a ∷◌) p.rest_is })
    (λ _. record { before = []; after = b ∷ l; list_is = refl; rest_is = refl })

-- ---- P of a core and a list survives the folding of any one element
module _ {A : Type 0} (fold : A → Core → Core) (P : Core → List A → Type 0)
    (keeps : (c : Core) (k : List A) (a : A) (l : List A) → P c (k ++ (a ∷ l)) → P (fold a c) (k ++ l)) where
  -- those that pass the test are folded
  pub those_keep : (p : A → Bool) (c : Core) (k l : List A) → P c (k ++ l) → P (fold_all fold (those p l) c) (k ++ those (λ a. not (p a)) l)
  unfolding fold_all those
  those_keep p c k [] h = h
  those_keep p c k (a ∷ l) h =
      go (p a) (those_keep p (fold a c) k l (keeps c k a l h))
      (those_keep p c (k ++ (a ∷ [])) l (subst (P c) (sym (append_snoc k a l)) h))
    where
      go : (b : Bool) → P (fold_all fold (those p l) (fold a c)) (k ++ those (λ a. not (p a)) l)
          → P (fold_all fold (those p l) c) (k ++ (a ∷ []) ++ those (λ a. not (p a)) l)
          → P (fold_all fold (cond b (a ∷ those p l) (those p l)) c)
          (k ++ cond (not b) (a ∷ those (λ a. not (p a)) l) (those (λ a. not (p a)) l))
      go true y n = y
      go false y n = subst (P (fold_all fold (those p l) c)) (append_snoc k a (those (λ a. not (p a)) l)) n

  module _ (f : A → ℕ) where
    smallest_keeps : (c : Core) (l : List A) → P c l → P (fold_smallest f fold c l).core (fold_smallest f fold c l).kept
    unfolding fold_smallest
    smallest_keeps c [] h = h
    smallest_keeps c (a ∷ l) h = let p = place f a l in let t = smallest f a l in
        subst (P (fold t.out c)) (sym p.rest_is) (keeps c p.before t.out p.after (subst (P c) p.list_is h))

    -- the smallest is folded, n times
    pub times_keep : (n : ℕ) (c : Core) (l : List A) → P c l → P (fold_times f fold n c l).core (fold_times f fold n c l).kept
    unfolding fold_times
    times_keep zero c l h = h
    times_keep (suc n) c l h = times_keep n (fold_smallest f fold c l).core (fold_smallest f fold c l).kept (smallest_keeps c l h)

-- ---- the stages
-- stage 3: terms with an exponent that is too large
pub fold-high_covers : (s : Zonotope) → Covers s (fold_high s)
unfolding fold_high
fold-high_covers s = record {
  keeps = λ {α} {x} w. those_keep fold_term (λ c l. Point (with_terms s (record { core = c; kept = l })) α x) (term_folded s w)
      too_high (core s) [] s.terms;
}

-- stage 4, terms: whichever are folded
pub fold-terms_covers : (weights : List ℕ) (limit : ℕ) (s : Zonotope) → Covers s (fold_terms weights limit s)
unfolding fold_terms
fold-terms_covers weights limit s = record {
  keeps = λ {α} {x} w. times_keep fold_term (λ c l. Point (with_terms s (record { core = c; kept = l })) α x) (term_folded s w)
      (λ t. size weights t.coefficients) (length s.terms - limit) (core s) s.terms;
}

-- stage 4, generators
pub fold_generators_covers : (weights : List ℕ) (limit : ℕ) (s : Zonotope) → Covers s (fold_generators weights limit s)
unfolding fold_generators
fold_generators_covers weights limit s = record {
  keeps = λ {α} {x} w. times_keep fold_generator (λ c l. Point (with_generators s (record { core = c; kept = l })) α x) (generator_folded s w)
      (size weights) (length s.generators - limit) (core s) s.generators;
}
