-- Finishing leaves a set alone that is in order and within the limits, so a valid set is a fixed point of finishing.
use mathlib.Core.Path.{◌≡◌, refl, sym, ◌∙◌, ap, ap₂, subst}
use mathlib.Core.List.{List, [], ◌∷◌, ◌++◌, map, append-nil, append_assoc}
use mathlib.Core.Bool.{Bool, true, false}
use Prim.Native.Nat.{ℕ, suc, ◌+◌, ◌<◌, ◌≤◌}
use native.Mathlib.Omega.{arith}
use lib.ListN.{length}
use Rattle.rational.specs.Sum.{All, none, more}
use Rattle.rational.proofs.Sum.{All-imp, All-++}
use Rattle.model.specs.Limits.{max_terms, max_generators}
use Rattle.model.specs.Set.{Term, Zonotope}
use Rattle.model.specs.Valid.{zeros, occurs}
use Rattle.model.specs.Finish.{insert, collect_into, collect}
use Rattle.model.specs.Finish.{keep_at, keep_exponents, core, with_terms, with_generators, collect_terms, drop_zero_terms}
use Rattle.model.specs.Finish.{drop_zero_generators, fold_high, fold_terms, fold_generators, drop_unused, finish}
use Rattle.model.proofs.Order.{less_greater}
use Rattle.model.proofs.FirstBySize.{terms_few, generators_few}
use Rattle.model.proofs.FoldsNothing.{all_pass, high_stays}
use Rattle.model.proofs.Collect.{ins_none, ins_greater}
use Rattle.model.proofs.Lists.{Rising, nothing, first, all_head, all_tail}
use Rattle.model.proofs.Shape.{Shaped, Before, Low, Ordered, Valid, counted, ranged, in_order}

-- ---- collecting
-- a term after all others goes to the end
insert-last : (t : Term) {ts : List Term} → All (λ u. Before u t) ts → insert t ts ≡ ts ++ (t ∷ [])
insert-last t none = ins_none t
insert-last t (more {a = u} {l = us} h r) =
    ins_greater t u us (less_greater u.exponents t.exponents h) ∙ ap (u ∷◌) (insert-last t r)

into_rising : (acc ts : List Term) → All (λ u. All (Before u) ts) acc → Rising Before ts → collect_into acc ts ≡ acc ++ ts
unfolding collect_into
into_rising acc [] h nothing = sym (append-nil acc)
into_rising acc (t ∷ ts) h (first b r) =
    ap (λ l. collect_into l ts) (insert-last t (All-imp (λ u q. all_head q) h))
    ∙ into_rising (acc ++ (t ∷ [])) ts (All-++ (All-imp (λ u q. all_tail q) h) (more b none)) r ∙ append_assoc acc (t ∷ []) ts

collect_risen : (ts : List Term) → Rising Before ts → collect ts ≡ ts
collect_risen ts r = into_rising [] ts none r

-- ---- selecting
keep_all : (p : ℕ → Bool) (j : ℕ) (xs : List ℕ) → ((i : ℕ) → i < length xs → p (j + i) ≡ true) → keep_at p j xs ≡ xs
unfolding keep_at
keep_all p j [] h = refl
keep_all p j (x ∷ xs) h = let e : p j ≡ true = ap p (omega arith) ∙ h 0 (omega arith) in rw e
    (ap (x ∷◌) (keep_all p (j + 1) xs (λ i l. ap p (omega arith) ∙ h (suc i) (omega arith))))

map_same : {A : Type 0} (f : A → A) {l : List A} → All (λ a. f a ≡ a) l → map f l ≡ l
map_same f none = refl
map_same f (more h t) = ap₂ ◌∷◌ h (map_same f t)

-- ---- the stages
module _ (s : Zonotope) where
  collected_same : Rising Before s.terms → collect_terms s ≡ s
  unfolding collect_terms
  collected_same r = ap (λ ts. with_terms s (record { core = core s; kept = ts })) (collect_risen s.terms r)

  zero-terms-same : All (λ t. zeros t.coefficients ≡ false) s.terms → drop_zero_terms s ≡ s
  unfolding drop_zero_terms
  zero-terms-same h = ap (λ ts. with_terms s (record { core = core s; kept = ts })) (all_pass (λ t. zeros t.coefficients) h)

  zero_generators_same : All (λ g. zeros g ≡ false) s.generators → drop_zero_generators s ≡ s
  unfolding drop_zero_generators
  zero_generators_same h = ap (λ gs. with_generators s (record { core = core s; kept = gs })) (all_pass zeros h)

  used-same : Shaped s → ((j : ℕ) → j < length s.identifiers → occurs s.terms j ≡ true) → drop_unused s ≡ s
  unfolding drop_unused
  used-same h o =
      let p : ℕ → Bool = occurs s.terms in
      ap₂ (λ ids ts. record {
        dimension = s.dimension;
        identifiers = ids;
        centre = s.centre;
        terms = ts;
        generators = s.generators;
        radii = s.radii;
      }) (keep_all p 0 s.identifiers (λ i l. ap p (omega arith) ∙ o i l))
      (map_same (keep_exponents p) (All-imp (λ t r. ap (λ es. record { exponents = es; coefficients = t.coefficients })
      (keep_all p 0 t.exponents (λ i l. ap p (omega arith) ∙ o i (subst (i <◌) r.exponents-long l)))) h.rows))

-- A set in order that meets the limits is left alone.
pub finish-same : (weights : List ℕ) {term_count_limit generator_count_limit : ℕ} {s : Zonotope} → Shaped s → Ordered s
    → All Low s.terms → length s.terms ≤ term_count_limit → length s.generators ≤ generator_count_limit
    → finish weights term_count_limit generator_count_limit s ≡ s
unfolding finish
finish-same weights {term_count_limit = m} {generator_count_limit = n} {s} h o e l k =
    ap (λ u. drop_unused (fold_generators weights n (fold_terms weights m (fold_high (drop_zero_generators (drop_zero_terms u))))))
    (collected_same s o.terms_rise)
    ∙ ap (λ u. drop_unused (fold_generators weights n (fold_terms weights m (fold_high (drop_zero_generators u)))))
    (zero-terms-same s (All-imp (λ t p. p.not-zero) o.terms_proper))
    ∙ ap (λ u. drop_unused (fold_generators weights n (fold_terms weights m (fold_high u)))) (zero_generators_same s o.generators_proper)
    ∙ ap (λ u. drop_unused (fold_generators weights n (fold_terms weights m u))) (high_stays s e)
    ∙ ap (λ u. drop_unused (fold_generators weights n u)) (terms_few weights m s l)
    ∙ ap drop_unused (generators_few weights n s k)
    ∙ used-same s h o.factors_occur

-- A valid set is a fixed point of finishing.
pub finish_valid : (weights : List ℕ) {largest : ℕ} {s : Zonotope} → Valid largest s → finish weights max_terms max_generators s ≡ s
finish_valid weights {largest} {s} v =
    let c = counted s v.counts in
    finish-same weights v.shaped (in_order s v.ordered) (ranged largest s v.ranges).exponents_in c.terms_few
    c.generators_few
