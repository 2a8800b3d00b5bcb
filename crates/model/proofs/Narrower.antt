-- Finishing widens no span: what a fold moves and what it widens are the folded size together, and sums are no larger than their parts. So
-- no reduction is refused with 10.
use mathlib.Core.Path.{◌≡◌, refl, sym, ◌∙◌, ap, subst}
use mathlib.Core.List.{List, [], ◌∷◌, ◌++◌, map}
use mathlib.Core.Bool.{Bool, true, false, not, ◌&&◌}
use mathlib.Core.Option
use mathlib.Core.Option.{some}
use Prim.Native.Nat.{ℕ, zero, suc, ◌+◌, ◌-◌, ◌≤◌}
use native.Mathlib.Nat.{le_trans}
use native.Mathlib.Omega.{arith}
use borrow.Author.Tests.{ltb-false, le-ltb}
use lib.Dec.{ltb, eqb}
use lib.ListN.{length, get_or}
use lib.IntN.{ℤ, nat_abs, ◌+ℤ◌}
use Rattle.whole.specs.Half.{half-parts}
use Rattle.whole.specs.Size.{abs_add}
use Rattle.whole.specs.Sum.{sum_ℕ, sum_by, monoid_ℕ, sum-++, sum-map}
use Rattle.whole.specs.Tab.{tab, any}
use Rattle.rational.specs.Sum.{All, more}
use Rattle.model.specs.Limits.{max_span, standard_weights}
use Rattle.model.specs.Set.{Term, Zonotope, at, radius_of, term_sizes, generator_sizes, span}
use Rattle.model.specs.Valid.{Order, less, equal, greater, order, zeros, occurs, is_too_wide}
use Rattle.model.specs.Finish.{Core, by_order, plus_term, insert, collect_into, those, shift, growth, fold_vector, fold_term}
use Rattle.model.specs.Finish.{fold_generator, size, keep_exponents, core, too_high, all_even, collect_terms, drop_zero_terms}
use Rattle.model.specs.Finish.{drop_zero_generators, fold_high, fold_terms, fold_generators, drop_unused, finish}
use Rattle.model.specs.Operations.{reduce}
use Rattle.model.specs.Body.{term_count_limit, generator_count_limit}
use Rattle.model.specs.Field.{reduction, meaning}
use Rattle.model.specs.Run.{State, ◌if◌, first_of, begin, no_set, current, tag, body, kind_of, of_body, causes}
use Rattle.model.specs.Run.{refusal, run}
use Rattle.model.specs.Library.{Given, of_first, of_limits, reduce_refusal}
use Rattle.model.proofs.Vectors.{plus_ℤ-at, plus_ℕ-at}
use Rattle.model.proofs.Tests.{either, any_false, false-any, all-tab, tab-all, not-answered, passed-before}
use Rattle.model.proofs.Sound.{Sound, holds, begin_sound, run_sound}
use Rattle.model.proofs.FoldCovers.{shift-at, growth-at}
use Rattle.model.proofs.FoldStages.{those_keep, times_keep}

-- what a fold moves and what it widens are the number's size together
fold-size : (b : Bool) (g : ℤ) → nat_abs (shift b g) + growth b g ≡ nat_abs g
unfolding shift growth
fold-size true g = half-parts g
fold-size false g = omega arith

-- those of a list that pass a test are together no larger than all
those_no_more : {A : Type 0} (f : A → ℕ) (p : A → Bool) (l : List A) → sum_ℕ f (those p l) ≤ sum_ℕ f l
unfolding those sum_by
those_no_more f p [] = omega arith
those_no_more f p (a ∷ l) =
    let h = those_no_more f p l in
    either (λ k. sum_ℕ f k ≤ f a + sum_ℕ f l) (p a) (omega arith) (omega arith)

-- ---- sizes at coordinate i
module _ (i : ℕ) where
  abbrev of_term : Term → ℕ
  of_term t = nat_abs (at t.coefficients i)

  abbrev of_generator : List ℤ → ℕ
  of_generator g = nat_abs (at g i)

  -- a term put into a list adds its size at most
  insert_no_more : (t : Term) (ts : List Term) → sum_ℕ of_term (insert t ts) ≤ of_term t + sum_ℕ of_term ts
  unfolding insert sum_by
  insert_no_more t [] = omega arith
  insert_no_more t (u ∷ us) = go (order t.exponents u.exponents) (insert_no_more t us)
    where
      together : of_term (plus_term u t) ≤ of_term u + of_term t
      together = rw (plus_ℤ-at u.coefficients t.coefficients i) (abs_add (at u.coefficients i) (at t.coefficients i))

      go : (o : Order) → sum_ℕ of_term (insert t us) ≤ of_term t + sum_ℕ of_term us
          → sum_ℕ of_term (by_order o (t ∷ (u ∷ us)) (plus_term u t ∷ us) (u ∷ insert t us)) ≤ of_term t + (of_term u + sum_ℕ of_term us)
      go less h = omega arith
      go equal h = omega (arith, together)
      go greater h = omega (arith, h)

  collect_no_more : (acc ts : List Term) → sum_ℕ of_term (collect_into acc ts) ≤ sum_ℕ of_term acc + sum_ℕ of_term ts
  unfolding collect_into sum_by
  collect_no_more acc [] = omega arith
  collect_no_more acc (t ∷ ts) = omega (arith, collect_no_more (insert t acc) ts, insert_no_more t acc)

  -- a centre and radius with the sizes of a list
  module _ {A : Type 0} (vector : A → List ℤ) where
    abbrev Fits : ℕ → Core → List A → Type 0
    Fits most c l = nat_abs (at c.centre i) + sum_ℕ (λ a. nat_abs (at (vector a) i)) l + get_or c.radii i 0 ≤ most

    -- they still fit after any of the list is folded
    fold_fits : (even : A → Bool) (most : ℕ) (c : Core) (k : List A) (a : A) (l : List A) → Fits most c (k ++ (a ∷ l))
        → Fits most (fold_vector (even a) (vector a) c) (k ++ l)
    unfolding fold_vector sum_by
    fold_fits even most c k a l h =
        let g = at (vector a) i in let b = even a in
        let f : A → ℕ = λ a. nat_abs (at (vector a) i) in
        let moved = plus_ℤ-at c.centre (map (shift b) (vector a)) i ∙ ap (at c.centre i +ℤ◌) (shift-at b (vector a) i) in
        let wider = plus_ℕ-at c.radii (map (growth b) (vector a)) i ∙ ap (get_or c.radii i 0 +◌) (growth-at b (vector a) i) in
        rw (moved, wider) (omega (
          arith,
          h,
          abs_add (at c.centre i) (shift b g),
          fold-size b g,
          sum-++ monoid_ℕ f k (a ∷ l),
          sum-++ monoid_ℕ f k l,
        ))

  abbrev TermsFit : ℕ → Core → List Term → Type 0
  TermsFit = Fits (λ t. t.coefficients)

  term_fits : (most : ℕ) (c : Core) (k : List Term) (t : Term) (l : List Term) → TermsFit most c (k ++ (t ∷ l))
      → TermsFit most (fold_term t c) (k ++ l)
  term_fits = fold_fits (λ t. t.coefficients) (λ t. all_even t.exponents)

-- ---- the stages
-- u's spans are no wider than s's
record Narrower (s u : Zonotope) : Type 0 where
  no_wider : (i : ℕ) → span u i ≤ span s i

narrower_trans : {s u v : Zonotope} → Narrower s u → Narrower u v → Narrower s v
narrower_trans h k = record { no_wider = λ i. le_trans (k.no_wider i) (h.no_wider i) }

collect_narrower : (s : Zonotope) → Narrower s (collect_terms s)
unfolding collect_terms span term_sizes generator_sizes sum_by
collect_narrower s = record { no_wider = λ i. omega (arith, collect_no_more i [] s.terms) }

zero-terms_narrower : (s : Zonotope) → Narrower s (drop_zero_terms s)
unfolding drop_zero_terms span term_sizes generator_sizes
zero-terms_narrower s = record {
  no_wider = λ i. omega (arith, those_no_more (of_term i) (λ t. not (zeros t.coefficients)) s.terms);
}

zero_generators_narrower : (s : Zonotope) → Narrower s (drop_zero_generators s)
unfolding drop_zero_generators span term_sizes generator_sizes
zero_generators_narrower s = record {
  no_wider = λ i. omega (arith, those_no_more (of_generator i) (λ g. not (zeros g)) s.generators);
}

high_narrower : (s : Zonotope) → Narrower s (fold_high s)
unfolding fold_high span term_sizes generator_sizes radius_of
high_narrower s = record {
  no_wider = λ i.
      let most = nat_abs (at s.centre i) + sum_ℕ (of_term i) s.terms + get_or s.radii.folded i 0 in
      let h = those_keep fold_term (TermsFit i most) (term_fits i most) too_high (core s) [] s.terms (omega arith) in
      omega (arith, h);
}

terms_narrower : (weights : List ℕ) (limit : ℕ) (s : Zonotope) → Narrower s (fold_terms weights limit s)
unfolding fold_terms span term_sizes generator_sizes radius_of
terms_narrower weights limit s = record {
  no_wider = λ i.
      let most = nat_abs (at s.centre i) + sum_ℕ (of_term i) s.terms + get_or s.radii.folded i 0 in
      let h = times_keep fold_term (TermsFit i most) (term_fits i most) (λ t. size weights t.coefficients) (length s.terms - limit)
      (core s) s.terms (omega arith) in
      omega (arith, h);
}

generators_narrower : (weights : List ℕ) (limit : ℕ) (s : Zonotope) → Narrower s (fold_generators weights limit s)
unfolding fold_generators span term_sizes generator_sizes radius_of
generators_narrower weights limit s = record {
  no_wider = λ i.
      let most = nat_abs (at s.centre i) + sum_ℕ (of_generator i) s.generators + get_or s.radii.folded i 0 in
      let h = times_keep fold_generator (Fits i (λ g. g) most) (fold_fits i (λ g. g) (λ g. false) most)
      (size weights) (length s.generators - limit) (core s) s.generators (omega arith) in
      omega (arith, h);
}

unused_narrower : (s : Zonotope) → Narrower s (drop_unused s)
unfolding drop_unused span term_sizes generator_sizes
unused_narrower s = record {
  no_wider = λ i. omega (arith, sum-map 0 ◌+◌ (of_term i) (keep_exponents (occurs s.terms)) s.terms);
}

-- finishing widens no span
pub finish_narrower : (weights : List ℕ) (term_count_limit generator_count_limit : ℕ) (s : Zonotope) (i : ℕ)
    → span (finish weights term_count_limit generator_count_limit s) i ≤ span s i
unfolding finish
finish_narrower weights h q s =
    let a = collect_terms s in let b = drop_zero_terms a in let c = drop_zero_generators b in let d = fold_high c in
    let e = fold_terms weights h d in let f = fold_generators weights q e in
    (narrower_trans (collect_narrower s) (narrower_trans (zero-terms_narrower a) (narrower_trans (zero_generators_narrower b)
    (narrower_trans (high_narrower c) (narrower_trans (terms_narrower weights h d) (narrower_trans (generators_narrower weights q e)
    (unused_narrower f))))))).no_wider

-- ---- reductions
finish-dimension : (weights : List ℕ) (term_count_limit generator_count_limit : ℕ) (s : Zonotope)
    → (finish weights term_count_limit generator_count_limit s).dimension ≡ s.dimension
unfolding finish drop_unused fold_generators fold_terms fold_high drop_zero_generators drop_zero_terms collect_terms
finish-dimension weights h q s = refl

-- a set that isn't too wide is reduced to one that isn't
pub reduce_fits : (weights : List ℕ) (term_count_limit generator_count_limit : ℕ) (s : Zonotope) → is_too_wide s ≡ false
    → is_too_wide (reduce weights term_count_limit generator_count_limit s) ≡ false
unfolding reduce is_too_wide
reduce_fits weights h q s e =
    let r = finish weights h q s in
    let wide : ℕ → Bool = λ i. ltb max_span (span s i) in
    ap (λ n. any (λ i. ltb max_span (span r i)) (tab n (λ i. i))) (finish-dimension weights h q s)
    ∙ false-any (λ i. ltb max_span (span r i)) (all-tab s.dimension (λ i. i) (λ i l. le-ltb max_span (span r i)
    (le_trans (finish_narrower weights h q s i) (ltb-false max_span (span s i)
    (tab-all s.dimension (λ i. i) (any_false wide (tab s.dimension (λ i. i)) e) i l)))))

-- no call of the library refuses a reduction with 10
pub reduce_never_10 : (term_count_limit generator_count_limit : ℕ) (g : Given) → reduce_refusal term_count_limit generator_count_limit g ≡ some 10 → ⊥
unfolding reduce_refusal any
reduce_never_10 h q g e = let result = reduce standard_weights h q g.set in
    go (passed-before 10 (of_first g) (of_limits h q ++ ((10 if is_too_wide result) ∷ [])) refl e)
  where
    go : All (λ c. c.holds ≡ false) (of_first g)
        × (first_of (of_limits h q ++ ((10 if is_too_wide (reduce standard_weights h q g.set)) ∷ [])) ≡ some 10) → ⊥
    go (more a (more b (more c (more narrow t))), e) =
        not-answered 10 (of_limits h q ++ ((10 if is_too_wide (reduce standard_weights h q g.set)) ∷ []))
        (rw (reduce_fits standard_weights h q g.set narrow)) e

-- the current set of a run isn't too wide
narrow_now : {st : State} → Sound st → is_too_wide (current st) ≡ false
unfolding is_too_wide tab any
narrow_now {st} h = go st.count refl
  where
    go : (n : ℕ) → st.count ≡ n → is_too_wide (current st) ≡ false
    go zero e = ap (λ o. is_too_wide (Option.get_or o no_set)) (h.not_yet e)
    go (suc n) e = (holds h (omega arith)).narrow

-- the last cause of a reduction doesn't hold, and no other has its number
never_ten : (b : List ℕ) (next : ℕ) (s : Zonotope) (bytes : ℕ) → is_too_wide s ≡ false
    → any (λ c. eqb c.number 10 && c.holds) (of_body (meaning reduction b next s) bytes) ≡ false
unfolding meaning any
never_ten b next s bytes h = rw (reduce_fits standard_weights (term_count_limit b) (generator_count_limit b) s h)

-- in no run, whatever bytes its fields hold, is a reduction refused with 10
pub reduction_never_10 : (fs : List (List ℕ)) (f : List ℕ) → kind_of (tag f) ≡ reduction → refusal (run fs begin) f ≡ some 10 → ⊥
unfolding causes any
reduction_never_10 fs f k e =
    let st = run fs begin in
    not-answered 10 (causes st f)
    (subst (λ x. any (λ c. eqb c.number 10 && c.holds) (of_body (meaning x (body f) st.next (current st)) (length (body f))) ≡ false)
    (sym k) (never_ten (body f) st.next (current st) (length (body f)) (narrow_now (run_sound fs begin_sound)))) e
