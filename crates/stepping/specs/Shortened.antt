-- Finishing forgets terms of zeros: a set whose last terms are such is finished as the same set without them.
use Rattle.std.specs.Prelude.{cond, List, [], ◌∷◌, ◌++◌, map, ◌≡◌, refl, ℕ, ◌≤◌, length, get_or, drop}
use Rattle.std.proofs.Common.{sym, ◌∙◌, ap, ap₂, subst, arith}
use Rattle.rational.specs.Sum.{All, none, more}
use Rattle.model.specs.Set.{Term, Zonotope}
use Rattle.model.specs.Finish.{collect, those, on_terms, collect_terms, drop_zero_terms, drop_zero_generators, fold_high, fold_terms}
use Rattle.model.specs.Finish.{fold_generators}
use Rattle.model.specs.Finish.{drop_unused, finish}
use Rattle.model.proofs.Shape.{Row}
use Rattle.rows.specs.Zero.{nonzero_term}
use Rattle.collect.specs.LeftOut.{Wide, left_out}
use Rattle.raw.specs.Kept.{Zero, Kept}
use Rattle.finish.specs.Wide.{wide_term}
use Rattle.finish.specs.WideStages.{zeros-wide}

-- ---- lists that are joined
All-parts : {A : Type 0} {P : A → Type 0} (k l : List A) → All P (k ++ l) → All P k × All P l
All-parts [] l h = (none, h)
All-parts (x ∷ k) l (more p h) = let r = All-parts k l h in (more p r.0, r.1)

-- a list whose images are two lists is two lists
record Parts {A B : Type 0} (f : A → B) (xs ys : List B) (l : List A) : Type 0 where
  first : List A
  second : List A
  joined : l ≡ first ++ second
  first_is : map f first ≡ xs
  second_is : map f second ≡ ys

parts : {A B : Type 0} (f : A → B) (xs ys : List B) (l : List A) → map f l ≡ xs ++ ys → Parts f xs ys l
parts f [] ys l e = record { first = []; second = l; joined = refl; first_is = refl; second_is = e }
parts f (x ∷ xs) ys [] e = absurd (omega (arith, ap length e))
parts f (x ∷ xs) ys (a ∷ l) e =
    let r = parts f xs ys l (ap (drop 1) e) in record {
      first = a ∷ r.first;
      second = r.second;
      joined = ap (a ∷◌) r.joined;
      first_is = ap₂ ◌∷◌ (ap (λ bs. get_or bs 0 x) e) r.first_is;
      second_is = r.second_is;
    }

-- ---- terms of zeros
those-zero : (ts us : List Term) → All Zero us → those nonzero_term (ts ++ us) ≡ those nonzero_term ts
unfolding those
those-zero [] [] none = refl
those-zero [] (u ∷ us) (more z zs) = rw z (those-zero [] us zs)
those-zero (t ∷ ts) us h = ap (λ (l : List Term). cond (nonzero_term t) (t ∷ l) l) (those-zero ts us h)

collected : (n : ℕ) (ts us : List Term) → All (Wide n) (ts ++ us) → All Zero us
    → those nonzero_term (collect ts) ≡ those nonzero_term (collect (ts ++ us))
collected n ts us w h =
    sym (left_out n ts (All-parts ts us w).0)
    ∙ ap (λ (l : List Term). those nonzero_term (collect l)) (sym (those-zero ts us h))
    ∙ left_out n (ts ++ us) w

-- the set with these terms
abbrev pub with_terms : Zonotope → List Term → Zonotope
with_terms s ts = on_terms (λ _. ts) s

pub finish_shortened : (weights : List ℕ) (h q n : ℕ) (s : Zonotope) (ts us : List Term) → s.terms ≡ ts ++ us → All (Wide n) s.terms
    → All Zero us → finish weights h q (with_terms s ts) ≡ finish weights h q s
unfolding finish collect_terms drop_zero_terms
finish_shortened weights h q n s ts us e w z =
    ap (λ (l : List Term). drop_unused (fold_generators weights q (fold_terms weights h (fold_high (drop_zero_generators (with_terms s l))))))
    (collected n ts us (subst (All (Wide n)) e w) z ∙ ap (λ (l : List Term). those nonzero_term (collect l)) (sym e))

-- ---- from rows that hold all terms but some of zeros
module _ (p n : ℕ) (few : n ≤ 6) (xs l : List Term) (rows : All (Row p n) l) (k : Kept xs (map wide_term l)) where
  pub record Shortened : Type 0 where
    pub terms : List Term
    pub rest : List Term
    pub joined : l ≡ terms ++ rest
    pub held : map wide_term terms ≡ xs
    pub long : All (Row p n) terms
    pub zero : All Zero rest

  narrow-zero : (us : List Term) → All (Row p n) us → All Zero (map wide_term us) → All Zero us
  narrow-zero [] none none = none
  narrow-zero (u ∷ us) (more r rs) (more z zs) =
      more (sym (zeros-wide u.coefficients (omega (arith, r.coefficients-long))) ∙ z) (narrow-zero us rs zs)

  pub shortened : Shortened
  shortened =
      let q = parts wide_term xs k.rest l k.whole in
      let r = All-parts q.first q.second (subst (All (Row p n)) q.joined rows) in record {
        terms = q.first;
        rest = q.second;
        joined = q.joined;
        held = q.first_is;
        long = r.0;
        zero = narrow-zero q.second r.1 (subst (All Zero) (sym q.second_is) k.zero);
      }
