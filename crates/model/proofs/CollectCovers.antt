-- Adding terms with equal exponents and dropping terms of zeros leave the points of a set as they are.
use mathlib.Core.Path.{◌≡◌, refl, sym, ◌∙◌, ap}
use mathlib.Core.List.{List, [], ◌∷◌}
use mathlib.Core.Bool.{Bool, not}
use Prim.Native.Nat.{ℕ, zero, suc}
use native.Mathlib.Omega.{arith}
use lib.Dec.{T, eqb→eq}
use lib.IntN.{ℤ, pos, negsuc}
use mir.Facts.{and_yes, T_not-not}
use Rattle.whole.specs.Tab.{all}
use Rattle.rational.specs.Rational.{ℚ, ◌+ℚ◌, ◌*ℚ◌, ι, 0ℚ}
use Rattle.rational.proofs.Ring.{ring, +ℚ-assoc, +ℚ-zero, +ℚ-comm, zero-+ℚ, zero-*ℚ, +ℚ-left}
use Rattle.rational.proofs.Pinned.{ι-+}
use Rattle.rational.specs.Sum.{sum}
use Rattle.model.specs.Set.{Term, Zonotope, at}
use Rattle.model.specs.Valid.{Order, less, equal, greater, order, zeros, is_zero}
use Rattle.model.specs.Finish.{insert, plus_term, collect_into, collect, those, collect_terms, drop_zero_terms}
use Rattle.model.specs.Points.{Vector, monomial, terms_at}
use Rattle.model.proofs.Vectors.{plus_ℤ-at}
use Rattle.model.proofs.Order.{order-equal}
use Rattle.model.proofs.Collect.{ins_less, ins_equal, ins_greater, ins_none}
use Rattle.model.proofs.Choice.{by_test}
use Rattle.model.proofs.Alike.{Alike, alike_factors}

-- ---- what terms come to in coordinate i
module _ (α : Vector) (ids : List ℕ) (i : ℕ) where
  unfoldable worth : Term → ℚ
  worth t = ι (at t.coefficients i) *ℚ monomial α ids t.exponents

  terms-worth : (ts : List Term) → terms_at α ids ts i ≡ sum worth ts
  unfolding terms_at worth
  terms-worth ts = refl

  -- terms with equal exponents add
  added_worth : (t u : Term) → t.exponents ≡ u.exponents → worth (plus_term u t) ≡ worth t +ℚ worth u
  unfolding worth
  added_worth t u e =
      let m = monomial α ids u.exponents in let a = ι (at t.coefficients i) in let b = ι (at u.coefficients i) in
      let turn : (b +ℚ a) *ℚ m ≡ a *ℚ m +ℚ b *ℚ m = simp ring in
      ap (λ z. ι z *ℚ m) (plus_ℤ-at u.coefficients t.coefficients i)
      ∙ ap (◌*ℚ m) (ι-+ (at u.coefficients i) (at t.coefficients i)) ∙ turn
      ∙ ap (λ es. a *ℚ monomial α ids es +ℚ b *ℚ m) (sym e)

  insert-worth : (t : Term) (us : List Term) → sum worth (insert t us) ≡ worth t +ℚ sum worth us
  unfolding sum
  insert-worth t [] = ap (sum worth) (ins_none t)
  insert-worth t (u ∷ us) = go (insert-worth t us) (order t.exponents u.exponents) refl where
    go : sum worth (insert t us) ≡ worth t +ℚ sum worth us → (o : Order) → order t.exponents u.exponents ≡ o
        → sum worth (insert t (u ∷ us)) ≡ worth t +ℚ sum worth (u ∷ us)
    go ih less e = ap (sum worth) (ins_less t u us e)
    go ih equal e = ap (sum worth) (ins_equal t u us e)
        ∙ ap (◌+ℚ sum worth us) (added_worth t u (order-equal t.exponents u.exponents e))
        ∙ +ℚ-assoc (worth t) (worth u) (sum worth us)
    go ih greater e = ap (sum worth) (ins_greater t u us e) ∙ ap (worth u +ℚ◌) ih ∙ +ℚ-left (worth u) (worth t) (sum worth us)

  collect-worth : (acc ts : List Term) → sum worth (collect_into acc ts) ≡ sum worth acc +ℚ sum worth ts
  unfolding collect_into sum
  collect-worth acc [] = sym (+ℚ-zero (sum worth acc))
  collect-worth acc (t ∷ ts) = collect-worth (insert t acc) ts
      ∙ ap (◌+ℚ sum worth ts) (insert-worth t acc ∙ +ℚ-comm (worth t) (sum worth acc)) ∙ +ℚ-assoc (sum worth acc) (worth t) (sum worth ts)

-- stage 1: the points stay
pub collect_alike : (s : Zonotope) → Alike s (collect_terms s)
unfolding collect_terms sum
collect_alike s = alike_factors s s.identifiers (collect s.terms) (λ α i.
    let w = worth α s.identifiers i in
    terms-worth α s.identifiers i s.terms ∙ sym (zero-+ℚ (sum w s.terms))
    ∙ sym (collect-worth α s.identifiers i [] s.terms) ∙ sym (terms-worth α s.identifiers i (collect s.terms)))

-- ---- zeros
-- what is left out doesn't count in a sum where it comes to 0
sum-those : {A : Type 0} (p : A → Bool) (f : A → ℚ) → ((a : A) → T (not (p a)) → f a ≡ 0ℚ) → (l : List A) → sum f (those p l) ≡ sum f l
unfolding those sum
sum-those p f h [] = refl
sum-those p f h (a ∷ l) = by_test (λ k. sum f k ≡ f a +ℚ sum f l) (p a) (λ _. ap (f a +ℚ◌) (sum-those p f h l))
    (λ n. sum-those p f h l ∙ sym (zero-+ℚ (sum f l)) ∙ ap (◌+ℚ sum f l) (sym (h a n)))

is-zero : (z : ℤ) → T (is_zero z) → z ≡ pos 0
is-zero (pos n) t = ap pos (eqb→eq n 0 t)
is-zero (negsuc n) t = absurd (omega (arith, eqb→eq (suc n) 0 t))

zeros-at : (v : List ℤ) → T (zeros v) → (i : ℕ) → at v i ≡ pos 0
unfolding all
zeros-at [] t i = refl
zeros-at (z ∷ v) t zero = is-zero z (and_yes (is_zero z) (zeros v) t).0
zeros-at (z ∷ v) t (suc i) = zeros-at v (and_yes (is_zero z) (zeros v) t).1 i

-- a vector of zeros comes to 0, whatever it is multiplied by
pub zeros_times : (v : List ℤ) (m : ℚ) → T (not (not (zeros v))) → (i : ℕ) → ι (at v i) *ℚ m ≡ 0ℚ
zeros_times v m t i = ap (λ z. ι z *ℚ m) (zeros-at v (T_not-not (zeros v) t) i) ∙ zero-*ℚ m

-- stage 2, terms: the points stay
pub zero-terms_alike : (s : Zonotope) → Alike s (drop_zero_terms s)
unfolding drop_zero_terms terms_at worth
zero-terms_alike s =
    let p : Term → Bool = λ t. not (zeros t.coefficients) in
    alike_factors s s.identifiers (those p s.terms) (λ α i. sym (sum-those p (worth α s.identifiers i)
    (λ t n. zeros_times t.coefficients (monomial α s.identifiers t.exponents) n i) s.terms))
