-- The ends of a linear function over a set enclose its value at every point.
use mathlib.Core.Path.{◌≡◌, refl, sym, ◌∙◌, ap, ap₂, subst, subst₂, fun_ext}
use mathlib.Core.List.{List, [], ◌∷◌}
use mathlib.Core.Bool.{Bool, true, false}
use Prim.Native.Nat.{ℕ, zero, suc, ◌+◌}
use native.Mathlib.Omega.{arith}
use lib.Dec.{T}
use lib.IntN.{ℤ, pos, negsuc, neg_ℤ, nat_abs, ◌+ℤ◌, ◌-ℤ◌}
use Rattle.whole.specs.AsNaturals.{as_ℕ}
use Rattle.whole.specs.Size.{abs_neg}
use Rattle.whole.specs.Sum.{sum_by, sum_ℕ, sum_ℤ}
use Rattle.rational.specs.Rational.{ℚ, ◌+ℚ◌, ◌*ℚ◌, neg_ℚ, ι, 0ℚ, 1ℚ, NonNeg, ◌≤ℚ◌}
use Rattle.rational.proofs.Ring.{+ℚ-assoc, *ℚ-one, neg_ℚ-+, neg_ℚ-*, neg_ℚ-neg_ℚ}
use Rattle.rational.proofs.Pinned.{ι-+, ι-neg}
use Rattle.rational.proofs.Sign.{NonNeg-*, NonNeg-ι}
use Rattle.rational.proofs.Order.{NonNeg-≤, ≤ℚ-refl, ≤ℚ-+, ≤ℚ-*, ≤ℚ-neg}
use Rattle.rational.specs.Bounds.{Within}
use Rattle.rational.proofs.Bounds.{within-+, within-NonNeg, within-scaled, within-ι}
use Rattle.rational.specs.Near.{Near}
use Rattle.rational.proofs.Near.{near_neg, near_as}
use Rattle.rational.specs.Sum.{sum, All, none, more}
use Rattle.rational.proofs.Sum.{sum-++}
use Rattle.model.specs.Set.{Term, Zonotope}
use Rattle.model.specs.Finish.{all_even}
use Rattle.model.specs.Operations.{least, greatest, low_end, high_end}
use Rattle.model.specs.Points.{Vector, Point, InRange}
use Rattle.model.proofs.Parts.{Part, term_parts, generator_parts, parts_of, monomial-within, monomial-even}

-- ---- one coefficient
-- the least that g comes to at a number in [-1,1], in [0,1] for an even monomial
least-below : (b : Bool) (g : ℤ) {μ : ℚ} → Within μ 1ℚ → (T b → NonNeg μ) → ι (least b g) ≤ℚ ι g *ℚ μ
unfolding least
least-below true (pos n) w f = NonNeg-≤ (NonNeg-* (NonNeg-ι n) (f tt))
least-below true (negsuc n) {μ} w f =
    let m = ι (pos (suc n)) in
    subst₂ ◌≤ℚ◌ (ap neg_ℚ (*ℚ-one m) ∙ sym (ι-neg (pos (suc n)))) (sym (neg_ℚ-* m μ) ∙ ap (◌*ℚ μ) (sym (ι-neg (pos (suc n)))))
    (≤ℚ-neg (≤ℚ-* (NonNeg-ι (suc n)) w.hi))
least-below false g {μ} w f = subst (◌≤ℚ ι g *ℚ μ) (sym (ι-neg (pos (nat_abs g)))) (within-scaled (within-ι g) w).lo

-- ---- the lower end
module _ (value : List ℤ → ℤ) where
  -- what parts come to under the function
  abbrev pub total : List Part → ℚ
  total ps = sum (λ p. ι (value p.vector) *ℚ p.times) ps

  terms-low : {α : Vector} → InRange α → (ids : List ℕ) (ts : List Term)
      → ι (sum_ℤ (λ t. least (all_even t.exponents) (value t.coefficients)) ts) ≤ℚ total (term_parts α ids ts)
  unfolding term_parts sum sum_by
  terms-low w ids [] = ≤ℚ-refl 0ℚ
  terms-low {α} w ids (t ∷ ts) =
      subst (◌≤ℚ total (term_parts α ids (t ∷ ts))) (sym (ι-+ (least (all_even t.exponents) (value t.coefficients)) _))
      (≤ℚ-+ (least-below (all_even t.exponents) (value t.coefficients) (monomial-within w ids t.exponents)
      (monomial-even α ids t.exponents)) (terms-low w ids ts))

  pub generators_within : (gs : List (List ℤ)) {bs : List ℚ} → All (λ b. Within b 1ℚ) bs
      → Within (total (generator_parts gs bs)) (ι (pos (sum_ℕ (λ g. nat_abs (value g)) gs)))
  unfolding generator_parts sum sum_by
  generators_within [] h = within-NonNeg (NonNeg-ι 0) (≤ℚ-refl 0ℚ)
  generators_within (g ∷ gs) none = within-NonNeg (NonNeg-ι 0) (NonNeg-≤ (NonNeg-ι _))
  generators_within (g ∷ gs) (more {a = b} {l = bs} h t) =
      subst (Within (total (generator_parts (g ∷ gs) (b ∷ bs)))) (sym (ι-+ (pos (nat_abs (value g))) (pos (sum_ℕ (λ g. nat_abs (value g)) gs))))
      (within-+ (within-scaled (within-ι (value g)) h) (generators_within gs t))

  pub low_holds : (wide : ℕ) {s : Zonotope} {α x : Vector} {y : ℚ} → InRange α → (p : Point s α x)
      → Near y (ι (value s.centre) +ℚ total (parts_of s α p.numbers)) (ι (pos wide)) → ι (low_end value wide s) ≤ℚ y
  unfolding low_end
  low_holds wide {s} {α} {x} {y} w p n =
      let c = value s.centre in
      let t = sum_ℤ (λ t. least (all_even t.exponents) (value t.coefficients)) s.terms in
      let g = sum_ℕ (λ g. nat_abs (value g)) s.generators in
      let T = total (term_parts α s.identifiers s.terms) in
      let G = total (generator_parts s.generators p.numbers) in
      let split : y ≡ ι c +ℚ T +ℚ (G +ℚ n.off) =
      n.is ∙ ap (λ z. ι c +ℚ z +ℚ n.off) (sum-++ (λ p. ι (value p.vector) *ℚ p.times) (term_parts α s.identifiers s.terms) _)
      ∙ ap (◌+ℚ n.off) (sym (+ℚ-assoc (ι c) T G)) ∙ +ℚ-assoc (ι c +ℚ T) G n.off in
      let low : ι (c +ℤ t -ℤ pos (g + wide)) ≡ ι c +ℚ ι t +ℚ (neg_ℚ (ι (pos g)) +ℚ neg_ℚ (ι (pos wide))) =
      ι-+ (c +ℤ t) (neg_ℤ (pos (g + wide)))
      ∙ ap₂ ◌+ℚ◌ (ι-+ c t) (ι-neg (pos (g + wide)) ∙ ap neg_ℚ (ι-+ (pos g) (pos wide)) ∙ neg_ℚ-+ (ι (pos g)) (ι (pos wide))) in
      subst₂ ◌≤ℚ◌ (sym low) (sym split)
      (≤ℚ-+ (≤ℚ-+ (≤ℚ-refl (ι c)) (terms-low w s.identifiers s.terms))
      (≤ℚ-+ (generators_within s.generators p.in_range).lo n.small.lo))

-- ---- the upper end is the lower end of the opposite function, turned
sum-neg : {A : Type 0} (f : A → ℤ) (l : List A) → sum_ℤ (λ a. neg_ℤ (f a)) l ≡ neg_ℤ (sum_ℤ f l)
unfolding sum_by
sum-neg f [] = refl
sum-neg f (a ∷ l) = rw (sum-neg f l) (simp as_ℕ (omega arith))

greatest-least : (b : Bool) (g : ℤ) → greatest b g ≡ neg_ℤ (least b (neg_ℤ g))
unfolding least greatest
greatest-least true (pos zero) = refl
greatest-least true (pos (suc n)) = refl
greatest-least true (negsuc n) = refl
greatest-least false g = rw (abs_neg g) (simp as_ℕ (omega arith))

high-low : (value : List ℤ → ℤ) (wide : ℕ) (s : Zonotope) → high_end value wide s ≡ neg_ℤ (low_end (λ v. neg_ℤ (value v)) wide s)
unfolding high_end low_end
high-low value wide s =
    ap₂ (λ t m. value s.centre +ℤ t +ℤ pos (m + wide))
    (ap (λ (f : Term → ℤ). sum_ℤ f s.terms) (fun_ext λ t. greatest-least (all_even t.exponents) (value t.coefficients))
    ∙ sum-neg (λ t. least (all_even t.exponents) (neg_ℤ (value t.coefficients))) s.terms)
    (ap (λ (f : List ℤ → ℕ). sum_ℕ f s.generators) (fun_ext λ g. sym (abs_neg (value g))))
    ∙ turn (value s.centre) _ _
  where
    turn : (c t : ℤ) (m : ℕ) → c +ℤ neg_ℤ t +ℤ pos m ≡ neg_ℤ (neg_ℤ c +ℤ t -ℤ pos m)
    turn c t m = simp as_ℕ (omega arith)

total-neg : (value : List ℤ → ℤ) (ps : List Part) → total (λ v. neg_ℤ (value v)) ps ≡ neg_ℚ (total value ps)
unfolding sum
total-neg value [] = ι-neg (pos 0)
total-neg value (p ∷ ps) =
    ap₂ ◌+ℚ◌ (ap (◌*ℚ p.times) (ι-neg (value p.vector)) ∙ neg_ℚ-* (ι (value p.vector)) p.times) (total-neg value ps)
    ∙ sym (neg_ℚ-+ (ι (value p.vector) *ℚ p.times) (total value ps))

pub high_holds : (value : List ℤ → ℤ) (wide : ℕ) {s : Zonotope} {α x : Vector} {y : ℚ} → InRange α → (p : Point s α x)
    → Near y (ι (value s.centre) +ℚ total value (parts_of s α p.numbers)) (ι (pos wide)) → y ≤ℚ ι (high_end value wide s)
high_holds value wide {s} {α} {x} {y} w p n =
    let opposite = near_as (near_neg n)
    (neg_ℚ-+ _ _ ∙ ap₂ ◌+ℚ◌ (sym (ι-neg (value s.centre))) (sym (total-neg value (parts_of s α p.numbers)))) refl in
    subst₂ ◌≤ℚ◌ (neg_ℚ-neg_ℚ y) (sym (ι-neg (low_end (λ v. neg_ℤ (value v)) wide s)) ∙ ap ι (sym (high-low value wide s)))
    (≤ℚ-neg (low_holds (λ v. neg_ℤ (value v)) wide w p opposite))
