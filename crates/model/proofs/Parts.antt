-- Terms and generators alike, as parts: a vector times a number in [-1,1]. Points of a set by their parts, and what folding one does.
use mathlib.Core.Path.{◌≡◌, refl, sym, ◌∙◌, ap, ap₂, subst}
use mathlib.Core.List.{List, [], ◌∷◌, ◌++◌}
use mathlib.Core.Bool.{Bool, true, false}
use Prim.Native.Nat.{ℕ, ◌<◌}
use native.Mathlib.Omega.{arith}
use lib.Dec.{T}
use lib.ListN.{length}
use lib.IntN.{ℤ, pos, nat_abs, ◌+ℤ◌, ◌-ℤ◌}
use mir.Facts.{and_yes}
use Rattle.whole.specs.AsNaturals.{as_ℕ}
use Rattle.whole.specs.Half.{half, half_size, half-zero, half_end}
use Rattle.whole.specs.Tab.{all}
use Rattle.rational.specs.Rational.{ℚ, ◌+ℚ◌, ◌*ℚ◌, neg_ℚ, ◌-ℚ◌, ι, 0ℚ, 1ℚ, NonNeg, ◌≤ℚ◌}
use Rattle.rational.proofs.Ring.{ring, +ℚ-assoc, +ℚ-zero, +ℚ-neg, zero-+ℚ, one-*ℚ, *ℚ-one, *ℚ-zero, +ℚ-*ℚ}
use Rattle.rational.proofs.Pinned.{ι-+}
use Rattle.rational.proofs.Sign.{NonNeg-*, NonNeg-ι}
use Rattle.rational.proofs.Order.{gap, gap_eq, ≤ℚ-refl, ι-mono}
use Rattle.rational.specs.Bounds.{Within}
use Rattle.rational.proofs.Bounds.{within-+, within-*, within-neg, within_mono, within-NonNeg, within-ι, within-one, within-scaled}
use Rattle.rational.specs.Near.{Near}
use Rattle.rational.proofs.Near.{near_trans, near_as}
use Rattle.rational.specs.Power.{power, even}
use Rattle.rational.proofs.Power.{power-within, power-even, power-+}
use Rattle.rational.specs.Sum.{sum, All, none, more}
use Rattle.rational.proofs.Sum.{sum-++, All-++}
use Rattle.model.specs.Set.{Term, Zonotope, at, radius, plus_ℕ, longer}
use Rattle.model.specs.Finish.{all_even, shift, growth}
use Rattle.model.specs.Points.{Vector, monomial, terms_at, generators_at, value_at, Point, InRange}

-- ---- parts: `square` says that the number is in [0,1]
pub record Part : Type 0 where
  pub vector : List ℤ
  pub times : ℚ
  pub square : Bool

abbrev pub term_part : Vector → List ℕ → Term → Part
term_part α ids t = record { vector = t.coefficients; times = monomial α ids t.exponents; square = all_even t.exponents }

abbrev pub generator_part : List ℤ → ℚ → Part
generator_part g b = record { vector = g; times = b; square = false }

unfoldable pub term_parts : Vector → List ℕ → List Term → List Part
term_parts α ids [] = []
term_parts α ids (t ∷ ts) = term_part α ids t ∷ term_parts α ids ts

unfoldable pub generator_parts : List (List ℤ) → List ℚ → List Part
generator_parts [] bs = []
generator_parts (g ∷ gs) [] = []
generator_parts (g ∷ gs) (b ∷ bs) = generator_part g b ∷ generator_parts gs bs

-- what a part comes to in coordinate i, and a list of parts
abbrev pub comes : ℕ → Part → ℚ
comes i p = ι (at p.vector i) *ℚ p.times

unfoldable pub spread : List Part → ℕ → ℚ
spread ps i = sum (comes i) ps

pub spread-++ : (k l : List Part) (i : ℕ) → spread (k ++ l) i ≡ spread k i +ℚ spread l i
unfolding spread
spread-++ k l i = sum-++ (comes i) k l

pub term_parts-++ : (α : Vector) (ids : List ℕ) (s t : List Term) → term_parts α ids (s ++ t) ≡ term_parts α ids s ++ term_parts α ids t
unfolding term_parts
term_parts-++ α ids [] t = refl
term_parts-++ α ids (x ∷ s) t = ap (term_part α ids x ∷◌) (term_parts-++ α ids s t)

pub generator_parts-++ : (g h : List (List ℤ)) (b c : List ℚ) → length b ≡ length g
    → generator_parts (g ++ h) (b ++ c) ≡ generator_parts g b ++ generator_parts h c
unfolding generator_parts
generator_parts-++ [] h [] c e = refl
generator_parts-++ [] h (x ∷ b) c e = absurd (omega (arith, e))
generator_parts-++ (v ∷ g) h [] c e = absurd (omega (arith, e))
generator_parts-++ (v ∷ g) h (x ∷ b) c e = ap (generator_part v x ∷◌) (generator_parts-++ g h b c (omega (arith, e)))

-- ---- the value of a set by its parts
abbrev pub parts_of : Zonotope → Vector → List ℚ → List Part
parts_of s α bs = term_parts α s.identifiers s.terms ++ generator_parts s.generators bs

pub terms-spread : (α : Vector) (ids : List ℕ) (ts : List Term) (i : ℕ) → terms_at α ids ts i ≡ spread (term_parts α ids ts) i
unfolding terms_at spread term_parts sum
terms-spread α ids [] i = refl
terms-spread α ids (t ∷ ts) i = ap (comes i (term_part α ids t) +ℚ◌) (terms-spread α ids ts i)

pub generators_spread : (gs : List (List ℤ)) (bs : List ℚ) (i : ℕ) → generators_at gs bs i ≡ spread (generator_parts gs bs) i
unfolding generators_at spread generator_parts sum
generators_spread [] bs i = refl
generators_spread (g ∷ gs) [] i = refl
generators_spread (g ∷ gs) (b ∷ bs) i = ap (comes i (generator_part g b) +ℚ◌) (generators_spread gs bs i)

pub value-parts : (s : Zonotope) (α : Vector) (bs : List ℚ) (i : ℕ) → value_at s α bs i ≡ ι (at s.centre i) +ℚ spread (parts_of s α bs) i
unfolding value_at
value-parts s α bs i =
    +ℚ-assoc _ _ _
    ∙ ap (ι (at s.centre i) +ℚ◌) (ap₂ ◌+ℚ◌ (terms-spread α s.identifiers s.terms i) (generators_spread s.generators bs i)
    ∙ sym (spread-++ (term_parts α s.identifiers s.terms) (generator_parts s.generators bs) i))

-- a point, by its parts
pub near_parts : {s : Zonotope} {α x : Vector} (p : Point s α x) (i : ℕ) → i < s.dimension
    → Near (x i) (ι (at s.centre i) +ℚ spread (parts_of s α p.numbers) i) (ι (pos (radius s i)))
near_parts {s} {α} p i h = near_as (p.near i h) (value-parts s α p.numbers i) refl

pub by_parts : {s : Zonotope} {α x : Vector} (bs : List ℚ) → length bs ≡ length s.generators → All (λ b. Within b 1ℚ) bs
    → ((i : ℕ) → i < s.dimension → Near (x i) (ι (at s.centre i) +ℚ spread (parts_of s α bs) i) (ι (pos (radius s i)))) → Point s α x
by_parts {s} {α} bs e r n = record {
  numbers = bs;
  one_each = e;
  in_range = r;
  near =
      λ i h. near_as (n i h) (sym (value-parts s α bs i)) refl;
}

-- ---- monomials
pub monomial-within : {α : Vector} → InRange α → (ks es : List ℕ) → Within (monomial α ks es) 1ℚ
unfolding monomial
monomial-within w [] es = within-one
monomial-within w (k ∷ ks) [] = within-one
monomial-within w (k ∷ ks) (e ∷ es) = within-scaled (power-within (w k) e) (monomial-within w ks es)

pub monomial-even : (α : Vector) (ks es : List ℕ) → T (all_even es) → NonNeg (monomial α ks es)
unfolding monomial all
monomial-even α [] es t = NonNeg-ι 1
monomial-even α (k ∷ ks) [] t = NonNeg-ι 1
monomial-even α (k ∷ ks) (e ∷ es) t =
    NonNeg-* (power-even (α k) e (and_yes (even e) (all_even es) t).0) (monomial-even α ks es (and_yes (even e) (all_even es) t).1)

-- exponents add where monomials multiply
pub monomial-+ : (α : Vector) (ks es fs : List ℕ) → monomial α ks (plus_ℕ es fs) ≡ monomial α ks es *ℚ monomial α ks fs
unfolding monomial longer
monomial-+ α [] es fs = sym (*ℚ-one 1ℚ)
monomial-+ α (k ∷ ks) [] fs = sym (one-*ℚ (monomial α (k ∷ ks) fs))
monomial-+ α (k ∷ ks) (e ∷ es) [] = sym (*ℚ-one (power (α k) e *ℚ monomial α ks es))
monomial-+ α (k ∷ ks) (e ∷ es) (f ∷ fs) =
    ap₂ ◌*ℚ◌ (power-+ (α k) e f) (monomial-+ α ks es fs) ∙ regroup (power (α k) e) (power (α k) f) (monomial α ks es) (monomial α ks fs)
  where
    regroup : (a b c d : ℚ) → a *ℚ b *ℚ (c *ℚ d) ≡ a *ℚ c *ℚ (b *ℚ d)
    regroup a b c d = simp ring

-- ---- parts in range
pub record Ranged (p : Part) : Type 0 where
  pub in_one : Within p.times 1ℚ
  pub not_negative : T p.square → NonNeg p.times

pub terms-ranged : {α : Vector} → InRange α → (ids : List ℕ) (ts : List Term) → All Ranged (term_parts α ids ts)
unfolding term_parts
terms-ranged w ids [] = none
terms-ranged {α} w ids (t ∷ ts) =
    more (record { in_one = monomial-within w ids t.exponents; not_negative = monomial-even α ids t.exponents })
    (terms-ranged w ids ts)

pub generators_ranged : (gs : List (List ℤ)) {bs : List ℚ} → All (λ b. Within b 1ℚ) bs → All Ranged (generator_parts gs bs)
unfolding generator_parts
generators_ranged [] h = none
generators_ranged (g ∷ gs) none = none
generators_ranged (g ∷ gs) (more h t) = more (record { in_one = h; not_negative = λ f. absurd f }) (generators_ranged gs t)

pub parts-ranged : {s : Zonotope} {α x : Vector} → InRange α → (p : Point s α x) → All Ranged (parts_of s α p.numbers)
parts-ranged {s} w p = All-++ (terms-ranged w s.identifiers s.terms) (generators_ranged s.generators p.in_range)

-- ---- folding a part, at one coordinate
-- μ·a + ν·b with μ + ν = 1 is no larger than a and b
pub convex : {a b r μ ν : ℚ} → Within a r → Within b r → NonNeg μ → NonNeg ν → μ +ℚ ν ≡ 1ℚ → Within (μ *ℚ a +ℚ ν *ℚ b) r
convex {a} {b} {r} {μ} {ν} wa wb nμ nν e =
    subst (Within (μ *ℚ a +ℚ ν *ℚ b)) (sym (+ℚ-*ℚ μ ν r) ∙ ap (◌*ℚ r) e ∙ one-*ℚ r)
    (within-+ (within-* (within-NonNeg nμ (≤ℚ-refl μ)) wa) (within-* (within-NonNeg nν (≤ℚ-refl ν)) wb))

-- for a number in [0,1] g comes within its half size of its half, being the half plus the mean of what is left of g and minus the half
fold-even : (g : ℤ) {μ : ℚ} → NonNeg μ → μ ≤ℚ 1ℚ → Near (ι g *ℚ μ) (ι (half g)) (ι (pos (half_size g)))
fold-even g {μ} n le =
    let F = ι (half g) in let A = ι (g -ℤ half g) in let ν = 1ℚ -ℚ μ in
    let one : μ +ℚ ν ≡ 1ℚ = gap_eq μ 1ℚ in
    let whole : ι g ≡ F +ℚ A = ap ι (rest g (half g)) ∙ ι-+ (half g) (g -ℤ half g) in
    let split : (F +ℚ A) *ℚ μ +ℚ ν *ℚ (F +ℚ neg_ℚ F) ≡ F *ℚ (μ +ℚ ν) +ℚ (μ *ℚ A +ℚ ν *ℚ neg_ℚ F) = simp ring in
    record {
      off = μ *ℚ A +ℚ ν *ℚ neg_ℚ F;
      small = convex (within_mono (within-ι (g -ℤ half g)) (ι-mono (half_end g)))
          (within-neg (within_mono (within-ι (half g)) (ι-mono (half-zero g)))) n (gap le) one;
      is = ap (◌*ℚ μ) whole ∙ sym (+ℚ-zero ((F +ℚ A) *ℚ μ)) ∙ ap (((F +ℚ A) *ℚ μ) +ℚ◌) (sym (*ℚ-zero ν) ∙ ap (ν *ℚ◌) (sym (+ℚ-neg F)))
          ∙ split ∙ ap (λ z. F *ℚ z +ℚ (μ *ℚ A +ℚ ν *ℚ neg_ℚ F)) one ∙ ap (◌+ℚ (μ *ℚ A +ℚ ν *ℚ neg_ℚ F)) (*ℚ-one F);
    }
  where
    rest : (g f : ℤ) → g ≡ f +ℤ (g -ℤ f)
    rest g f = simp as_ℕ (omega arith)

fold-any : (g : ℤ) {μ : ℚ} → Within μ 1ℚ → Near (ι g *ℚ μ) 0ℚ (ι (pos (nat_abs g)))
fold-any g {μ} w = record { off = ι g *ℚ μ; small = within-scaled (within-ι g) w; is = sym (zero-+ℚ (ι g *ℚ μ)) }

fold_by : (b : Bool) (g : ℤ) {μ : ℚ} → Within μ 1ℚ → (T b → NonNeg μ) → Near (ι g *ℚ μ) (ι (shift b g)) (ι (pos (growth b g)))
unfolding shift growth
fold_by true g w n = fold-even g (n tt) w.hi
fold_by false g w n = fold-any g w

-- what a part comes to is near its shift, by its growth
pub fold_near : {p : Part} → Ranged p → (i : ℕ)
    → Near (comes i p) (ι (shift p.square (at p.vector i))) (ι (pos (growth p.square (at p.vector i))))
fold_near {p} r i = fold_by p.square (at p.vector i) r.in_one r.not_negative

-- one part of a list is folded: what it comes to moves to the centre and the radius
pub fold-part : {x r f h : ℚ} (c : ℚ) (i : ℕ) (k l : List Part) (p : Part) → Near (comes i p) f h
    → Near x (c +ℚ spread (k ++ (p ∷ l)) i) r → Near x (c +ℚ f +ℚ spread (k ++ l) i) (r +ℚ h)
unfolding spread sum
fold-part {x} {r} {f} {h} c i k l p n m =
    let K = spread k i in let L = spread l i in
    let e : c +ℚ (K +ℚ ((f +ℚ n.off) +ℚ L)) ≡ c +ℚ f +ℚ (K +ℚ L) +ℚ n.off = simp ring in
    near_trans m (record {
      off = n.off;
      small = n.small;
      is = ap (c +ℚ◌) (spread-++ k (p ∷ l) i) ∙ ap (λ z. c +ℚ (K +ℚ (z +ℚ L))) n.is ∙ e
          ∙ ap (λ z. c +ℚ f +ℚ z +ℚ n.off) (sym (spread-++ k l i));
    })
