-- Folding any one term or generator keeps every point of a set: one law over parts serves both.
use mathlib.Core.Path.{◌≡◌, refl, sym, ◌∙◌, ap, ap₂}
use mathlib.Core.List.{List, [], ◌∷◌, ◌++◌, map, append_assoc}
use mathlib.Core.Bool.{Bool, true, false}
use Prim.Native.Nat.{ℕ, zero, suc, ◌+◌}
use native.Mathlib.Omega.{arith}
use lib.ListN.{length, get_or, length-append, get_or-map}
use lib.IntN.{ℤ, pos, ◌+ℤ◌}
use Rattle.whole.specs.Half.{half-parts, half_of-zero}
use Rattle.rational.specs.Rational.{ℚ, ◌+ℚ◌, ι, 1ℚ}
use Rattle.rational.proofs.Pinned.{ι-+}
use Rattle.rational.specs.Bounds.{Within}
use Rattle.rational.specs.Near.{Near}
use Rattle.rational.proofs.Near.{near_as}
use Rattle.rational.specs.Sum.{All, none, more}
use Rattle.rational.proofs.Sum.{All-++}
use Rattle.model.specs.Set.{Term, Radii, Zonotope, at, radius_of, with_folded}
use Rattle.model.specs.Finish.{Core, shift, growth, fold_vector, fold_term, fold_generator, with_terms, with_generators}
use Rattle.model.specs.Points.{Vector, Point, InRange}
use Rattle.model.proofs.Vectors.{plus_ℤ-at, plus_ℕ-at}
use Rattle.model.proofs.Radii.{radius_folded}
use Rattle.model.proofs.Parts.{Part, Ranged, term_part, generator_part, term_parts, generator_parts, term_parts-++, generator_parts-++}
use Rattle.model.proofs.Parts.{spread, near_parts, by_parts, fold_near, fold-part, monomial-within, monomial-even}

-- ---- the core, coordinate by coordinate
-- a coefficient 0 moves and widens nothing
pub shift_zero : (b : Bool) → shift b (pos 0) ≡ pos 0
unfolding shift
shift_zero true = half_of-zero
shift_zero false = refl

pub growth-zero : (b : Bool) → growth b (pos 0) ≡ 0
unfolding growth
growth-zero true = omega (arith, half-parts (pos 0))
growth-zero false = refl

pub shift-at : (b : Bool) (v : List ℤ) (i : ℕ) → at (map (shift b) v) i ≡ shift b (at v i)
shift-at b v i = ap (get_or (map (shift b) v) i) (sym (shift_zero b)) ∙ get_or-map (shift b) v i (pos 0)

pub growth-at : (b : Bool) (v : List ℤ) (i : ℕ) → get_or (map (growth b) v) i 0 ≡ growth b (at v i)
growth-at b v i = ap (get_or (map (growth b) v) i) (sym (growth-zero b)) ∙ get_or-map (growth b) v i (pos 0)

module _ (r : Radii) (b : Bool) (v : List ℤ) (c : Core) (i : ℕ) where
  folded_centre : ι (at (fold_vector b v c).centre i) ≡ ι (at c.centre i) +ℚ ι (shift b (at v i))
  unfolding fold_vector
  folded_centre =
      ap ι (plus_ℤ-at c.centre (map (shift b) v) i ∙ ap (at c.centre i +ℤ◌) (shift-at b v i))
      ∙ ι-+ (at c.centre i) (shift b (at v i))

  folded_radius : ι (pos (radius_of (with_folded r (fold_vector b v c).radii) i))
      ≡ ι (pos (radius_of (with_folded r c.radii) i)) +ℚ ι (pos (growth b (at v i)))
  unfolding fold_vector
  folded_radius =
      let before = radius_folded r c.radii i in
      let grown = plus_ℕ-at c.radii (map (growth b) v) i in
      let more = growth-at b v i in
      ap (λ n. ι (pos n)) (radius_folded r (fold_vector b v c).radii i ∙ omega arith)
      ∙ ι-+ (pos (radius_of (with_folded r c.radii) i)) (pos (growth b (at v i)))

-- ---- one part is folded
-- the set with this core and these parts
abbrev with_parts : Zonotope → Core → List Term → List (List ℤ) → Zonotope
with_parts s c ts gs = record {
  dimension = s.dimension;
  identifiers = s.identifiers;
  centre = c.centre;
  terms = ts;
  generators = gs;
  radii = with_folded s.radii c.radii;
}

-- where q is folded and the other parts k and l are left, a point stays a point
part_folded : (s : Zonotope) (c : Core) {ts us : List Term} {gs hs : List (List ℤ)} {α x : Vector} (p : Point (with_parts s c ts gs) α x)
    (q : Part) → Ranged q → (k l : List Part) → term_parts α s.identifiers ts ++ generator_parts gs p.numbers ≡ k ++ (q ∷ l)
    → (bs : List ℚ) → length bs ≡ length hs → All (λ b. Within b 1ℚ) bs → term_parts α s.identifiers us ++ generator_parts hs bs ≡ k ++ l
    → Point (with_parts s (fold_vector q.square q.vector c) us hs) α x
part_folded s c {α = α} {x = x} p q r k l e bs n w f = by_parts bs n w (λ i h.
    let m : Near (x i) (ι (at c.centre i) +ℚ spread (k ++ (q ∷ l)) i) (ι (pos (radius_of (with_folded s.radii c.radii) i))) =
    near_as (near_parts p i h) (ap (λ ps. ι (at c.centre i) +ℚ spread ps i) e) refl in
    near_as (fold-part (ι (at c.centre i)) i k l q (fold_near r i) m)
    (ap₂ (λ z ps. z +ℚ spread ps i) (sym (folded_centre s.radii q.square q.vector c i)) (sym f))
    (sym (folded_radius s.radii q.square q.vector c i)))

-- ---- numbers in [-1,1] cut in two
pub record Cut (n m : ℕ) (bs : List ℚ) : Type 0 where
  pub fore : List ℚ
  pub aft : List ℚ
  pub is : bs ≡ fore ++ aft
  pub fore_length : length fore ≡ n
  pub aft_length : length aft ≡ m
  pub fore_range : All (λ b. Within b 1ℚ) fore
  pub aft_range : All (λ b. Within b 1ℚ) aft

-- after the first n
pub cut : (n m : ℕ) {bs : List ℚ} → All (λ b. Within b 1ℚ) bs → length bs ≡ n + m → Cut n m bs
cut zero m {bs} r l = record {
  fore = [];
  aft = bs;
  is = refl;
  fore_length = refl;
  aft_length = omega (arith, l);
  fore_range = none;
  aft_range = r;
}
cut (suc n) m none l = absurd (omega (arith, l))
cut (suc n) m (more {a = b} {l = bs} h t) l = let c = cut n m t (omega (arith, l)) in record {
  fore = b ∷ c.fore;
  aft = c.aft;
  is = ap (b ∷◌) c.is;
  fore_length = ap suc c.fore_length;
  aft_length = c.aft_length;
  fore_range = more h c.fore_range;
  aft_range = c.aft_range;
}

-- ---- a term, and a generator
module _ (s : Zonotope) {α x : Vector} (w : InRange α) (c : Core) where
  -- a term folded, wherever it stands: a point stays a point
  pub term_folded : (k : List Term) (t : Term) (l : List Term) → Point (with_terms s (record { core = c; kept = k ++ (t ∷ l) })) α x
      → Point (with_terms s (record { core = fold_term t c; kept = k ++ l })) α x
  unfolding term_parts
  term_folded k t l p =
      let ids = s.identifiers in let G = generator_parts s.generators p.numbers in
      let K = term_parts α ids k in let L = term_parts α ids l in
      part_folded s c p (term_part α ids t)
      (record { in_one = monomial-within w ids t.exponents; not_negative = monomial-even α ids t.exponents }) K (L ++ G)
      (ap (◌++ G) (term_parts-++ α ids k (t ∷ l)) ∙ append_assoc K (term_part α ids t ∷ L) G)
      p.numbers p.one_each p.in_range (ap (◌++ G) (term_parts-++ α ids k l) ∙ append_assoc K L G)

  -- and likewise a generator
  pub generator_folded : (k : List (List ℤ)) (g : List ℤ) (l : List (List ℤ))
      → Point (with_generators s (record { core = c; kept = k ++ (g ∷ l) })) α x
      → Point (with_generators s (record { core = fold_generator g c; kept = k ++ l })) α x
  unfolding generator_parts
  generator_folded k g l p =
      let d = cut (length k) (suc (length l)) p.in_range (p.one_each ∙ length-append k (g ∷ l)) in
      go d.fore d.aft d.is d.fore_length d.aft_length d.fore_range d.aft_range
    where
      go : (fore aft : List ℚ) → p.numbers ≡ fore ++ aft → length fore ≡ length k → length aft ≡ suc (length l)
          → All (λ b. Within b 1ℚ) fore → All (λ b. Within b 1ℚ) aft
          → Point (with_generators s (record { core = fold_generator g c; kept = k ++ l })) α x
      go fore [] e n m r t = absurd (omega (arith, m))
      go fore (b ∷ aft) e n m r (more h t) =
          let K = term_parts α s.identifiers s.terms in let A = generator_parts k fore in let B = generator_parts l aft in
          part_folded s c p (generator_part g b) (record { in_one = h; not_negative = λ f. absurd f }) (K ++ A) B
          (ap (λ z. K ++ generator_parts (k ++ (g ∷ l)) z) e ∙ ap (K ++◌) (generator_parts-++ k (g ∷ l) fore (b ∷ aft) n)
          ∙ sym (append_assoc K A (generator_part g b ∷ B)))
          (fore ++ aft) (length-append fore aft ∙ omega (arith, n, m, length-append k l)) (All-++ r t)
          (ap (K ++◌) (generator_parts-++ k l fore aft n) ∙ sym (append_assoc K A B))
