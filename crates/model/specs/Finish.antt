-- Finishing: every operation's result goes through these stages, in this order.
use Rattle.std.specs.Prelude.{List, [], ◌∷◌, map, Bool, true, false, not, cond, ℕ, zero, suc, ◌+◌, ◌*◌, ◌-◌, ltb, leb, length, ℤ, pos, nat_abs}
use Rattle.whole.specs.Half.{half, half_size}
use Rattle.whole.specs.Tab.{any, all}
use Rattle.rational.specs.Power.{even}
use Rattle.model.specs.Limits.{max_exponent}
use Rattle.model.specs.Set.{Term, Zonotope, plus_ℤ, plus_ℕ, with_folded, with}
use Rattle.model.specs.Valid.{Order, less, equal, greater, order, zeros, occurs}

-- ---- collecting: each term in turn goes to its place in a list that rises, or is added where its exponents stand already
abbrev pub by_order : {A : Type 0} → Order → A → A → A → A
by_order less a b c = a
by_order equal a b c = b
by_order greater a b c = c

abbrev pub plus_term : Term → Term → Term
plus_term u t = record { exponents = u.exponents; coefficients = plus_ℤ u.coefficients t.coefficients }

unfoldable pub insert : Term → List Term → List Term
insert t [] = t ∷ []
insert t (u ∷ us) = by_order (order t.exponents u.exponents) (t ∷ (u ∷ us)) (plus_term u t ∷ us) (u ∷ insert t us)

unfoldable pub collect_into : List Term → List Term → List Term
collect_into acc [] = acc
collect_into acc (t ∷ ts) = collect_into (insert t acc) ts

abbrev pub collect : List Term → List Term
collect ts = collect_into [] ts

-- those of a list that pass a test
unfoldable pub those : {A : Type 0} → (A → Bool) → List A → List A
those p [] = []
those p (a ∷ l) = cond (p a) (a ∷ those p l) (those p l)

-- ---- folding: a term or a generator leaves the set, and the centre and radii make up for it; of the radii, the folded parts
pub record Core : Type 0 where
  pub centre : List ℤ
  pub radii : List ℕ

-- whether a monomial is never negative: all its exponents are even (α1·α2 isn't, though its degree is)
abbrev pub all_even : List ℕ → Bool
all_even e = all even e

-- how far the centre moves and the radius grows for a coefficient g of a monomial that is even or not
unfoldable pub shift : Bool → ℤ → ℤ
shift true g = half g
shift false g = pos 0

unfoldable pub growth : Bool → ℤ → ℕ
growth true g = half_size g
growth false g = nat_abs g

unfoldable pub fold_vector : Bool → List ℤ → Core → Core
fold_vector b v k = record { centre = plus_ℤ k.centre (map (shift b) v); radii = plus_ℕ k.radii (map (growth b) v) }

abbrev pub fold_term : Term → Core → Core
fold_term t k = fold_vector (all_even t.exponents) t.coefficients k

abbrev pub fold_generator : List ℤ → Core → Core
fold_generator g k = fold_vector false g k

unfoldable pub fold_all : {A : Type 0} → (A → Core → Core) → List A → Core → Core
fold_all fold [] k = k
fold_all fold (a ∷ l) k = fold_all fold l (fold a k)

-- what is left of a list of terms or generators after folding, with the core
pub record Folded (A : Type 0) : Type 0 where
  pub core : Core
  pub kept : List A

-- whether an exponent is too large
abbrev pub too_high : Term → Bool
too_high t = any (λ e. ltb max_exponent e) t.exponents

-- ---- the smallest first, of equals the later
-- the size of a vector: the sum of weight times |number|, by place
unfoldable pub size : List ℕ → List ℤ → ℕ
size [] v = 0
size (w ∷ ws) [] = 0
size (w ∷ ws) (g ∷ v) = w * nat_abs g + size ws v

pub record Taken (A : Type 0) : Type 0 where
  pub out : A
  pub rest : List A

-- of a and what was taken from l, the smaller; of equals what was taken, which stands later
abbrev pub smaller : {A : Type 0} → (A → ℕ) → A → List A → Taken A → Taken A
smaller f a l t = cond (leb (f t.out) (f a)) (record { out = t.out; rest = a ∷ t.rest }) (record { out = a; rest = l })

-- the smallest of a ∷ l, of equals the last, and the others
unfoldable pub smallest : {A : Type 0} → (A → ℕ) → A → List A → Taken A
smallest f a [] = record { out = a; rest = [] }
smallest f a (b ∷ l) = smaller f a (b ∷ l) (smallest f b l)

-- folds the smallest of a list
unfoldable pub fold_smallest : {A : Type 0} → (A → ℕ) → (A → Core → Core) → Core → List A → Folded A
fold_smallest f fold k [] = record { core = k; kept = [] }
fold_smallest f fold k (a ∷ l) = record { core = fold (smallest f a l).out k; kept = (smallest f a l).rest }

-- folds the smallest n times
unfoldable pub fold_times : {A : Type 0} → (A → ℕ) → (A → Core → Core) → ℕ → Core → List A → Folded A
fold_times f fold zero k l = record { core = k; kept = l }
fold_times f fold (suc n) k l = fold_times f fold n (fold_smallest f fold k l).core (fold_smallest f fold k l).kept

-- folds the smallest, of equals the later, one at a time, until `limit` are left; a list that is no longer stays as it is
abbrev pub fold_until : {A : Type 0} → (A → ℕ) → (A → Core → Core) → ℕ → Core → List A → Folded A
fold_until f fold limit k l = fold_times f fold (length l - limit) k l

-- ---- unused factors
-- of x ∷ xs, which stand at places j, j + 1 .., those whose places pass the test
unfoldable pub keep_at : (ℕ → Bool) → ℕ → List ℕ → List ℕ
keep_at p j [] = []
keep_at p j (x ∷ xs) = cond (p j) (x ∷ keep_at p (j + 1) xs) (keep_at p (j + 1) xs)

abbrev pub keep_exponents : (ℕ → Bool) → Term → Term
keep_exponents p t = record { exponents = keep_at p 0 t.exponents; coefficients = t.coefficients }

-- ---- the stages, in document 01's order
-- what folding changes of a set: its centre and the folded parts of its radii
abbrev pub core : Zonotope → Core
core s = record { centre = s.centre; radii = s.radii.folded }

-- the set after some of its terms, or of its generators, were folded
abbrev pub with_terms : Zonotope → Folded Term → Zonotope
with_terms s f = with s f.core.centre f.kept s.generators (with_folded s.radii f.core.radii)

abbrev pub with_generators : Zonotope → Folded (List ℤ) → Zonotope
with_generators s f = with s f.core.centre s.terms f.kept (with_folded s.radii f.core.radii)

-- other terms, and all else as it is
abbrev pub on_terms : (List Term → List Term) → Zonotope → Zonotope
on_terms f s = with s s.centre (f s.terms) s.generators s.radii

-- 1. terms are sorted by exponents and equal ones added
unfoldable pub collect_terms : Zonotope → Zonotope
collect_terms s = on_terms collect s

-- 2. all-zero terms and generators are dropped
unfoldable pub drop_zero_terms : Zonotope → Zonotope
drop_zero_terms s = on_terms (those (λ t. not (zeros t.coefficients))) s

unfoldable pub drop_zero_generators : Zonotope → Zonotope
drop_zero_generators s = with s s.centre s.terms (those (λ g. not (zeros g)) s.generators) s.radii

-- 3. terms with an exponent that is too large are folded
unfoldable pub fold_high : Zonotope → Zonotope
fold_high s = with_terms s (record { core = fold_all fold_term (those too_high s.terms) (core s); kept = those (λ t. not (too_high t)) s.terms })

-- 4. the smallest terms are folded until a limit is met, and then the smallest generators
unfoldable pub fold_terms : List ℕ → ℕ → Zonotope → Zonotope
fold_terms weights limit s = with_terms s (fold_until (λ t. size weights t.coefficients) fold_term limit (core s) s.terms)

unfoldable pub fold_generators : List ℕ → ℕ → Zonotope → Zonotope
fold_generators weights limit s = with_generators s (fold_until (size weights) fold_generator limit (core s) s.generators)

-- 5. factors that occur in no term are dropped
unfoldable pub drop_unused : Zonotope → Zonotope
drop_unused s = record {
  dimension = s.dimension;
  identifiers = keep_at (occurs s.terms) 0 s.identifiers;
  centre = s.centre;
  terms = map (keep_exponents (occurs s.terms)) s.terms;
  generators = s.generators;
  radii = s.radii;
}

unfoldable pub finish : List ℕ → ℕ → ℕ → Zonotope → Zonotope
finish weights term_count_limit generator_count_limit s =
    drop_unused (fold_generators weights generator_count_limit (fold_terms weights term_count_limit (fold_high
    (drop_zero_generators (drop_zero_terms (collect_terms s))))))

-- what folding adds to each coordinate's radius there: the folded parts that finishing leaves where there were none before
unfoldable pub folds : List ℕ → ℕ → ℕ → Zonotope → List ℕ
folds weights term_count_limit generator_count_limit s =
    (finish weights term_count_limit generator_count_limit (with s s.centre s.terms s.generators (with_folded s.radii []))).radii.folded
