-- A set that a record can hold is what its record means, and its record has no spare place.
use mathlib.Core.Path.{◌≡◌, refl, sym, ◌∙◌, ap, ap₂}
use mathlib.Core.List.{List, []}
use mathlib.Core.Bool.{Bool, true, false, not, ◌&&◌, ◌||◌}
use Prim.Native.Nat.{ℕ, zero, suc, ◌+◌, ◌*◌, ◌/◌, ◌%◌, ◌<◌, ◌≤◌}
use native.Mathlib.Nat.{le_of_suc-le-suc, mul-add-div_right, div-eq_of_lt, mul-add-mod_self_right, mod-eq_of_lt}
use native.Mathlib.Decide.{dec_lt}
use native.Mathlib.Omega.{arith}
use borrow.Author.Tests.{lt-ltb, ltb-false}
use lib.Dec.{ltb, eqb}
use lib.ListN.{length, get_or, get_or-eq_default}
use lib.IntN.{ℤ, pos}
use Rattle.whole.specs.Tab.{tab, any, length-tab, get_d_tab, tab_cong, tab_get_d}
use Rattle.rational.specs.Sum.{All, none, more}
use Rattle.model.specs.Set.{Term, Radii, Zonotope, at}
use Rattle.model.specs.Valid.{bad_counts, is_zero}
use Rattle.zonotope.specs.declared.PolyZonotope.{PolyZonotope}
use Rattle.arrays.specs.Rows.{row}
use Rattle.arrays.specs.Spare.{in_rows}
use Rattle.zonotope.specs.Record.{firsts, first_parts, parts_of, packed_radii, view, pack, no_term, spare}
use Rattle.whole.specs.Tests.{any_none}
use Rattle.zonotope.specs.Counts.{countable}
use Rattle.model.proofs.Tests.{all-tab}
use Rattle.model.proofs.Radii.{PartsLong}
use Rattle.model.proofs.Shape.{Shaped}

-- ---- what the record of a set means
all-at : {A : Type 0} {P : A → Type 0} {l : List A} (d : A) → All P l → (i : ℕ) → i < length l → P (get_or l i d)
all-at d none i h = absurd (omega arith)
all-at d (more p ps) zero h = p
all-at d (more p ps) (suc i) h = all-at d ps i (le_of_suc-le-suc h)

module _ {A : Type 0} (d : A) where
  -- the first k of the n places of a table
  front : (n k : ℕ) (f : ℕ → A) → k ≤ n → tab k (λ i. get_or (tab n f) i d) ≡ tab k f
  front n k f h = tab_cong k _ _ (λ i l. get_d_tab n f d i (omega arith))

  -- row t of a table of rows
  row_of : (w n t k : ℕ) (F : ℕ → ℕ → A) → k ≤ w → t * w + w ≤ n → row w d (tab n (λ x. F (x / w) (x % w))) t k ≡ tab k (F t)
  row_of w n t k F h m =
      tab_cong k _ _ (λ i l. get_d_tab n (λ x. F (x / w) (x % w)) d (t * w + i) (omega arith)
      ∙ ap₂ F (mul-add-div_right {m = w} (omega arith) t i ∙ ap (t +◌) (div-eq_of_lt (omega arith)) ∙ omega arith)
      (mul-add-mod_self_right t w i ∙ mod-eq_of_lt (omega arith)))

view-parts : (r : Radii) (n : ℕ) → PartsLong n r → n ≤ 6 → first_parts n (parts_of (packed_radii r)) ≡ r
view-parts r n z few =
    let part : (l : List ℕ) → length l ≡ n → firsts n (firsts 6 l) ≡ l = λ l long. front 0 6 n (λ i. get_or l i 0) few ∙ tab_get_d n l 0
    long in
    λ i. record {
      carried = part r.carried z.carried_long i;
      rounded = part r.rounded z.rounded-long i;
      folded = part r.folded z.folded_long i;
      given = part r.given z.given-long i;
    }

pub view-pack : (m : Zonotope) → Shaped m → bad_counts m ≡ false → view (pack m) ≡ m
unfolding pack view
view-pack m z b =
    let l = countable m b in
    let n = m.dimension in
    let p = length m.identifiers in
    same_set m _ _ _ _ _ _
    refl
    (front 0 12 p (λ i. get_or m.identifiers i 0) l.factors ∙ tab_get_d p m.identifiers 0 refl)
    (front (pos 0) 6 n (at m.centre) l.dimension ∙ tab_get_d n m.centre (pos 0) z.centre-long)
    (tab_cong (length m.terms) _ _ (λ t h. let s = all-at no_term z.rows t h in same-term (get_or m.terms t no_term) _ _
    (row_of 0 12 480 t p (λ q i. get_or (get_or m.terms q no_term).exponents i 0) l.factors (omega arith) ∙ tab_get_d p _ 0
    s.exponents-long)
    (row_of (pos 0) 6 240 t n (λ q i. at (get_or m.terms q no_term).coefficients i) l.dimension (omega arith)
    ∙ tab_get_d n _ (pos 0) s.coefficients-long))
    ∙ tab_get_d (length m.terms) m.terms no_term refl)
    (tab_cong (length m.generators) _ _ (λ g h.
    row_of (pos 0) 6 144 g n (λ q i. at (get_or m.generators q []) i) l.dimension (omega arith)
    ∙ tab_get_d n _ (pos 0) (all-at [] z.generators_long g h))
    ∙ tab_get_d (length m.generators) m.generators [] refl)
    (view-parts m.radii n z.radii-long l.dimension)
  where
    same-term : (t : Term) (e : List ℕ) (c : List ℤ) → e ≡ t.exponents → c ≡ t.coefficients →
        ◌≡◌ {A = Term} (record { exponents = e; coefficients = c }) t
    same-term t e c p q = rw (p, q)

    same_set : (m : Zonotope) (n : ℕ) (k : List ℕ) (c : List ℤ) (t : List Term) (g : List (List ℤ)) (r : Radii)
        → n ≡ m.dimension → k ≡ m.identifiers → c ≡ m.centre → t ≡ m.terms → g ≡ m.generators → r ≡ m.radii
        → ◌≡◌ {A = Zonotope} (record { dimension = n; identifiers = k; centre = c; terms = t; generators = g; radii = r }) m
    same_set m n k c t g r e₁ e₂ e₃ e₄ e₅ e₆ = rw (e₁, e₂, e₃, e₄, e₅, e₆)

-- ---- the record of a set has no spare place
module _ {A : Type 0} (d : A) (is_none : A → Bool) (zero_is : is_none d ≡ true) where
  used_or_none : (a : Bool) (x : A) → (a ≡ false → x ≡ d) → not (a || is_none x) ≡ false
  used_or_none true x h = refl
  used_or_none false x h = ap (λ y. not (is_none y)) (h refl) ∙ ap not zero_is

  full : (n k : ℕ) (l : List A) → length l ≤ k → any (λ x. not (ltb x k || is_none (get_or (tab n (λ i. get_or l i d)) x d)))
      (tab n (λ x. x)) ≡ false
  full n k l h =
      any_none _ n (λ x. x) (λ x m. used_or_none (ltb x k) (get_or (tab n (λ i. get_or l i d)) x d)
      (λ u. get_d_tab n (λ i. get_or l i d) d x m ∙ get_or-eq_default l d (omega (arith, ltb-false x k u))))

  full_rows : (w n t k : ℕ) (R : ℕ → List A) → ((q : ℕ) → q < t → length (R q) ≡ k) → ((q : ℕ) → t ≤ q → R q ≡ [])
      → any (λ x. not (in_rows w t k x || is_none (get_or (tab n (λ x. get_or (R (x / w)) (x % w) d)) x d))) (tab n (λ x. x)) ≡ false
  full_rows w n t k R in_row past =
      any_none _ n (λ x. x) (λ x m. used_or_none (in_rows w t k x) (get_or (tab n (λ x. get_or (R (x / w)) (x % w) d)) x d)
      (λ u. get_d_tab n (λ x. get_or (R (x / w)) (x % w) d) d x m ∙ go x u (dec_lt (x / w) t)))
    where
      go : (x : ℕ) → in_rows w t k x ≡ false → Dec (x / w < t) → get_or (R (x / w)) (x % w) d ≡ d
      go x u (no l) = ap (λ r. get_or r (x % w) d) (past (x / w) (omega arith))
      go x u (yes l) =
          get_or-eq_default (R (x / w)) d (omega (
            arith,
            in_row (x / w) l,
            ltb-false (x % w) k
                (ap (◌&& ltb (x % w) k) (sym (lt-ltb (x / w) t l)) ∙ u),
          ))

pub spare-pack : (m : Zonotope) → Shaped m → spare (pack m) ≡ false
unfolding pack spare
spare-pack m z =
    let n = m.dimension in
    let p = length m.identifiers in
    let h = length m.terms in
    let q = length m.generators in
    let T : ℕ → Term = λ t. get_or m.terms t no_term in
    let none_past : (k : ℕ) → h ≤ k → T k ≡ no_term = λ k l. get_or-eq_default m.terms no_term l in
    rw (
      full 0 (λ k. eqb k 0) refl 12 p m.identifiers (omega arith),
      full (pos 0) is_zero refl 6 n m.centre (omega (arith, z.centre-long)),
      full_rows 0 (λ k. eqb k 0) refl 12 480 h p (λ t. (T t).exponents) (λ t l. (all-at no_term z.rows t l).exponents-long)
          (λ t l. ap (λ t. t.exponents) (none_past t l)),
      full_rows (pos 0) is_zero refl 6 240 h n (λ t. (T t).coefficients) (λ t l. (all-at no_term z.rows t l).coefficients-long)
          (λ t l. ap (λ t. t.coefficients) (none_past t l)),
      full_rows (pos 0) is_zero refl 6 144 q n (λ g. get_or m.generators g []) (λ g l. all-at [] z.generators_long g l)
          (λ g l. get_or-eq_default m.generators [] l),
      full 0 (λ k. eqb k 0) refl 6 n m.radii.carried (omega (arith, z.radii-long.carried_long)),
      full 0 (λ k. eqb k 0) refl 6 n m.radii.rounded (omega (arith, z.radii-long.rounded-long)),
      full 0 (λ k. eqb k 0) refl 6 n m.radii.folded (omega (arith, z.radii-long.folded_long)),
      full 0 (λ k. eqb k 0) refl 6 n m.radii.given (omega (arith, z.radii-long.given-long)),
    )

-- ---- what a record means has the shape of a set
pub view_shaped : (s : PolyZonotope) → Shaped (view s)
unfolding view
view_shaped s = record {
  centre-long = length-tab s.dimension _;
  radii-long = record {
    carried_long = length-tab s.dimension _;
    rounded-long = length-tab s.dimension _;
    folded_long = length-tab s.dimension _;
    given-long = length-tab s.dimension _;
  };
  rows = all-tab s.terms _ (λ t h. record {
    exponents-long = length-tab s.factors _ ∙ sym (length-tab s.factors _);
    coefficients-long = length-tab s.dimension _;
  });
  generators_long = all-tab s.generators _ (λ g h. length-tab s.dimension _);
}
