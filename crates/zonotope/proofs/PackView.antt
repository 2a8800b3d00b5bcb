-- A record whose unused places hold 0 is the record of its set.
use mathlib.Core.Path.{◌≡◌, refl, sym, ◌∙◌, ap, ap₂}
use mathlib.Core.List.{List, []}
use mathlib.Core.Bool.{Bool, true, false, not, ◌&&◌, ◌||◌}
use Prim.Native.Nat.{ℕ, ◌+◌, ◌*◌, ◌/◌, ◌%◌, ◌<◌, ◌≤◌}
use native.Mathlib.Nat.{div-add-mod'}
use native.Mathlib.Decide.{dec_lt}
use native.Mathlib.Omega.{arith}
use borrow.Author.Tests.{le-ltb, lt-ltb, eqb-true, not-false}
use lib.Dec.{ltb, eqb}
use lib.ListN.{length, get_or}
use lib.IntN.{ℤ, pos, nat_abs}
use Rattle.whole.specs.Size.{abs_zero}
use Rattle.whole.specs.Tab.{tab, any, length-tab, get_d_tab, get_d_tab_past, tab_cong, tab_get_d}
use Rattle.model.specs.Set.{Term}
use Rattle.model.specs.Valid.{is_zero}
use Rattle.zonotope.specs.declared.Radii.{Radii}
use Rattle.zonotope.specs.declared.PolyZonotope.{PolyZonotope}
use Rattle.arrays.specs.Rows.{row}
use Rattle.arrays.specs.Spare.{in_rows, spare_ℕ, spare_ℤ}
use Rattle.zonotope.specs.Record.{firsts, first_parts, parts_of, packed_radii, spare_parts, view, pack, no_term, spare}
use Rattle.whole.specs.Tests.{or_left, or_right, none_at}
use Rattle.zonotope.specs.Shape.{PartLengths, Sized}

-- ---- what no spare place says: an entry that isn't used is 0
module _ {A : Type 0} (zeroA : A) (is_none : A → Bool) (is : (a : A) → is_none a ≡ true → a ≡ zeroA) where
  unused : (xs : List A) (n : ℕ) (used : ℕ → Bool) → any (λ x. not (used x || is_none (get_or xs x zeroA))) (tab n (λ x. x)) ≡ false
      → (x : ℕ) → x < n → used x ≡ false → get_or xs x zeroA ≡ zeroA
  unused xs n used e x h u =
      is (get_or xs x zeroA) (not-false (is_none (get_or xs x zeroA)) (ap (λ b. not (b || is_none (get_or xs x zeroA))) (sym u)
      ∙ none_at (λ x. not (used x || is_none (get_or xs x zeroA))) n (λ x. x) e x h))

unused_ℕ : (xs : List ℕ) (n : ℕ) (used : ℕ → Bool) → spare_ℕ xs n used ≡ false → (x : ℕ) → x < n → used x ≡ false → get_or xs x 0 ≡ 0
unused_ℕ xs n used e x h u = unused 0 (λ k. eqb k 0) (λ k t. eqb-true k 0 t) xs n used e x h u

unused_ℤ : (xs : List ℤ) (n : ℕ) (used : ℕ → Bool) → spare_ℤ xs n used ≡ false → (x : ℕ) → x < n → used x ≡ false
    → get_or xs x (pos 0) ≡ pos 0
unused_ℤ xs n used e x h u = unused (pos 0) is_zero (λ z t. abs_zero (eqb-true (nat_abs z) 0 t)) xs n used e x h u

-- ---- a list is its used places continued by zeros
module _ {A : Type 0} (d : A) where
  padded : (n k : ℕ) (xs : List A) → length xs ≡ n → ((x : ℕ) → x < n → ltb x k ≡ false → get_or xs x d ≡ d)
      → tab n (λ i. get_or (tab k (λ i. get_or xs i d)) i d) ≡ xs
  padded n k xs e z = tab_cong n _ _ (λ i h. go i h (dec_lt i k)) ∙ tab_get_d n xs d e
    where
      go : (i : ℕ) → i < n → Dec (i < k) → get_or (tab k (λ i. get_or xs i d)) i d ≡ get_or xs i d
      go i h (yes l) = get_d_tab k (λ i. get_or xs i d) d i l
      go i h (no l) = get_d_tab_past k (λ i. get_or xs i d) d i (omega arith) ∙ sym (z i h (le-ltb i k (omega arith)))

  -- the same of a list of rows, where G gives each row's used places
  padded-rows : (w n t k : ℕ) (xs : List A) (G : ℕ → List A) → 0 < w → length xs ≡ n
      → ((q : ℕ) → q < t → G q ≡ row w d xs q k)
      → ((q : ℕ) → t ≤ q → G q ≡ [])
      → ((x : ℕ) → x < n → in_rows w t k x ≡ false → get_or xs x d ≡ d)
      → tab n (λ x. get_or (G (x / w)) (x % w) d) ≡ xs
  padded-rows w n t k xs G w₀ e in_row past z = tab_cong n _ _ (λ x h. go x h (dec_lt (x / w) t)) ∙ tab_get_d n xs d e
    where
      go : (x : ℕ) → x < n → Dec (x / w < t) → get_or (G (x / w)) (x % w) d ≡ get_or xs x d
      go x h (no l) =
          ap (λ r. get_or r (x % w) d) (past (x / w) (omega arith))
          ∙ sym (z x h (ap (◌&& ltb (x % w) k) (le-ltb (x / w) t (omega arith))))
      go x h (yes l) = ap (λ r. get_or r (x % w) d) (in_row (x / w) l) ∙ within (dec_lt (x % w) k)
        where
          within : Dec (x % w < k) → get_or (row w d xs (x / w) k) (x % w) d ≡ get_or xs x d
          within (yes m) = get_d_tab k (λ i. get_or xs (x / w * w + i) d) d (x % w) m ∙ ap (λ y. get_or xs y d) (div-add-mod' x w)
          within (no m) =
              get_d_tab_past k (λ i. get_or xs (x / w * w + i) d) d (x % w) (omega arith)
              ∙ sym (z x h (ap₂ ◌&&◌ (lt-ltb (x / w) t l) (le-ltb (x % w) k (omega arith))))

-- ---- the record of what a record means
same : (s : PolyZonotope) (n p h q : ℕ) (ids : List ℕ) (c : List ℤ) (e : List ℕ) (g v : List ℤ) (r : Radii)
    → n ≡ s.dimension → p ≡ s.factors → h ≡ s.terms → q ≡ s.generators → ids ≡ s.identifiers → c ≡ s.centre
    → e ≡ s.exponents → g ≡ s.coefficients → v ≡ s.vectors → r ≡ s.radii
    → ◌≡◌ {A = PolyZonotope} (record {
      dimension = n;
      factors = p;
      terms = h;
      generators = q;
      identifiers = ids;
      centre = c;
      exponents = e;
      coefficients = g;
      vectors = v;
      radii = r;
    }) s
same s n p h q ids c e g v r e₁ e₂ e₃ e₄ e₅ e₆ e₇ e₈ e₉ e₁₀ = rw (e₁, e₂, e₃, e₄, e₅, e₆, e₇, e₈, e₉, e₁₀)

pack-parts : (r : Radii) (n : ℕ) → PartLengths r → spare_parts r n ≡ false → packed_radii (first_parts n (parts_of r)) ≡ r
pack-parts r n z e =
    let part : List ℕ → Bool = λ l. spare_ℕ l 6 (λ i. ltb i n) in
    let a = part r.carried in
    let b = part r.rounded in
    let c = part r.folded in
    let d = part r.given in
    let abc = or_left (a || b || c) d e in
    let ab = or_left (a || b) c abc in
    let whole : (l : List ℕ) → length l ≡ 6 → part l ≡ false → firsts 6 (firsts n l) ≡ l =
    λ l long none. padded 0 6 n l long (unused_ℕ l 6 _ none) in
    λ i. record {
      carried = whole r.carried z.carried (or_left a b ab) i;
      rounded = whole r.rounded z.rounded (or_right a b ab) i;
      folded = whole r.folded z.folded (or_right (a || b) c abc) i;
      given = whole r.given z.given (or_right (a || b || c) d e) i;
    }

pub pack-view : (s : PolyZonotope) → Sized s → spare s ≡ false → pack (view s) ≡ s
unfolding pack view spare
pack-view s z e =
    let a₁ = spare_ℕ s.identifiers 12 (λ i. ltb i s.factors) in
    let a₂ = spare_ℤ s.centre 6 (λ i. ltb i s.dimension) in
    let a₃ = spare_ℕ s.exponents 480 (in_rows 12 s.terms s.factors) in
    let a₄ = spare_ℤ s.coefficients 240 (in_rows 6 s.terms s.dimension) in
    let a₅ = spare_ℤ s.vectors 144 (in_rows 6 s.generators s.dimension) in
    let a₆ = spare_parts s.radii s.dimension in
    let e₅ = or_left (a₁ || a₂ || a₃ || a₄ || a₅) a₆ e in
    let e₄ = or_left (a₁ || a₂ || a₃ || a₄) a₅ e₅ in
    let e₃ = or_left (a₁ || a₂ || a₃) a₄ e₄ in
    let e₂ = or_left (a₁ || a₂) a₃ e₃ in
    let T : ℕ → Term = λ t. record {
      exponents = row 12 0 s.exponents t s.factors;
      coefficients = row 6 (pos 0) s.coefficients t s.dimension;
    } in
    let G : ℕ → List ℤ = λ g. row 6 (pos 0) s.vectors g s.dimension in
    same s _ _ _ _ _ _ _ _ _ _
    refl
    (length-tab s.factors _)
    (length-tab s.terms T)
    (length-tab s.generators G)
    (padded 0 12 s.factors s.identifiers z.identifiers (unused_ℕ s.identifiers 12 _ (or_left a₁ a₂ e₂)))
    (padded (pos 0) 6 s.dimension s.centre z.centre (unused_ℤ s.centre 6 _ (or_right a₁ a₂ e₂)))
    (padded-rows 0 12 480 s.terms s.factors s.exponents (λ q. (get_or (tab s.terms T) q no_term).exponents) (omega arith)
    z.exponents
    (λ q h. ap (λ t. t.exponents) (get_d_tab s.terms T no_term q h))
    (λ q h. ap (λ t. t.exponents) (get_d_tab_past s.terms T no_term q h))
    (unused_ℕ s.exponents 480 _ (or_right (a₁ || a₂) a₃ e₃)))
    (padded-rows (pos 0) 6 240 s.terms s.dimension s.coefficients (λ q. (get_or (tab s.terms T) q no_term).coefficients)
    (omega arith) z.coefficients
    (λ q h. ap (λ t. t.coefficients) (get_d_tab s.terms T no_term q h))
    (λ q h. ap (λ t. t.coefficients) (get_d_tab_past s.terms T no_term q h))
    (unused_ℤ s.coefficients 240 _ (or_right (a₁ || a₂ || a₃) a₄ e₄)))
    (padded-rows (pos 0) 6 144 s.generators s.dimension s.vectors (λ q. get_or (tab s.generators G) q []) (omega arith)
    z.vectors
    (λ q h. get_d_tab s.generators G [] q h) (λ q h. get_d_tab_past s.generators G [] q h)
    (unused_ℤ s.vectors 144 _ (or_right (a₁ || a₂ || a₃ || a₄) a₅ e₅)))
    (pack-parts s.radii s.dimension z.radii (or_right (a₁ || a₂ || a₃ || a₄ || a₅) a₆ e))
