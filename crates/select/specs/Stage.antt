-- The stages of finishing that fold terms or generators: what they ask, what their passes do, and what they leave.
use Rattle.std.specs.Prelude.{List, [], ◌∷◌, map, Bool, true, false, not, ◌≡◌, refl, ℕ, zero, suc, ◌*◌, ◌^◌, ◌<◌, ◌≤◌, ltb, length, get_or, ℤ}
use Rattle.std.proofs.Math.Path.{sym}
use Rattle.std.proofs.Common.{ap, ap₂, ◌∙◌, arith}
use Rattle.std.proofs.Common.{take, replicate, length-take-le}
use Rattle.std.proofs.Math.ListN.{length-replicate}
use Rattle.whole.specs.Tab.{tab, any}
use Rattle.model.specs.Limits.{max_exponent}
use Rattle.model.specs.Set.{Term}
use Rattle.model.specs.Finish.{Core, Folded, those, all_even, too_high, size, fold_term, fold_all, fold_until}
use Rattle.whole.specs.Tests.{any_found, any_none}
use Rattle.model.proofs.Tests.{any_false}
use Rattle.model.proofs.FoldsNothing.{all_pass}
use Rattle.model.proofs.FoldOrder.{term-swap}
use Rattle.model.proofs.FirstBySize.{term_size}
use Rattle.rows.specs.Rows.{exponent_row, number_row, term_of, terms, Places, Small}
use Rattle.fold.specs.Chosen.{chosen}
use Rattle.fold.specs.Marks.{at, unmarked}
use Rattle.fold.specs.Folding.{core_of, folded, folded_as}
pub use Rattle.fold.specs.Folding.{Bounded, bounded_none}
use Rattle.select.specs.Selected.{Selected, parted, until_parted, those-parted, none_folded, few_left, left-within}

-- whether one of a row of exponents is too large
abbrev pub high : List ℕ → Bool
high xs = any (λ k. ltb max_exponent k) xs

-- two lists that are kept alike, joined place by place
joined : {X Y Z : Type 0} (h : X → Y → Z) (a : ℕ → X) (b : ℕ → Y) (ps : List ℕ) (m n : ℕ) (a' : ℕ → X) (b' : ℕ → Y) →
    tab m a' ≡ map a ps → tab n b' ≡ map b ps → tab n (λ i. h (a' i) (b' i)) ≡ map (λ i. h (a i) (b i)) ps
unfolding tab
joined h a b [] m zero a' b' p q = refl
joined h a b [] m (suc n) a' b' p q = absurd (omega (arith, ap length q))
joined h a b (i ∷ ps) m zero a' b' p q = absurd (omega (arith, ap length q))
joined h a b (i ∷ ps) zero (suc n) a' b' p q = absurd (omega (arith, ap length p))
joined {X} {Y} {Z} h a b (i ∷ ps) (suc m) (suc n) a' b' p q =
    let p0 : a' 0 ≡ a i = cc in
    let q0 : b' 0 ≡ b i = cc in
    let ps' : tab m (λ j. a' (suc j)) ≡ map a ps = cc in
    let qs' : tab n (λ j. b' (suc j)) ≡ map b ps = cc in
    ap₂ ◌∷◌ (ap₂ h p0 q0) (joined h a b ps m n (λ j. a' (suc j)) (λ j. b' (suc j)) ps' qs')

-- the terms with the centre and radii, and the term in row k
abbrev pub state_of : List ℕ → List ℕ → List ℤ → ℕ → List ℤ → List ℕ → Folded Term
state_of e heads s n c r = record { core = core_of c r; kept = terms e heads s n }

abbrev pub term_at : List ℕ → List ℕ → List ℤ → ℕ → Term
term_at e heads s k = term_of e s (get_or heads k 0) k

-- what the passes leave of the terms
pub terms-passed : (e heads heads' : List ℕ) (s s' : List ℤ) (n m m' : ℕ) (gone : List Bool) (x : Core) {c : List ℤ} {r : List ℕ} →
    core_of c r ≡ folded s gone (λ k. all_even (exponent_row e (get_or heads k 0))) n x →
    tab m' (λ k. get_or heads' k 0) ≡ map (λ k. get_or heads k 0) (chosen (unmarked gone) n) →
    tab m (number_row s') ≡ map (number_row s) (chosen (unmarked gone) n) →
    state_of e heads' s' m c r ≡ parted fold_term (term_at e heads s) n gone x
unfolding terms
terms-passed e heads heads' s s' n m m' gone x {c} {r} v p q =
    ap₂ (λ (y : Core) (l : List Term). record { core = y; kept = l })
    (v ∙ folded_as s gone (λ k. all_even (exponent_row e (get_or heads k 0))) x n (λ k. fold_term (term_at e heads s k)) (λ k h y. refl))
    (joined (λ (x : ℕ) (v : List ℤ). record { exponents = exponent_row e x; coefficients = v }) (λ k. get_or heads k 0) (number_row s)
    (chosen (unmarked gone) n) m' m (λ k. get_or heads' k 0) (number_row s') p q)

-- ---- what the stages ask and leave
-- n terms in work slices
pub record Ready (e heads : List ℕ) (s : List ℤ) (n : ℕ) : Type 0 where
  pub few : n ≤ 860
  pub places-long : n ≤ length heads
  pub rows_long : n * 6 ≤ length s
  pub rows : Places e heads
  pub small : Small (2 ^ 50) s

-- of n terms m are left, and with the centre and radii they are `result`
pub record Passed (e heads : List ℕ) (s : List ℤ) (n m : ℕ) (c₀ c : List ℤ) (r₀ r : List ℕ) (result : Folded Term) : Type 0 where
  pub is : state_of e heads s m c r ≡ result
  pub fewer : m ≤ n
  pub ready : Ready e heads s m
  pub bounded : Bounded n c₀ c r₀ r

-- of n generators likewise
pub record GeneratorsPassed (g : List ℤ) (n m : ℕ) (c₀ c : List ℤ) (r₀ r : List ℕ) (result : Folded (List ℤ)) : Type 0 where
  pub is : record { core = core_of c r; kept = tab m (number_row g) } ≡ result
  pub fewer : m ≤ n
  pub small : Small (2 ^ 50) g
  pub bounded : Bounded n c₀ c r₀ r

-- the terms without an exponent that is too large, and the core that makes up for the others
abbrev pub without_high : Core → List Term → Folded Term
without_high k ts = record { core = fold_all fold_term (those too_high ts) k; kept = those (λ t. not (too_high t)) ts }

-- what is left is ready for the next stage
pub ready-after : {e h h' : List ℕ} {s s' : List ℤ} {n m : ℕ} → Ready e h s n → m ≤ n → length h' ≡ length h → length s' ≡ length s →
    Places e h' → Small (2 ^ 50) s' → Ready e h' s' m
ready-after v l p q r z =
    let few = v.few in
    let places = v.places-long in
    let rows = v.rows_long in
    record { few = omega arith; places-long = omega arith; rows_long = omega arith; rows = r; small = z }

-- the same result, said otherwise
pub passed_as : {e h : List ℕ} {s : List ℤ} {n m : ℕ} {c₀ c : List ℤ} {r₀ r : List ℕ} {x y : Folded Term} →
    Passed e h s n m c₀ c r₀ r x → x ≡ y → Passed e h s n m c₀ c r₀ r y
passed_as v e = record { is = v.is ∙ e; fewer = v.fewer; ready = v.ready; bounded = v.bounded }

-- marks that a stage has room for
pub room : (N n : ℕ) → n ≤ N → length (take n (replicate N false)) ≡ n
room N n h = length-take-le n (replicate N false) (omega (arith, length-replicate {A = Bool} N false))

-- ---- the stages of terms
module _ (e heads : List ℕ) (s : List ℤ) (n : ℕ) where
  -- some exponent is too large, or none is
  pub high-found : (i : ℕ) → i < n → high (exponent_row e (get_or heads i 0)) ≡ true → any too_high (terms e heads s n) ≡ true
  unfolding terms
  high-found i h g = any_found too_high n (term_at e heads s) i h g

  pub high_none : ((i : ℕ) → i < n → high (exponent_row e (get_or heads i 0)) ≡ false) → any too_high (terms e heads s n) ≡ false
  unfolding terms
  high_none g = any_none too_high n (term_at e heads s) g

pub all-low : (k : Core) (ts : List Term) → any too_high ts ≡ false → record { core = k; kept = ts } ≡ without_high k ts
all-low k ts h =
    let low = any_false too_high ts h in
    sym (ap₂ (λ (c : Core) (l : List Term). record { core = c; kept = l }) (none_folded too_high fold_term k low) (all_pass too_high low))

module _ (e heads : List ℕ) (s : List ℤ) (n : ℕ) (k : Core) where
  pub high-parted : (gone : List Bool) → ((i : ℕ) → i < n → at gone i ≡ high (exponent_row e (get_or heads i 0))) →
      parted fold_term (term_at e heads s) n gone k ≡ without_high k (terms e heads s n)
  unfolding terms
  high-parted gone h = sym (those-parted too_high fold_term (term_at e heads s) n k gone h)

  module _ (weights : List ℕ) (limit : ℕ) where
    pub terms-parted : {gone : List Bool} → Selected (λ i. size weights (number_row s i)) limit n gone →
        parted fold_term (term_at e heads s) n gone k ≡ fold_until (term_size weights) fold_term limit k (terms e heads s n)
    unfolding terms
    terms-parted v = sym (until_parted (term_size weights) fold_term term-swap (term_at e heads s) limit n k v)

    pub terms_few : n ≤ limit →
        record { core = k; kept = terms e heads s n } ≡ fold_until (term_size weights) fold_term limit k (terms e heads s n)
    unfolding terms
    terms_few h = few_left (term_size weights) fold_term (term_at e heads s) limit n k h

    pub terms-within : (heads' : List ℕ) (s' : List ℤ) (m : ℕ) {c : Core} →
        record { core = c; kept = terms e heads' s' m } ≡ fold_until (term_size weights) fold_term limit k (terms e heads s n) → m ≤ limit
    unfolding terms
    terms-within heads' s' m p = left-within (term_size weights) fold_term term-swap limit k (terms e heads s n) m (term_at e heads' s') p
