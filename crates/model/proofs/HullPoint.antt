-- The hull keeps every motion: a blend of a point of each set, at equal factor values, is a point of the hull.
use mathlib.Core.Path.{◌≡◌, refl, sym, ◌∙◌, ap, ap₂, subst}
use mathlib.Core.List.{List, [], ◌∷◌, ◌++◌, map}
use mathlib.Core.Bool.{Bool, true, false, cond}
use Prim.Native.Nat.{ℕ, ◌*◌, ◌<◌, ◌≤◌}
use native.Mathlib.Omega.{arith}
use lib.Dec.{ltb}
use borrow.Author.Tests.{ltb-true, ltb-false, lt-ltb, le-ltb}
use lib.ListN.{length, replicate, length-replicate}
use lib.IntN.{ℤ, pos, neg_ℤ, ◌*ℤ◌}
use Rattle.whole.specs.Round.{scale}
use Rattle.whole.specs.Tab.{get_d_tab}
use Rattle.rational.specs.Rational.{ℚ, ◌+ℚ◌, ◌*ℚ◌, neg_ℚ, ι, ½, 0ℚ, 1ℚ, NonNeg}
use Rattle.rational.proofs.Ring.{ring, +ℚ-assoc, *ℚ-assoc, one-*ℚ, *ℚ-one, half_twice, +ℚ-neg, +ℚ-comm, +ℚ-zero, zero-*ℚ, neg_ℚ-neg_ℚ}
use Rattle.rational.proofs.Ring.{neg_ℚ-*, *ℚ-neg_ℚ}
use Rattle.rational.proofs.Pinned.{ι-+, ι-*, ι-neg}
use Rattle.rational.specs.Power.{power}
use Rattle.rational.proofs.Sign.{NonNeg-*, NonNeg-ι, NonNeg-½}
use Rattle.rational.proofs.Order.{gap, ≤ℚ-refl, ι-mono}
use Rattle.rational.specs.Bounds.{Within}
use Rattle.rational.proofs.Bounds.{within-+, within-*, within_mono, within-neg, within-one, within-NonNeg}
use Rattle.rational.specs.Near.{Near}
use Rattle.rational.proofs.Near.{near_as}
use Rattle.rational.specs.Sum as Sum
use Rattle.rational.specs.Sum.{sum, All}
use Rattle.rational.proofs.Sum.{sum-*, sum-map, sum_cong, sum_cong_all, All-imp, All-++}
use Rattle.model.specs.Limits.{max_terms, max_generators}
use Rattle.model.specs.Set.{Term, Zonotope, at, generator_sizes, independent_size}
use Rattle.model.specs.Valid.{rises}
use Rattle.model.specs.Operations.{union, align, aligned, joined}
use Rattle.model.specs.Motion.{between, with_fresh}
use Rattle.model.specs.Between.{HullBetween, HullEnds}
use Rattle.model.specs.Hull.{halved, blend, opposite, larger, blended, hull}
use Rattle.model.specs.Step.{rounded}
use Rattle.model.specs.Points.{Vector, monomial, terms_at, generators_at, value_at, Point, InRange}
use Rattle.model.proofs.Vectors.{at_map}
use Rattle.model.proofs.RawUnits.{in_raw_units, raw_units_radius}
use Rattle.model.proofs.Parts.{spread, generators_spread, convex}
use Rattle.model.proofs.Ends.{generators_within}
use Rattle.model.proofs.SumShape.{align-length}
use Rattle.model.proofs.SumPoints.{terms-++, main_at, joined_main}
use Rattle.model.proofs.Rounded.{rounded_point}
use Rattle.model.proofs.WholeForms.{ι-*ℕ}
use Rattle.model.proofs.FinishCovers.{finish_covers}
use Rattle.model.proofs.Values.{same-values}

larger-left : (m n : ℕ) → m ≤ larger m n
larger-left m n = go (ltb m n) refl
  where
    go : (b : Bool) → ltb m n ≡ b → m ≤ cond b n m
    go true e = omega (arith, ltb-true m n e)
    go false e = omega arith

larger_right : (m n : ℕ) → n ≤ larger m n
larger_right m n = go (ltb m n) refl
  where
    go : (b : Bool) → ltb m n ≡ b → n ≤ cond b n m
    go true e = omega arith
    go false e = ltb-false m n e

-- ---- a monomial with one more factor at its end
monomial-last : (γ : Vector) (ms es : List ℕ) (n k : ℕ) → length es ≡ length ms
    → monomial γ (ms ++ (n ∷ [])) (es ++ (k ∷ [])) ≡ monomial γ ms es *ℚ power (γ n) k
unfolding monomial
monomial-last γ [] [] n k e = *ℚ-one (power (γ n) k) ∙ sym (one-*ℚ (power (γ n) k))
monomial-last γ [] (x ∷ es) n k e = absurd (omega arith)
monomial-last γ (m ∷ ms) [] n k e = absurd (omega arith)
monomial-last γ (m ∷ ms) (x ∷ es) n k e =
    ap (power (γ m) x *ℚ◌) (monomial-last γ ms es n k (omega arith)) ∙ sym (*ℚ-assoc (power (γ m) x) (monomial γ ms es) (power (γ n) k))

monomial_none : (γ : Vector) (ms : List ℕ) → monomial γ ms (replicate (length ms) 0) ≡ 1ℚ
unfolding monomial power
monomial_none γ [] = refl
monomial_none γ (m ∷ ms) = one-*ℚ (monomial γ ms (replicate (length ms) 0)) ∙ monomial_none γ ms

-- ---- terms with the blending factor
halved-at : (v : List ℤ) (i : ℕ) → ι (at (halved v) i) ≡ ι (pos 8388608) *ℚ ι (at v i)
halved-at v i = ap ι (at_map (pos 8388608 *ℤ◌) refl v i) ∙ ι-* (pos 8388608) (at v i)

blend-terms : (γ : Vector) (ms : List ℕ) (n k : ℕ) {ts : List Term} → All (λ t. length t.exponents ≡ length ms) ts → (i : ℕ)
    → terms_at γ (ms ++ (n ∷ [])) (map (blend k) ts) i ≡ (ι (pos 8388608) *ℚ power (γ n) k) *ℚ terms_at γ ms ts i
unfolding terms_at
blend-terms γ ms n k {ts} long i =
    sum-map (λ t. ι (at t.coefficients i) *ℚ monomial γ (ms ++ (n ∷ [])) t.exponents) (blend k) ts
    ∙ sum_cong_all (All-imp (λ t l.
    ap₂ ◌*ℚ◌ (halved-at t.coefficients i) (monomial-last γ ms t.exponents n k l)
    ∙ regroup (ι (pos 8388608)) (ι (at t.coefficients i)) (monomial γ ms t.exponents) (power (γ n) k)) long)
    ∙ sum-* (ι (pos 8388608) *ℚ power (γ n) k) (λ t. ι (at t.coefficients i) *ℚ monomial γ ms t.exponents) ts
  where
    regroup : (c g m p : ℚ) → (c *ℚ g) *ℚ (m *ℚ p) ≡ (c *ℚ p) *ℚ (g *ℚ m)
    regroup c g m p = simp ring

aligned-long : (ms : List ℕ) (s : Zonotope) → All (λ t. length t.exponents ≡ length ms) (aligned ms s)
aligned-long ms s = every s.terms
  where
    every : (ts : List Term)
        → All (λ (t : Term). length t.exponents ≡ length ms)
        (map (λ t. record { exponents = align s.identifiers t.exponents ms; coefficients = t.coefficients }) ts)
    every [] = Sum.none
    every (t ∷ ts) = Sum.more (align-length s.identifiers t.exponents ms) (every ts)

joined-long : (s u : Zonotope) → All (λ t. length t.exponents ≡ length (joined s u).identifiers) (joined s u).terms
unfolding joined
joined-long s u = let ms = union s.identifiers u.identifiers in All-++ (aligned-long ms s) (aligned-long ms u)

-- ---- the points -x
opposite_main : (u : Zonotope) (γ : Vector) (i : ℕ) → main_at (opposite u) γ i ≡ neg_ℚ 1ℚ *ℚ main_at u γ i
unfolding opposite terms_at
opposite_main u γ i =
    ap₂ ◌+ℚ◌ (turned-at u.centre i)
    (sum-map (λ (t : Term). ι (at t.coefficients i) *ℚ monomial γ u.identifiers t.exponents) _ u.terms
    ∙ sum_cong _ (λ t. neg_ℚ 1ℚ *ℚ (ι (at t.coefficients i) *ℚ monomial γ u.identifiers t.exponents)) u.terms
    (λ t. ap (◌*ℚ monomial γ u.identifiers t.exponents) (turned-at t.coefficients i)
    ∙ *ℚ-assoc (neg_ℚ 1ℚ) (ι (at t.coefficients i)) (monomial γ u.identifiers t.exponents))
    ∙ sum-* (neg_ℚ 1ℚ) (λ t. ι (at t.coefficients i) *ℚ monomial γ u.identifiers t.exponents) u.terms)
    ∙ out (neg_ℚ 1ℚ) (ι (at u.centre i)) (terms_at γ u.identifiers u.terms i)
  where
    turned-at : (v : List ℤ) (i : ℕ) → ι (at (map neg_ℤ v) i) ≡ neg_ℚ 1ℚ *ℚ ι (at v i)
    turned-at v i =
        ap ι (at_map neg_ℤ refl v i) ∙ ι-neg (at v i) ∙ ap neg_ℚ (sym (one-*ℚ (ι (at v i)))) ∙ sym (neg_ℚ-* 1ℚ (ι (at v i)))

    out : (n a b : ℚ) → n *ℚ a +ℚ n *ℚ b ≡ n *ℚ (a +ℚ b)
    out n a b = simp ring

-- ---- a point, as the centre and terms and an offset within the independent part
independent_near : {s : Zonotope} {α x : Vector} → Point s α x → (i : ℕ) → i < s.dimension
    → Near (x i) (ι (at s.centre i) +ℚ terms_at α s.identifiers s.terms i) (ι (pos (independent_size s i)))
unfolding value_at generator_sizes spread
independent_near {s} {α} p i h =
    let n = p.near i h in
    let T = terms_at α s.identifiers s.terms i in
    let G = generators_at s.generators p.numbers i in record {
      off = G +ℚ n.off;
      small = subst (Within (G +ℚ n.off)) (sym (ι-+ (pos _) (pos _)))
          (within-+ (subst (λ z. Within z (ι (pos (generator_sizes s i)))) (sym (generators_spread s.generators p.numbers i))
          (generators_within (λ v. at v i) s.generators p.in_range)) n.small);
      is = n.is ∙ +ℚ-assoc (ι (at s.centre i) +ℚ T) G n.off;
    }

-- ---- the value of the blend
module _ (next : ℕ) (s u : Zonotope) (γ : Vector) (rising : rises ltb s.identifiers ≡ true) where
  abbrev v : ℚ
  v = γ next

  abbrev H : ℚ
  H = ι (pos 8388608)

  blended-parts : (i : ℕ) → value_at (in_raw_units (blended next s u)) γ [] i
      ≡ H *ℚ (main_at (joined s u) γ i +ℚ v *ℚ main_at (joined s (opposite u)) γ i)
  unfolding value_at blended joined opposite generators_at terms_at sum power
  blended-parts i =
      let ms = union s.identifiers u.identifiers in
      let K = (joined s u).centre in
      let L = (joined s (opposite u)).centre in
      let S = (joined s u).terms in
      let D = (joined s (opposite u)).terms in
      ap₂ (λ (a b : ℚ). a +ℚ b +ℚ 0ℚ) (halved-at K i)
      (ap₂ ◌+ℚ◌
      (ap₂ ◌*ℚ◌ (halved-at L i)
      (monomial-last γ ms (replicate (length ms) 0) next 1 (length-replicate (length ms) 0) ∙ ap (◌*ℚ (v *ℚ 1ℚ)) (monomial_none γ ms)))
      (terms-++ γ (ms ++ (next ∷ [])) (map (blend 0) S) (map (blend 1) D) i
      ∙ ap₂ ◌+ℚ◌ (blend-terms γ ms next 0 (joined-long s u) i) (blend-terms γ ms next 1 (joined-long s (opposite u)) i)))
      ∙ all H (ι (at K i)) (ι (at L i)) (terms_at γ ms S i) (terms_at γ ms D i) v
    where
      all : (h k l t r v : ℚ)
          → h *ℚ k +ℚ ((h *ℚ l) *ℚ (1ℚ *ℚ (v *ℚ 1ℚ)) +ℚ ((h *ℚ 1ℚ) *ℚ t +ℚ (h *ℚ (v *ℚ 1ℚ)) *ℚ r)) +ℚ 0ℚ
          ≡ h *ℚ ((k +ℚ t) +ℚ v *ℚ (l +ℚ r))
      all h k l t r v = simp ring

  blended-value : (i : ℕ) → value_at (in_raw_units (blended next s u)) γ [] i
      ≡ H *ℚ ((1ℚ +ℚ v) *ℚ main_at s γ i +ℚ (1ℚ +ℚ neg_ℚ v) *ℚ main_at u γ i)
  blended-value i =
      blended-parts i
      ∙ ap₂ (λ (a b : ℚ). H *ℚ (a +ℚ v *ℚ b)) (joined_main s u rising γ i)
      (joined_main s (opposite u) rising γ i ∙ ap (main_at s γ i +ℚ◌) (opposite_main u γ i))
      ∙ regroup H (main_at s γ i) (main_at u γ i) v (neg_ℚ 1ℚ)
      ∙ ap (λ (w : ℚ). H *ℚ ((1ℚ +ℚ v) *ℚ main_at s γ i +ℚ (1ℚ +ℚ w) *ℚ main_at u γ i)) (*ℚ-neg_ℚ v 1ℚ ∙ ap neg_ℚ (*ℚ-one v))
    where
      regroup : (h a b v n : ℚ) → h *ℚ ((a +ℚ b) +ℚ v *ℚ (a +ℚ n *ℚ b)) ≡ h *ℚ ((1ℚ +ℚ v) *ℚ a +ℚ (1ℚ +ℚ v *ℚ n) *ℚ b)
      regroup h a b v n = simp ring

  -- ---- a blend of a point of each
  blend_point : {x y : Vector} → s.dimension ≡ u.dimension → Within v 1ℚ → Point s γ x → Point u γ y
      → Point (in_raw_units (blended next s u)) γ (λ i. ι (pos scale) *ℚ (½ *ℚ ((1ℚ +ℚ v) *ℚ x i +ℚ (1ℚ +ℚ neg_ℚ v) *ℚ y i)))
  unfolding blended
  blend_point {x} {y} d w p q = record {
    numbers = [];
    one_each = refl;
    in_range = Sum.none;
    near = λ i h. near_as (near_by i h) (sym (blended-value i))
        (sym (ap (λ (n : ℕ). ι (pos n)) (raw_units_radius (blended next s u) i ∙ get_d_tab s.dimension _ 0 i h)));
  }
    where
      near_by : (i : ℕ) → i < s.dimension
          → Near (ι (pos scale) *ℚ (½ *ℚ ((1ℚ +ℚ v) *ℚ x i +ℚ (1ℚ +ℚ neg_ℚ v) *ℚ y i)))
          (H *ℚ ((1ℚ +ℚ v) *ℚ main_at s γ i +ℚ (1ℚ +ℚ neg_ℚ v) *ℚ main_at u γ i))
          (ι (pos (scale * larger (independent_size s i) (independent_size u i))))
      near_by i h =
          let n₁ = independent_near p i h in
          let n₂ = independent_near q i (omega arith) in
          let R = larger (independent_size s i) (independent_size u i) in
          let d₁ = n₁.off in
          let d₂ = n₂.off in record {
            off = ι (pos scale) *ℚ (½ *ℚ (1ℚ +ℚ v) *ℚ d₁ +ℚ ½ *ℚ (1ℚ +ℚ neg_ℚ v) *ℚ d₂);
            small = subst (Within (ι (pos scale) *ℚ (½ *ℚ (1ℚ +ℚ v) *ℚ d₁ +ℚ ½ *ℚ (1ℚ +ℚ neg_ℚ v) *ℚ d₂))) (sym (ι-*ℕ scale R))
                (within-* (within-NonNeg (NonNeg-ι scale) (≤ℚ-refl (ι (pos scale))))
                (convex (within_mono n₁.small (ι-mono (larger-left (independent_size s i) (independent_size u i))))
                (within_mono n₂.small (ι-mono (larger_right (independent_size s i) (independent_size u i)))) (NonNeg-* NonNeg-½ more_than)
                (NonNeg-* NonNeg-½ (gap w.hi)) together));
            is = ap₂ (λ (a b : ℚ). ι (pos scale) *ℚ (½ *ℚ ((1ℚ +ℚ v) *ℚ a +ℚ (1ℚ +ℚ neg_ℚ v) *ℚ b))) n₁.is n₂.is
                ∙ apart (ι (pos scale)) ½ (1ℚ +ℚ v) (1ℚ +ℚ neg_ℚ v) (main_at s γ i) d₁ (main_at u γ i) d₂
                ∙ ap (◌+ℚ ι (pos scale) *ℚ (½ *ℚ (1ℚ +ℚ v) *ℚ d₁ +ℚ ½ *ℚ (1ℚ +ℚ neg_ℚ v) *ℚ d₂))
                (half-scale ((1ℚ +ℚ v) *ℚ main_at s γ i +ℚ (1ℚ +ℚ neg_ℚ v) *ℚ main_at u γ i));
          }
        where
          apart : (k f m n a d b e : ℚ)
              → k *ℚ (f *ℚ (m *ℚ (a +ℚ d) +ℚ n *ℚ (b +ℚ e))) ≡ k *ℚ (f *ℚ (m *ℚ a +ℚ n *ℚ b)) +ℚ k *ℚ (f *ℚ m *ℚ d +ℚ f *ℚ n *ℚ e)
          apart k f m n a d b e = simp ring

          half-scale : (z : ℚ) → ι (pos scale) *ℚ (½ *ℚ z) ≡ H *ℚ z
          half-scale z = ap (◌*ℚ (½ *ℚ z)) (ι-+ (pos 8388608) (pos 8388608)) ∙ two H ½ z ∙ half_twice (H *ℚ z)
            where
              two : (h f z : ℚ) → (h +ℚ h) *ℚ (f *ℚ z) ≡ f *ℚ (h *ℚ z +ℚ h *ℚ z)
              two h f z = simp ring

          more_than : NonNeg (1ℚ +ℚ v)
          more_than = subst NonNeg (ap (v +ℚ◌) (neg_ℚ-neg_ℚ 1ℚ) ∙ +ℚ-comm v 1ℚ) (gap w.lo)

          together : ½ *ℚ (1ℚ +ℚ v) +ℚ ½ *ℚ (1ℚ +ℚ neg_ℚ v) ≡ 1ℚ
          together = regroup ½ 1ℚ v (neg_ℚ v) ∙ ap (λ (a : ℚ). ½ *ℚ (1ℚ +ℚ 1ℚ +ℚ a)) (+ℚ-neg v)
              ∙ ap (½ *ℚ◌) (+ℚ-zero (1ℚ +ℚ 1ℚ)) ∙ half_twice 1ℚ
            where
              regroup : (f a v w : ℚ) → f *ℚ (a +ℚ v) +ℚ f *ℚ (a +ℚ w) ≡ f *ℚ (a +ℚ a +ℚ (v +ℚ w))
              regroup f a v w = simp ring

-- at the values γ, which has the blend as the value of `next`, the blend of a point of each set is a point of the hull
pub hull_point : (weights : List ℕ) (next : ℕ) {s u : Zonotope} {γ x y : Vector} → InRange γ → rises ltb s.identifiers ≡ true
    → s.dimension ≡ u.dimension → Point s γ x → Point u γ y
    → Point (hull weights next s u) γ (between (γ next) x y)
unfolding hull
hull_point weights next {s} {u} {γ} w r d p q =
    (finish_covers weights max_terms max_generators (rounded (blended next s u))).keeps w
    (rounded_point _ w (blend_point next s u γ r d (w next) p q))

-- ---- what is claimed of it
point_as : {s : Zonotope} {α x y : Vector} → ((i : ℕ) → x i ≡ y i) → Point s α x → Point s α y
point_as e p = record {
  numbers = p.numbers;
  one_each = p.one_each;
  in_range = p.in_range;
  near = λ i h. record { off = (p.near i h).off; small = (p.near i h).small; is = sym (e i) ∙ (p.near i h).is };
}

-- values with a fresh one
old_values : (next : ℕ) (c : ℚ) (α : Vector) (k : ℕ) → k < next → α k ≡ with_fresh next c α k
old_values next c α k h = rw (lt-ltb k next h)

fresh_in : (next : ℕ) {c : ℚ} {α : Vector} → Within c 1ℚ → InRange α → InRange (with_fresh next c α)
fresh_in next {c} {α} h w k = go (ltb k next)
  where
    go : (b : Bool) → Within (cond b (α k) c) 1ℚ
    go true = w k
    go false = h

-- Every point between the two, at equal factor values, is one of the hull.
pub hull-between : HullBetween
hull-between weights next s u α x y o c h =
    subst (λ (a : ℚ). Point (hull weights next s u) (with_fresh next c α) (between a x y)) (rw (le-ltb next next (omega arith)))
    (hull_point weights next {s = s} {u = u} (fresh_in next h o.in_range) o.in_order o.same-dimension
    ((same-values (All-imp (old_values next c α) o.first_below)).0 o.first)
    ((same-values (All-imp (old_values next c α) o.second_below)).0 o.second))

between-one : (x y : Vector) (i : ℕ) → between 1ℚ x y i ≡ x i
between-one x y i =
    ap (λ (z : ℚ). ½ *ℚ ((1ℚ +ℚ 1ℚ) *ℚ x i +ℚ z *ℚ y i)) (+ℚ-neg 1ℚ)
    ∙ ap (½ *ℚ◌) (ap ((1ℚ +ℚ 1ℚ) *ℚ x i +ℚ◌) (zero-*ℚ (y i)) ∙ simp ring)
    ∙ half_twice (x i)

between-minus-one : (x y : Vector) (i : ℕ) → between (neg_ℚ 1ℚ) x y i ≡ y i
between-minus-one x y i =
    ap₂ (λ (z c : ℚ). ½ *ℚ (z *ℚ x i +ℚ (1ℚ +ℚ c) *ℚ y i)) (+ℚ-neg 1ℚ) (neg_ℚ-neg_ℚ 1ℚ)
    ∙ ap (½ *ℚ◌) (ap (◌+ℚ (1ℚ +ℚ 1ℚ) *ℚ y i) (zero-*ℚ (x i)) ∙ simp ring)
    ∙ half_twice (y i)

-- At the blend 1 the first set's points, at -1 the second's.
pub hull-ends : HullEnds
hull-ends weights next s u α x y o = (
  point_as (between-one x y) (hull-between weights next s u α x y o 1ℚ within-one),
  point_as (between-minus-one x y) (hull-between weights next s u α x y o (neg_ℚ 1ℚ) (within-neg within-one)),
)
