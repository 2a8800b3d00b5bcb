-- Where the check says safe, no point of the set is in the unsafe region.
use mathlib.Core.Path.{◌≡◌, sym, ◌∙◌, ap, ap₂}
use mathlib.Core.List.{List, [], ◌∷◌}
use mathlib.Core.Bool.{Bool, true, false, ◌||◌}
use Prim.Native.Nat.{ℕ, ◌*◌}
use lib.Dec.{T}
use lib.IntN.{ℤ, pos, nat_abs, ◌*ℤ◌}
use lib.Signed.{lt_z, lt_z_yes}
use Rattle.whole.specs.Sum.{upto_ℕ}
use Rattle.whole.specs.Tab.{any}
use Rattle.rational.specs.Rational.{ℚ, ◌+ℚ◌, ◌*ℚ◌, ι, ◌≤ℚ◌}
use Rattle.rational.proofs.Ring.{*ℚ-+ℚ, *ℚ-comm, ring}
use Rattle.rational.proofs.Pinned.{ι-*, ι-<}
use Rattle.rational.proofs.Order.{<ℚ-≤ℚ-trans}
use Rattle.rational.proofs.Bounds.{within-*, within-ι}
use Rattle.rational.specs.Near.{Near}
use Rattle.rational.proofs.Near.{near_as}
use Rattle.rational.specs.Sum.{sum, more}
use Rattle.rational.proofs.Sum.{sum-+, sum-*, sum_near, sum-swap, sum_cong}
use Rattle.model.specs.Set.{Zonotope, at, radius}
use Rattle.model.specs.Step.{dot}
use Rattle.model.specs.Operations.{Halfspace, low_along, safe}
use Rattle.model.specs.Points.{Vector, Point, InRange}
use Rattle.model.specs.Motion.{places, Unsafe}
use Rattle.model.proofs.Parts.{Part, parts_of, near_parts, spread, comes}
use Rattle.model.proofs.WholeForms.{All-places, ι-upto, ι-upto_ℕ}
use Rattle.model.proofs.Ends.{total, low_holds}

-- a·x over the first n coordinates
abbrev along : List ℤ → ℕ → Vector → ℚ
along a n x = sum (λ j. ι (at a j) *ℚ x j) (places n)

-- a·v at a vector of whole numbers
along-whole : (a : List ℤ) (n : ℕ) (v : List ℤ) → along a n (λ j. ι (at v j)) ≡ ι (dot n (at a) (at v))
unfolding dot
along-whole a n v = sum_cong _ _ (places n) (λ j. sym (ι-* (at a j) (at v j))) ∙ sym (ι-upto (λ j. at a j *ℤ at v j) n)

-- a·x at what parts come to
along-parts : (a : List ℤ) (n : ℕ) (ps : List Part) → along a n (spread ps) ≡ total (λ v. dot n (at a) (at v)) ps
unfolding spread
along-parts a n ps =
    sum_cong _ _ (places n) (λ j. sym (sum-* (ι (at a j)) (comes j) ps)) ∙ sum-swap (λ j p. ι (at a j) *ℚ comes j p) (places n) ps
    ∙ sum_cong _ _ ps (λ p. sum_cong _ _ (places n) (λ j. turn (ι (at a j)) (ι (at p.vector j)) p.times)
    ∙ sum-* p.times (λ j. ι (at a j) *ℚ ι (at p.vector j)) (places n)
    ∙ ap (p.times *ℚ◌) (along-whole a n p.vector) ∙ *ℚ-comm p.times (ι (dot n (at a) (at p.vector))))
  where
    turn : (a v t : ℚ) → a *ℚ (v *ℚ t) ≡ t *ℚ (a *ℚ v)
    turn a v t = simp ring

along_near : (a : List ℤ) {s : Zonotope} {α x : Vector} (p : Point s α x)
    → Near (along a s.dimension x)
    (ι (dot s.dimension (at a) (at s.centre)) +ℚ total (λ v. dot s.dimension (at a) (at v)) (parts_of s α p.numbers))
    (ι (pos (upto_ℕ (λ j. nat_abs (at a j) * radius s j) s.dimension)))
along_near a {s} {α} {x} p =
    let n = s.dimension in
    let ps = parts_of s α p.numbers in
    near_as (sum_near (All-places n (λ j h. times (at a j) (near_parts p j h))))
    (sum_cong _ _ (places n) (λ j. *ℚ-+ℚ (ι (at a j)) (ι (at s.centre j)) (spread ps j))
    ∙ sum-+ (λ j. ι (at a j) *ℚ ι (at s.centre j)) (λ j. ι (at a j) *ℚ spread ps j) (places n)
    ∙ ap₂ ◌+ℚ◌ (along-whole a n s.centre) (along-parts a n ps))
    (sum_cong _ _ (places n) (λ j. sym (ι-* (pos (nat_abs (at a j))) (pos (radius s j))))
    ∙ sym (ι-upto_ℕ (λ j. nat_abs (at a j) * radius s j) n))
  where
    times : (c : ℤ) {y v r : ℚ} → Near y v r → Near (ι c *ℚ y) (ι c *ℚ v) (ι (pos (nat_abs c)) *ℚ r)
    times c {y} {v} n = record {
      off = ι c *ℚ n.off;
      small = within-* (within-ι c) n.small;
      is = ap (ι c *ℚ◌) n.is
          ∙ *ℚ-+ℚ (ι c) v n.off;
    }

-- a halfspace whose bound the lower end exceeds has no point of the set
pub apart : (h : Halfspace) {s : Zonotope} {α x : Vector} → InRange α → Point s α x → T (lt_z h.bound (low_along h.normal s))
    → ¬ (along h.normal s.dimension x ≤ℚ ι h.bound)
unfolding low_along
apart h {s} w p t le =
    let low = low_holds (λ v. dot s.dimension (at h.normal) (at v)) _ w p (along_near h.normal p) in
    (<ℚ-≤ℚ-trans ((ι-< h.bound (low_along h.normal s)).1 (lt_z_yes t)) low).lt le

pub safe_point : (hs : List Halfspace) {s : Zonotope} {α x : Vector} → InRange α → Point s α x → T (safe hs s) →
    ¬ (Unsafe hs s.dimension x)
unfolding safe any
safe_point [] w p t u = t
safe_point (h ∷ hs) {s} {α} {x} w p t (more le rest) =
    by_case (lt_z h.bound (low_along h.normal s)) (safe hs s) (λ b. apart h w p b le) (λ b. safe_point hs w p b rest) t
  where
    by_case : (b c : Bool) → (T b → ⊥) → (T c → ⊥) → T (b || c) → ⊥
    by_case true c f g t = f tt
    by_case false c f g t = g t
