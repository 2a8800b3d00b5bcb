-- What each kind of field leaves, by its laws. A field that may stand where it does has a kind.
use mathlib.Core.Path.{◌≡◌, refl, sym, ◌∙◌, ap}
use mathlib.Core.List.{List, [], ◌∷◌, map}
use mathlib.Core.Bool.{Bool, true, false, true≢false}
use Prim.Native.Nat.{ℕ, zero, suc, ◌<◌, ◌≤◌}
use native.Mathlib.Omega.{arith}
use lib.Dec.{ltb}
use lib.ListN.{length, get_or, get_or-map, get_or-eq_default}
use Rattle.whole.specs.Tab.{tab, get_d_tab}
use borrow.Author.Tests.{ltb-true, ltb-false, eqb-true, not-false}
use Rattle.whole.specs.Tests.{or_left, or_right}
use Rattle.model.specs.Limits.{first_fresh, last_tag}
use Rattle.model.specs.Set.{Zonotope}
use Rattle.model.specs.Finish.{those}
use Rattle.model.specs.Field.{Kind, step, ranged_step, unknown, meaning, describe, kinds}
use Rattle.model.specs.Run.{tag, kind_of, misplaced, cut}
use Rattle.model.proofs.Held.{Held}
use Rattle.model.proofs.Accepted.{Passed}
pub use Rattle.model.proofs.Laws.{starts, Leaves}
use Rattle.model.proofs.Kind.{laws}

-- What an accepted field leaves is held.
pub leaves : (k : Kind) (b : List ℕ) (next : ℕ) (s : Zonotope) → first_fresh ≤ next → (starts k ≡ false → Held next s)
    → Passed (meaning k b next s) → Leaves next (meaning k b next s)
leaves k = (laws k).leaves

-- Only a step and a ranged step are worked out in the work slices; every other field leaves them as they are.
pub only_steps_work : those (λ k. (describe k).works) kinds ≡ step ∷ ranged_step ∷ []
unfolding those
only_steps_work = refl

-- ---- a field that may stand where it does has a kind
-- the kinds stand in the order of their tags
in_order : map (λ k. (describe k).tag) kinds ≡ tab (length kinds) (λ t. t)
unfolding tab
in_order = refl

pub tag_is : (t : ℕ) → t ≤ last_tag → (describe (kind_of t)).tag ≡ t
unfolding kind_of
tag_is t h =
    sym (get_or-map (λ k. (describe k).tag) kinds t unknown) ∙ ap (λ l. get_or l t 0) in_order
    ∙ get_d_tab (length kinds) (λ t. t) 0 t (omega arith)

-- a tag that has a kind is the kind's
pub tag_of : (t : ℕ) → 0 < (describe (kind_of t)).tag → (describe (kind_of t)).tag ≡ t
unfolding kind_of
tag_of t h = go (ltb last_tag t) refl
  where
    go : (b : Bool) → ltb last_tag t ≡ b → (describe (kind_of t)).tag ≡ t
    go true e =
        let none : (describe (kind_of t)).tag ≡ 0 =
        ap (λ k. (describe k).tag) (get_or-eq_default kinds unknown {n = t} (ltb-true last_tag t e)) in
        absurd (omega (arith, h, none))
    go false e = tag_is t (ltb-false last_tag t e)

pub known_tag : (t : ℕ) → 1 ≤ t → t ≤ last_tag → kind_of t ≡ unknown → ⊥
known_tag t l h e = omega (arith, l, tag_is t h, ap (λ k. (describe k).tag) e)

pub known : (count : ℕ) (f : List ℕ) → misplaced count f ≡ false → cut f ≡ false → kind_of (tag f) ≡ unknown → ⊥
unfolding misplaced cut
known count [] p q e = true≢false q
known zero (t ∷ f) p q e = let h = eqb-true t 1 (not-false _ p) in known_tag t (omega arith) (omega arith) e
known (suc n) (t ∷ f) p q e =
    let a = ltb-false t 2 (or_left (ltb t 2) (ltb last_tag t) p) in
    let b = ltb-false last_tag t (or_right (ltb t 2) (ltb last_tag t) p) in
    known_tag t (omega arith) b e
