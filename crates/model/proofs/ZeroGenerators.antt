-- Dropping generators of zeros leaves the points of a set as they are.
use mathlib.Core.Path.{◌≡◌, refl, sym, ◌∙◌, ap}
use mathlib.Core.List.{List, [], ◌∷◌}
use mathlib.Core.Bool.{Bool, not}
use Prim.Native.Nat.{ℕ, suc}
use native.Mathlib.Omega.{arith}
use native.Mathlib.Nat.{suc_inj}
use lib.Dec.{T}
use lib.ListN.{length}
use lib.IntN.{ℤ}
use Rattle.rational.specs.Rational.{ℚ, ◌+ℚ◌, ◌*ℚ◌, ι, 0ℚ, 1ℚ}
use Rattle.rational.proofs.Ring.{zero-+ℚ}
use Rattle.rational.proofs.Order.{ι-mono}
use Rattle.rational.specs.Bounds.{Within}
use Rattle.rational.proofs.Bounds.{within_mono, within-zero}
use Rattle.rational.proofs.Near.{near_as}
use Rattle.rational.specs.Sum.{All, none, more}
use Rattle.model.specs.Set.{Zonotope, at}
use Rattle.model.specs.Valid.{zeros}
use Rattle.model.specs.Finish.{core, those, with_generators, drop_zero_generators}
use Rattle.model.specs.Points.{Vector, terms_at, generators_at, value_at, Point}
use Rattle.model.proofs.Choice.{by_test}
use Rattle.model.proofs.Alike.{Alike}
use Rattle.model.proofs.CollectCovers.{zeros_times}

-- numbers in [-1,1] at which the generators come to v
record Reached (gs : List (List ℤ)) (v : Vector) : Type 0 where
  numbers : List ℚ
  one_each : length numbers ≡ length gs
  in_range : All (λ b. Within b 1ℚ) numbers
  value : (i : ℕ) → generators_at gs numbers i ≡ v i

-- other generators that come to the same
points_by : (s : Zonotope) (gs : List (List ℤ)) {α x : Vector} (p : Point s α x) → Reached gs (generators_at s.generators p.numbers)
    → Point (with_generators s (record { core = core s; kept = gs })) α x
unfolding value_at
points_by s gs {α} p r = record {
  numbers = r.numbers;
  one_each = r.one_each;
  in_range = r.in_range;
  near = λ i h. near_as (p.near i h) (ap ((ι (at s.centre i) +ℚ terms_at α s.identifiers s.terms i) +ℚ◌) (sym (r.value i))) refl;
}

within_unit : Within 0ℚ 1ℚ
within_unit = within_mono within-zero (ι-mono (omega arith))

one_more : {gs : List (List ℤ)} {v : Vector} (g : List ℤ) {b : ℚ} → Within b 1ℚ → Reached gs v
    → Reached (g ∷ gs) (λ i. ι (at g i) *ℚ b +ℚ v i)
unfolding generators_at
one_more g {b} w r = record {
  numbers = b ∷ r.numbers;
  one_each = ap suc r.one_each;
  in_range = more w r.in_range;
  value = λ i. ap ((ι (at g i) *ℚ b) +ℚ◌) (r.value i);
}

reached_as : {gs : List (List ℤ)} {u v : Vector} → ((i : ℕ) → u i ≡ v i) → Reached gs u → Reached gs v
reached_as e r = record { numbers = r.numbers; one_each = r.one_each; in_range = r.in_range; value = λ i. r.value i ∙ e i }

-- generators that fail the test p come to 0, whatever their numbers
module _ (p : List ℤ → Bool) (nothing : (g : List ℤ) (b : ℚ) → T (not (p g)) → (i : ℕ) → ι (at g i) *ℚ b ≡ 0ℚ) where
  zero_front : (g : List ℤ) (b : ℚ) (v : Vector) → T (not (p g)) → (i : ℕ) → v i ≡ ι (at g i) *ℚ b +ℚ v i
  zero_front g b v n i = sym (zero-+ℚ (v i)) ∙ ap (◌+ℚ v i) (sym (nothing g b n i))

  -- those that are kept come to what all came to
  those-reached : (gs : List (List ℤ)) (bs : List ℚ) → length bs ≡ length gs → All (λ b. Within b 1ℚ) bs
      → Reached (those p gs) (generators_at gs bs)
  unfolding those generators_at
  those-reached [] bs e r = record { numbers = []; one_each = refl; in_range = none; value = λ i. refl }
  those-reached (g ∷ gs) [] e r = absurd (omega (arith, e))
  those-reached (g ∷ gs) (b ∷ bs) e (more w r) = let h = those-reached gs bs (suc_inj e) r in
      by_test (λ k. Reached k (λ i. ι (at g i) *ℚ b +ℚ generators_at gs bs i)) (p g) (λ _. one_more g w h)
      (λ n. reached_as (zero_front g b (generators_at gs bs) n) h)

  -- and with the number 0 for each that is dropped, all come to what those came to
  reached_by_those : (gs : List (List ℤ)) (bs : List ℚ) → length bs ≡ length (those p gs) → All (λ b. Within b 1ℚ) bs
      → Reached gs (generators_at (those p gs) bs)
  unfolding those generators_at
  reached_by_those [] bs e r = record { numbers = []; one_each = refl; in_range = none; value = λ i. refl }
  reached_by_those (g ∷ gs) bs e r =
      by_test (λ k. length bs ≡ length k → Reached (g ∷ gs) (generators_at k bs)) (p g) (λ _. kept (λ b. reached_by_those gs b) bs r)
      (λ n l. reached_as (λ i. sym (zero_front g 0ℚ (generators_at (those p gs) bs) n i))
      (one_more g within_unit (reached_by_those gs bs l r))) e
    where
      kept : ((b : List ℚ) → length b ≡ length (those p gs) → All (λ b. Within b 1ℚ) b → Reached gs (generators_at (those p gs) b))
          → (bs : List ℚ) → All (λ b. Within b 1ℚ) bs → length bs ≡ suc (length (those p gs))
          → Reached (g ∷ gs) (generators_at (g ∷ those p gs) bs)
      kept ih [] r l = absurd (omega (arith, l))
      kept ih (b ∷ bs) (more w r) l = one_more g w (ih bs (suc_inj l) r)

-- stage 2, generators: the points stay
pub zero_generators_alike : (s : Zonotope) → Alike s (drop_zero_generators s)
unfolding drop_zero_generators
zero_generators_alike s =
    let p : List ℤ → Bool = λ g. not (zeros g) in let gs = s.generators in let u = drop_zero_generators s in record {
      same = (
        λ q. points_by s (those p gs) q (those-reached p zeros_times gs q.numbers q.one_each q.in_range),
        λ q. points_by u gs q (reached_by_those p zeros_times gs q.numbers q.one_each q.in_range),
      );
    }
