-- Radii before and after folding, by operation.
use mathlib.Core.Path.{◌≡◌, refl, ◌∙◌}
use mathlib.Core.List.{List, map}
use Prim.Native.Nat.{ℕ, ◌+◌, ◌*◌, ◌/◌, ◌<◌}
use lib.ListN.{get_or, get_or-map}
use lib.IntN.{pos, nat_abs}
use Rattle.whole.specs.Round.{scale}
use Rattle.whole.specs.Tab.{get_d_tab}
use Rattle.model.specs.Limits.{max_terms, max_generators, standard_weights}
use Rattle.model.specs.Set.{Zonotope, at, radius, independent_size}
use Rattle.model.specs.Finish.{collect_terms, drop_zero_terms, drop_zero_generators, fold_high, fold_terms, fold_generators, drop_unused}
use Rattle.model.specs.Finish.{finish}
use Rattle.model.specs.Step.{Step, RawImage, raw, remainder, inexact_at, carried_at, rounded_at, rounded}
use Rattle.model.specs.Operations.{joined, renumbered}
use Rattle.model.specs.Ranged.{gaining_raw}
use Rattle.model.specs.Hull.{larger, blended}
use Rattle.model.specs.Body.{dimension, radius_words, given_set}
use Rattle.model.specs.Field.{folds_of}
use Rattle.model.proofs.Radii.{radius-given, radius-plus}
use Rattle.model.proofs.Folding.{finish-radius}
use Rattle.model.proofs.Rounded.{rounded-radius}

-- ---- the radius before folding
-- of a body's set
pub given-radius : (b : List ℕ) (i : ℕ) → radius (given_set b) i ≡ nat_abs (at (radius_words b) i)
unfolding given_set
given-radius b i = radius-given (dimension b) (map nat_abs (radius_words b)) i ∙ get_or-map nat_abs (radius_words b) i (pos 0)

pub renumbered-radius : (next : ℕ) (u : Zonotope) (i : ℕ) → radius (renumbered next u) i ≡ radius u i
unfolding renumbered
renumbered-radius next u i = refl

-- of a sum
pub joined-radius : (s u : Zonotope) (i : ℕ) → radius (joined s u) i ≡ radius s i + radius u i
unfolding joined
joined-radius s u i = radius-plus s.radii u.radii i

-- S of a step's image, with gains
pub raw-remainder : (p : Step) (s : Zonotope) (i : ℕ) → i < p.rows → get_or (raw p s).remainders i 0 ≡ remainder p s i
unfolding raw
raw-remainder p s i h = get_d_tab p.rows (remainder p s) 0 i h

pub gaining_remainder : (gains : ℕ → ℕ) (p : Step) (s : Zonotope) (i : ℕ) → i < p.rows
    → get_or (gaining_raw gains p s).remainders i 0 ≡ remainder p s i + gains i
gaining_remainder gains p s i h = get_d_tab p.rows (λ j. remainder p s j + gains j) 0 i h

pub gaining_inexact : (gains : ℕ → ℕ) (p : Step) (s : Zonotope) (i : ℕ) → inexact_at (gaining_raw gains p s) i ≡ inexact_at (raw p s) i
unfolding inexact_at
gaining_inexact gains p s i = refl

-- of a blend
pub blended-remainder : (next : ℕ) (s u : Zonotope) (i : ℕ) → i < s.dimension
    → get_or (blended next s u).remainders i 0 ≡ scale * larger (independent_size s i) (independent_size u i)
unfolding blended
blended-remainder next s u i h = get_d_tab s.dimension _ 0 i h

-- of what is rounded
pub settled-radius : (r : RawImage) (i : ℕ) → i < r.dimension
    → radius (rounded r) i ≡ (get_or r.remainders i 0 + 16777215) / scale + (inexact_at r i + 1) / 2
unfolding carried_at rounded_at
settled-radius r i h = rounded-radius r i h

-- ---- after folding
pub finished_radius : (u : Zonotope) (i : ℕ) → radius (finish standard_weights max_terms max_generators u) i ≡ radius u i + get_or (folds_of u) i 0
finished_radius u i = finish-radius standard_weights max_terms max_generators u i

-- a coordinate of the finished set is one of the set
pub finished_in : (u : Zonotope) {i : ℕ} → i < (finish standard_weights max_terms max_generators u).dimension → i < u.dimension
unfolding finish drop_unused fold_generators fold_terms fold_high drop_zero_generators drop_zero_terms collect_terms
finished_in u h = h

-- of a sum, of what is rounded, and of an image, with gains
pub joined_in : (s u : Zonotope) {i : ℕ} → i < (joined s u).dimension → i < s.dimension
unfolding joined
joined_in s u h = h

pub rounded_in : (r : RawImage) {i : ℕ} → i < (rounded r).dimension → i < r.dimension
unfolding rounded
rounded_in r h = h

pub raw_in : (gains : ℕ → ℕ) (p : Step) (s : Zonotope) {i : ℕ} → (i < (raw p s).dimension → i < p.rows) × (i < (gaining_raw gains p s
    ).dimension → i < p.rows)
unfolding raw
raw_in gains p s = (λ h. h, λ h. h)

pub blended_in : (next : ℕ) (s u : Zonotope) {i : ℕ} → i < (blended next s u).dimension → i < s.dimension
unfolding blended
blended_in next s u h = h

pub reduced_in : (weights : List ℕ) (h q : ℕ) (s : Zonotope) {i : ℕ} → i < (finish weights h q s).dimension → i < s.dimension
unfolding finish drop_unused fold_generators fold_terms fold_high drop_zero_generators drop_zero_terms collect_terms
reduced_in weights h q s l = l
