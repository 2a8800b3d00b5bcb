-- What is proved of each kind of field: the one list of laws that a kind answers to (proofs/Kind.antt), and what kinds share in proving it.
-- Every theorem about runs comes from these laws.
use mathlib.Core.Path.{◌≡◌, refl, sym, ◌∙◌, ap, subst}
use mathlib.Core.List.{List, [], ◌∷◌, map}
use mathlib.Core.Bool.{Bool, true, false, cond, ◌||◌, true≢false}
use Prim.Native.Nat.{ℕ, zero, suc, ◌+◌, ◌<◌, ◌≤◌}
use native.Mathlib.Omega.{arith}
use lib.Dec.{ltb, eqb}
use lib.ListN.{length, get_or}
use lib.IntN.{pos}
use borrow.Author.Tests.{lt-ltb, eq-eqb, ne_eqb}
use Rattle.whole.specs.Tab.{tab, any, length-tab}
use Rattle.rational.specs.Rational.{ℚ, ◌+ℚ◌, ι, 1ℚ}
use Rattle.rational.specs.Bounds.{Within}
use Rattle.rational.specs.Sum as Sum
use Rattle.rational.specs.Sum.{All, more}
use Rattle.rational.proofs.Sum.{All-imp}
use Rattle.model.specs.Limits.{max_dimension, max_factors, file_identifiers, first_fresh}
use Rattle.model.specs.Set.{Zonotope, radius}
use Rattle.model.specs.Valid.{rises}
use Rattle.model.specs.Operations.{box}
use Rattle.model.specs.Body.{dimension, step_rows, step_columns, given_step, given_widths, given_halfspaces}
use Rattle.model.specs.Described.{body_order, within}
use Rattle.model.specs.Field.{Kind, check, ranged_step, unknown, describe, Outcome, inside, verdict, refused, skipped}
use Rattle.model.specs.Field.{Meaning, meaning, bad_dimension}
use Rattle.model.specs.Run.{of_body}
use Rattle.model.specs.Points.{Vector, value_at, Point, InRange}
use Rattle.model.specs.Motion.{Picks, InWidths, body_point, offset_limit, move, with_values, fresh_values, values_after, mark_after, Unsafe}
use Rattle.model.specs.Origin.{ruled}
use Rattle.model.specs.Promised.{coordinates_after}
use Rattle.model.proofs.Tests.{or_false, all-tab, true-rises}
use Rattle.model.proofs.Shape.{Valid, Ordered, ranged}
use Rattle.model.proofs.Held.{Held}
use Rattle.model.proofs.Accepted.{Passed, dimension_in}

-- whether a kind begins a run
abbrev pub starts : Kind → Bool
starts k = eqb (describe k).tag 1

-- where folding starts from: the set's own folded parts, or 0 where the kind makes the parts anew
abbrev pub folded_before : Kind → Zonotope → List ℕ
folded_before k s = cond (describe k).anew [] s.radii.folded

-- ---- what it leaves
pub record Leaves (next : ℕ) (m : Meaning) : Type 0 where
  pub holds : Held m.next m.result
  pub no_less : next ≤ m.next
  pub at_most : m.next ≤ next + max_factors

-- a file's identifiers are below every fresh one
pub file_in : {next : ℕ} {s : Zonotope} → first_fresh ≤ next → Valid file_identifiers s → All (λ k. (0 < k) × (k < next)) s.identifiers
file_in {next} {s} l v = All-imp (λ k h. (h.0, below h.1 l)) (ranged file_identifiers s v.ranges).identifiers_in where
  below : {k n : ℕ} → k ≤ file_identifiers → first_fresh ≤ n → k < n
  below p q = omega arith

-- a kind that leaves the next identifier as it is
pub same_next : {next : ℕ} {m : Meaning} → m.next ≡ next → Held next m.result → Leaves next m
same_next {next} {m} e h = record { holds = subst (λ n. Held n m.result) (sym e) h; no_less = omega arith; at_most = omega arith }

-- the rows of a step whose counts are in limits
pub rows_in : (b : List ℕ) → (bad_dimension (step_rows b) || bad_dimension (step_columns b)) ≡ false
    → (0 < step_rows b) × (step_rows b ≤ max_dimension)
rows_in b h = dimension_in (step_rows b) (or_false (bad_dimension (step_rows b)) (bad_dimension (step_columns b)) h).0

-- ---- what it answers
-- the box of its result, a verdict, or, where the kind is unknown, nothing
pub data Answers (k : Kind) (m : Meaning) : Type 0 where
  with-box : m.outcome ≡ inside (box m.result) → Answers k m
  with_verdict : (v : Bool) → m.outcome ≡ verdict v → Answers k m
  with_nothing : k ≡ unknown → m.outcome ≡ skipped → Answers k m

-- whether it is a verdict
abbrev pub judges : Outcome → Bool
judges (inside b) = false
judges (verdict v) = true
judges (refused n place) = false
judges skipped = false

-- an outcome that is no verdict is not the verdict safe
pub no_verdict : {o : Outcome} → judges o ≡ false → o ≡ verdict true → ⊥
no_verdict n e = true≢false (sym (ap judges e) ∙ n)

-- ---- where it takes a motion
-- two motions pick the same at field m
pub record SameAt (p q : Picks) (m : ℕ) : Type 0 where
  pub values : p.values ≡ q.values
  pub own : p.own m ≡ q.own m
  pub numbers : p.numbers m ≡ q.numbers m
  pub offsets : p.offsets m ≡ q.offsets m
  pub blend : p.blend m ≡ q.blend m
  pub linear : p.linear m ≡ q.linear m
  pub quadratic : p.quadratic m ≡ q.quadratic m

-- the picks at field m are inside their limits
pub record Inside (p : Picks) (m : ℕ) (k : Kind) (b : List ℕ) : Type 0 where
  pub own : InRange (p.own m)
  pub numbers : (j : ℕ) → Within (p.numbers m j) 1ℚ
  pub blend : Within (p.blend m) 1ℚ
  pub offsets : (i : ℕ) → Within (p.offsets m i) (ι (pos (offset_limit k b i)))
  pub coefficients : k ≡ ranged_step → InWidths (given_step b) (given_widths b) (p.linear m) (p.quadratic m)

-- ---- a body's point is a point of the body
pub body-point : (p : Picks) (m : ℕ) (s : Zonotope) (α : Vector) → ((j : ℕ) → Within (p.numbers m j) 1ℚ)
    → ((i : ℕ) → Within (p.offsets m i) (ι (pos (radius s i)))) → Point s α (body_point p m s α)
body-point p m s α numbers offsets = record {
  numbers = tab (length s.generators) (p.numbers m);
  one_each = length-tab _ _;
  in_range = all-tab (length s.generators) (p.numbers m) (λ j h. numbers j);
  near = λ i h. record { off = p.offsets m i; small = offsets i; is = refl };
}

-- and the same where the picks are
pub body_same : {p q : Picks} {m : ℕ} → SameAt p q m → (s : Zonotope) {α β : Vector} → α ≡ β → body_point p m s α ≡ body_point q m s β
body_same h s e = λ j i. value_at s (e j) (tab (length s.generators) (h.numbers j)) i +ℚ h.offsets j i

-- ---- values of identifiers
-- the values picked for the file's identifiers, and the current ones
abbrev pub Agree : Picks → Vector → Type 0
Agree p α = (k : ℕ) → k < first_fresh → p.values k ≡ α k

pub file_agrees : (p : Picks) {α : Vector} {s : Zonotope} → Agree p α → Valid file_identifiers s
    → All (λ k. p.values k ≡ α k) s.identifiers
file_agrees p {s = s} e v = All-imp (λ k h. e k (below k h.1)) (ranged file_identifiers s v.ranges).identifiers_in
  where
    below : (k : ℕ) → k ≤ file_identifiers → k < first_fresh
    below k h = omega arith

-- values that are the same below `next` agree too
pub agree_below : (p : Picks) {α γ : Vector} {next : ℕ} → first_fresh ≤ next → Agree p α → ((k : ℕ) → k < next → γ k ≡ α k) → Agree p γ
agree_below p l e f k h = e k h ∙ sym (f k (omega arith))

pub rising : {s : Zonotope} → Ordered s → rises ltb s.identifiers ≡ true
rising o = true-rises ltb (λ a b h. lt-ltb a b h) o.identifiers_rise

-- ---- fresh identifiers
-- an identifier below the next fresh one keeps its value
pub old_value : (cs : List ℚ) (next : ℕ) (α : Vector) (j : ℕ) → j < next → with_values cs next α j ≡ α j
unfolding with_values
old_value [] next α j h = refl
old_value (c ∷ cs) next α j h = rw (ne_eqb j next (λ e. omega arith)) (old_value cs (suc next) α j (omega arith))

-- a fresh one takes its own
pub new_value : {A : Type 0} (g : A → Picks → ℕ → ℚ) (p : Picks) (m : ℕ) (l : List A) (d : A) (next : ℕ) (α : Vector) (j : ℕ) → j < length l
    → with_values (map (λ c. c p m) (map g l)) next α (next + j) ≡ g (get_or l j d) p m
unfolding with_values
new_value g p m [] d next α j h = absurd (omega arith)
new_value g p m (a ∷ l) d next α zero h = rw (eq-eqb (next + 0) next (omega arith))
new_value g p m (a ∷ l) d next α (suc j) h =
    rw (ne_eqb (next + suc j) next (λ e. omega arith))
    (ap (with_values (map (λ c. c p m) (map g l)) (suc next) α) (shifted next j) ∙ new_value g p m l d (suc next) α j (omega arith))
  where
    shifted : (n j : ℕ) → n + suc j ≡ suc n + j
    shifted n j = omega arith

-- values in [-1,1] stay there
pub values_range : (cs : List ℚ) (next : ℕ) {α : Vector} → All (λ c. Within c 1ℚ) cs → InRange α → InRange (with_values cs next α)
unfolding with_values
values_range [] next Sum.none w j = w j
values_range (c ∷ cs) next (more h t) w j = cond_range (eqb j next) h (values_range cs (suc next) t w j)
  where
    cond_range : {x y : ℚ} (b : Bool) → Within x 1ℚ → Within y 1ℚ → Within (cond b x y) 1ℚ
    cond_range true h k = h
    cond_range false h k = k

-- ---- the laws of a kind
pub record Laws (k : Kind) : Type 0 where
  -- where the set that it is given is held and its tests are passed, what it leaves is held
  pub leaves : (b : List ℕ) (next : ℕ) (s : Zonotope) → first_fresh ≤ next → (starts k ≡ false → Held next s)
      → Passed (meaning k b next s) → Leaves next (meaning k b next s)
  -- one that begins a run asks nothing of a set, and one that goes on with the parts of the radius finds a set
  pub alone : starts k ≡ true → (b : List ℕ) (next : ℕ) (s u : Zonotope) → meaning k b next s ≡ meaning k b next u
  pub goes_on : (describe k).anew ≡ false → starts k ≡ false
  -- its causes are asked in the order of document 01, and only a disturbance has 14
  pub in_order : (b : List ℕ) (next : ℕ) (s : Zonotope) (bytes : ℕ)
      → within (map (λ c. c.number) (of_body (meaning k b next s) bytes)) body_order ≡ true
  pub only-three : (b : List ℕ) (next : ℕ) (s : Zonotope) (bytes : ℕ) → eqb (describe k).tag 3 ≡ false
      → any (λ c. eqb c.number 14) (of_body (meaning k b next s) bytes) ≡ false
  -- the coordinates of its result are those that its body counts
  pub leaves_coordinates : (b : List ℕ) (next : ℕ) (s : Zonotope)
      → (meaning k b next s).result.dimension ≡ coordinates_after k b s.dimension
  -- what it answers; a verdict only where it is a check
  pub answers : (b : List ℕ) (next : ℕ) (s : Zonotope) → Answers k (meaning k b next s)
  pub judged : (b : List ℕ) (next : ℕ) (s : Zonotope) → judges (meaning k b next s).outcome ≡ true → k ≡ check
  -- where a verdict is safe, no point of the result is in the unsafe region
  pub answered-safe : (b : List ℕ) (next : ℕ) (s : Zonotope) {α x : Vector} → Passed (meaning k b next s) → InRange α
      → Point (meaning k b next s).result α x → (meaning k b next s).outcome ≡ verdict true
      → ¬ (Unsafe (given_halfspaces b) (dimension b) x)
  -- the next identifier is the mark that the body counts, and fresh values are in [-1,1]
  pub next-counted : (b : List ℕ) (next : ℕ) (s : Zonotope) → (meaning k b next s).next ≡ mark_after k b next
  pub fresh_range : (b : List ℕ) (p : Picks) (m : ℕ) → InRange (p.own m) → Within (p.blend m) 1ℚ
      → All (λ c. Within c 1ℚ) (fresh_values k b p m)
  -- only the picks at its field matter to it
  pub same_fresh : {p q : Picks} {m : ℕ} → SameAt p q m → (b : List ℕ) → fresh_values k b p m ≡ fresh_values k b q m
  pub same_move : {p q : Picks} {m : ℕ} → SameAt p q m → (b : List ℕ) (x : Vector) (i : ℕ) → move k b p m x i ≡ move k b q m x i
  -- where the motion is in the given set at its values, it is in the result after it
  pub keeps : (b : List ℕ) (p : Picks) (m next : ℕ) (s : Zonotope) {α x : Vector} → first_fresh ≤ next → InRange α → Agree p α
      → Inside p m k b → (starts k ≡ false → Held next s × Point s α x) → Passed (meaning k b next s)
      → Point (meaning k b next s).result (values_after k b p m next α) (move k b p m x)
  -- the folded parts of the result are those that folding started from, with what it added
  pub folds_join : (b : List ℕ) (next : ℕ) (s : Zonotope) (i : ℕ)
      → get_or (meaning k b next s).result.radii.folded i 0 ≡ get_or (folded_before k s) i 0 + get_or (meaning k b next s).folds i 0
  -- its radius is what the rule gives, with what folding added, where the radii before were ρ
  pub ruled-radius : (b : List ℕ) (next : ℕ) (s : Zonotope) (ρ : ℕ → ℕ) → ((j : ℕ) → j < s.dimension → ρ j ≡ radius s j) → (i : ℕ)
      → i < (meaning k b next s).result.dimension
      → radius (meaning k b next s).result i ≡ ruled k b next s ρ i + get_or (meaning k b next s).folds i 0
