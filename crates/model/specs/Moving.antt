-- What a motion picks, and the points and images that kinds of field move it by: document 01's 'Motions', apart from any run.
use Rattle.std.specs.Prelude.{List, ℕ, ◌<◌, length, pos}
use Rattle.whole.specs.Round.{scale}
use Rattle.whole.specs.Tab.{tab}
use Rattle.rational.specs.Rational.{ℚ, ◌+ℚ◌, ◌-ℚ◌, ◌*ℚ◌, ι, ◌over◌, ½, 1ℚ}
use Rattle.rational.specs.Near.{Near}
use Rattle.rational.specs.Sum.{sum}
use Rattle.model.specs.Set.{Zonotope, at}
use Rattle.model.specs.Step.{Step, linear_at, quadratic_at}
use Rattle.model.specs.Ranged.{Widths, linear_width, quadratic_width}
use Rattle.model.specs.Points.{Vector, value_at}

-- ---- what a motion picks, apart from the fields; `m` is a field's place in their list, from 0: its number, up to the first refusal
pub record Picks : Type 0 where
  -- a value for each file identifier, kept for the whole run
  pub values : Vector
  -- other values for the identifiers in the body of an independent sum
  pub own : ℕ → Vector
  -- numbers for the generators of a set's body
  pub numbers : ℕ → ℕ → ℚ
  -- offsets within the radii of a set's body or of a disturbance
  pub offsets : ℕ → Vector
  -- the blend of a hull: 1 for the current set's point, -1 for the body's
  pub blend : ℕ → ℚ
  -- the coefficients of a ranged step, in 1/4096: of A by rows and columns, and of Q by forms, rows and columns
  pub linear : ℕ → ℕ → Vector
  pub quadratic : ℕ → ℕ → ℕ → Vector

-- coefficients A and Q are within the half-widths d of the entries of the step p
pub record InWidths (p : Step) (d : Widths) (A : ℕ → Vector) (Q : ℕ → ℕ → Vector) : Type 0 where
  pub linear : (i j : ℕ) → i < p.rows → j < p.columns
      → Near (A i j) (ι (linear_at p i j)) (ι (pos (linear_width p.columns d i j)))
  pub quadratic : (i j l : ℕ) → i < p.rows → j < p.columns → l < p.columns
      → Near (Q i j l) (ι (quadratic_at p i j l)) (ι (pos (quadratic_width p.columns d i j l)))

-- ---- where a motion goes, in exact arithmetic
-- the body's point at these factor values and at the picks of field m
abbrev pub body_point : Picks → ℕ → Zonotope → Vector → Vector
body_point p m s α i = value_at s α (tab (length s.generators) (p.numbers m)) i +ℚ p.offsets m i

-- the coordinates 0 .. n - 1
abbrev pub places : ℕ → List ℕ
places n = tab n (λ j. j)

-- the exact image under a step with the coefficients A and Q in place of its own: c_i + A_i·x/4096 + Q_i(x, x)/16,777,216
abbrev pub image_by : Step → (ℕ → Vector) → (ℕ → ℕ → Vector) → Vector → Vector
image_by s A Q x i =
    ι (at s.constant i)
    +ℚ pos 1 over 4096 *ℚ sum (λ j. A i j *ℚ x j) (places s.columns)
    +ℚ pos 1 over scale *ℚ sum (λ j. x j *ℚ sum (λ l. Q i j l *ℚ x l) (places s.columns)) (places s.columns)

-- under a step
unfoldable pub image : Step → Vector → Vector
image s x i = image_by s (λ i j. ι (linear_at s i j)) (λ i j l. ι (quadratic_at s i j l)) x i

-- the point between x and y at the blend c: x where it is 1, y where it is -1
abbrev pub between : ℚ → Vector → Vector → Vector
between c x y i = ½ *ℚ ((1ℚ +ℚ c) *ℚ x i +ℚ (1ℚ -ℚ c) *ℚ y i)
