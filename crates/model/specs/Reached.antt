-- That a motion may go to its limits. In a run with each kind of pick every pick takes a part of its limit, any number from -1 to 1 and
-- each on its own: such a motion is allowed, and goes where exact arithmetic says. So `Allowed` (Motion.antt) is no narrower than the
-- limits that the fields give. The theorem is `reached`, in proofs/Reached.antt.
use Rattle.std.specs.Prelude.{◌≡◌, List, [], ◌∷◌, ◌++◌, map, ℕ, suc, ◌+◌, ◌*◌, length, take, get_or, pos}
use Rattle.rational.specs.Rational.{ℚ, ◌+ℚ◌, ◌-ℚ◌, ◌*ℚ◌, ι, ◌over◌, ½, 1ℚ}
use Rattle.rational.specs.Bounds.{Within}
use Rattle.model.specs.Points.{Vector}
use Rattle.model.specs.Motion.{Picks, Allowed, Moment, beginning, follow, Kept, Always}

-- ---- the run, in two coordinates
-- numbers below 256 as words
abbrev pub small_words : List ℕ → List ℕ
small_words [] = []
small_words (n ∷ ns) = n ∷ 0 ∷ 0 ∷ 0 ∷ small_words ns

-- a field with a body below 256 bytes: tag, length, body
abbrev pub short_field : ℕ → List ℕ → List ℕ
short_field tag body = tag ∷ length body ∷ 0 ∷ body

-- the body of a set with one factor, one term and q generators: counts; identifier, centre; exponent; term, generators, radii
abbrev pub body_of_set : ℕ → List ℕ → ℕ → List ℕ → List ℕ
body_of_set q before exponent behind = (2 ∷ 1 ∷ 1 ∷ q ∷ []) ++ small_words before ++ (exponent ∷ []) ++ small_words behind

-- a start set: (100, 50) + (40, 20)·α with α factor 5, generators (6, 10) and (3, 1), radii 30 and 8
abbrev pub started : List ℕ
started = short_field 1 (body_of_set 2 (5 ∷ 100 ∷ 50 ∷ []) 1 (40 ∷ 20 ∷ 6 ∷ 10 ∷ 3 ∷ 1 ∷ 30 ∷ 8 ∷ []))

-- an independent sum: (11, 13) + (17, 19)·α with α factor 5, generator (4, 21), radii 2 and 14
abbrev pub summed : List ℕ
summed = short_field 4 (body_of_set 1 (5 ∷ 11 ∷ 13 ∷ []) 1 (17 ∷ 19 ∷ 4 ∷ 21 ∷ 2 ∷ 14 ∷ []))

-- a tied sum: (16, 22) + (23, 24)·α² with α factor 5, generator (25, 26), radii 7 and 12
abbrev pub tied : List ℕ
tied = short_field 5 (body_of_set 1 (5 ∷ 16 ∷ 22 ∷ []) 2 (23 ∷ 24 ∷ 25 ∷ 26 ∷ 7 ∷ 12 ∷ []))

-- a disturbance: radii 5 and 18
abbrev pub disturbed : List ℕ
disturbed = short_field 3 ((2 ∷ []) ++ small_words (5 ∷ 18 ∷ []))

-- a hull: (27, 28) + (29, 31)·α with α factor 9, generator (32, 33), radii 15 and 9
abbrev pub hulled : List ℕ
hulled = short_field 8 (body_of_set 1 (9 ∷ 27 ∷ 28 ∷ []) 1 (29 ∷ 31 ∷ 32 ∷ 33 ∷ 15 ∷ 9 ∷ []))

-- a ranged step: A by rows, Q by forms and rows, and their half-widths, with c (35, 36)
abbrev pub linear : List ℕ
linear = 200 ∷ 100 ∷ 30 ∷ 150 ∷ []

abbrev pub quadratic : List ℕ
quadratic = 51 ∷ 60 ∷ 70 ∷ 80 ∷ 90 ∷ 110 ∷ 120 ∷ 130 ∷ []

abbrev pub linear_widths : List ℕ
linear_widths = 20 ∷ 10 ∷ 3 ∷ 15 ∷ []

abbrev pub quadratic_widths : List ℕ
quadratic_widths = 25 ∷ 6 ∷ 27 ∷ 8 ∷ 29 ∷ 11 ∷ 22 ∷ 13 ∷ []

abbrev pub ranged : List ℕ
ranged = short_field 9 ((2 ∷ 2 ∷ []) ++ small_words ((35 ∷ 36 ∷ []) ++ linear ++ quadratic ++ linear_widths ++ quadratic_widths))

-- fields 0 to 5
abbrev pub six_fields : List (List ℕ)
six_fields = started ∷ summed ∷ tied ∷ disturbed ∷ hulled ∷ ranged ∷ []

-- ---- the motion
-- number k of a list, 0 past its end, and the vector (a, b)
abbrev pub entry : List ℕ → ℕ → ℚ
entry ns k = ι (get_or (map pos ns) k (pos 0))

abbrev pub pair : ℕ → ℕ → Vector
pair a b = entry (a ∷ b ∷ [])

-- the radii in each field
abbrev pub radii : List (List ℕ)
radii = (30 ∷ 8 ∷ []) ∷ (2 ∷ 14 ∷ []) ∷ (7 ∷ 12 ∷ []) ∷ (5 ∷ 18 ∷ []) ∷ (15 ∷ 9 ∷ []) ∷ []

-- t has for each pick the part that it takes of its limit: any number in [-1,1]
pub record Parts (t : Picks) : Type 0 where
  pub values : (k : ℕ) → Within (t.values k) 1ℚ
  pub own : (m k : ℕ) → Within (t.own m k) 1ℚ
  pub numbers : (m j : ℕ) → Within (t.numbers m j) 1ℚ
  pub offsets : (m i : ℕ) → Within (t.offsets m i) 1ℚ
  pub blend : (m : ℕ) → Within (t.blend m) 1ℚ
  pub linear : (m i j : ℕ) → Within (t.linear m i j) 1ℚ
  pub quadratic : (m i j l : ℕ) → Within (t.quadratic m i j l) 1ℚ

-- the moment after a list of fields, the first of which has the number m
unfoldable pub followed : Picks → ℕ → Moment → List (List ℕ) → Moment
followed p m now [] = now
followed p m now (f ∷ fs) = followed p (suc m) (follow p m now f) fs

-- ---- where it goes, t having the parts
module _ (t : Picks) where
  -- the picks: an offset is that part of the radius, a coefficient the entry and that part of the half-width
  abbrev pub picks : Picks
  picks = record {
    values = t.values;
    own = t.own;
    numbers = t.numbers;
    offsets = λ m i. entry (get_or radii m []) i *ℚ t.offsets m i;
    blend = t.blend;
    linear = λ m i j. entry linear (i * 2 + j) +ℚ entry linear_widths (i * 2 + j) *ℚ t.linear m i j;
    quadratic = λ m i j l. entry quadratic ((i * 2 + j) * 2 + l) +ℚ entry quadratic_widths ((i * 2 + j) * 2 + l) *ℚ t.quadratic m i j l;
  }

  -- the moment after field m, and the position then
  abbrev pub moment : ℕ → Moment
  moment m = followed picks 0 (beginning picks) (take (suc m) six_fields)

  abbrev pub x : ℕ → Vector
  x m = (moment m).position

  -- coordinate i after each field
  pub record Lands : Type 0 where
    pub at_start : (i : ℕ) → x 0 i
        ≡ pair 100 50 i +ℚ pair 40 20 i *ℚ t.values 5 +ℚ pair 6 10 i *ℚ t.numbers 0 0 +ℚ pair 3 1 i *ℚ t.numbers 0 1
        +ℚ pair 30 8 i *ℚ t.offsets 0 i
    pub after-sum : (i : ℕ) → x 1 i
        ≡ x 0 i +ℚ (pair 11 13 i +ℚ pair 17 19 i *ℚ t.own 1 5 +ℚ pair 4 21 i *ℚ t.numbers 1 0 +ℚ pair 2 14 i *ℚ t.offsets 1 i)
    pub after_tied : (i : ℕ) → x 2 i
        ≡ x 1 i +ℚ (pair 16 22 i +ℚ pair 23 24 i *ℚ (t.values 5 *ℚ t.values 5) +ℚ pair 25 26 i *ℚ t.numbers 2 0
        +ℚ pair 7 12 i *ℚ t.offsets 2 i)
    pub after_disturbance : (i : ℕ) → x 3 i ≡ x 2 i +ℚ pair 5 18 i *ℚ t.offsets 3 i
    pub after-hull : (i : ℕ) → x 4 i
        ≡ ½ *ℚ ((1ℚ +ℚ t.blend 4) *ℚ x 3 i +ℚ (1ℚ -ℚ t.blend 4)
        *ℚ (pair 27 28 i +ℚ pair 29 31 i *ℚ t.values 9 +ℚ pair 32 33 i *ℚ t.numbers 4 0 +ℚ pair 15 9 i *ℚ t.offsets 4 i))
    pub after-step : (i : ℕ) → let a = picks.linear 5 i in let q = picks.quadratic 5 i in let y = x 4 in x 5 i
        ≡ pair 35 36 i +ℚ pos 1 over 4096 *ℚ (a 0 *ℚ y 0 +ℚ a 1 *ℚ y 1)
        +ℚ pos 1 over 16777216 *ℚ (y 0 *ℚ (q 0 0 *ℚ y 0 +ℚ q 0 1 *ℚ y 1) +ℚ y 1 *ℚ (q 1 0 *ℚ y 0 +ℚ q 1 1 *ℚ y 1))
    -- the values of the factors at the end: of the file's, of the sum's and of the hull's
    pub values : ((moment 5).values 5 ≡ t.values 5) × ((moment 5).values 65536 ≡ t.own 1 5) × ((moment 5).values 65537 ≡ t.blend 4)
    -- what is claimed of this motion is claimed at these moments
    pub claimed : Always picks 0 (beginning picks) six_fields → Kept (moment 4).state ranged (moment 5)

-- whatever the parts are
abbrev pub Reached : Type 0
Reached = (t : Picks) → Parts t → Allowed (picks t) six_fields × Lands t
