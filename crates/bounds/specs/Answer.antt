-- The answers of the box and of the check: document 01's number and values for each of their cases.
use Rattle.std.specs.Prelude.{◌≡◌, List, ℕ, ℤ, Result, Ok, Err}
use Rattle.std.proofs.Math.Option.{Option, none, some}
use Rattle.model.specs.Run.{first_of}
use Rattle.model.specs.Set.{Zonotope}
use Rattle.model.specs.Operations.{low, high, safe}
use Rattle.model.specs.Library.{Given, of_first, of_region, examine, check_refusal}
use Rattle.zonotope.specs.Answer.{cause_of, or_else, first_append}
use Rattle.zonotope.specs.declared.Cause.{Cause}
use Rattle.verdicts.specs.Six.{six}
use Rattle.verdicts.specs.Region.{halfspaces}
use Rattle.verdicts.specs.Judged.{judged}
use Rattle.verdicts.specs.declared.Verdict.{Verdict}
use Rattle.verdicts.specs.declared.Ends.{Ends}

-- ---- the box
-- the box of an accepted set; a refused one has none
abbrev pub boxed : Option ℕ → Zonotope → Result Ends Cause
boxed none s = Ok (record { low = six s.dimension (low s); high = six s.dimension (high s) })
boxed (some n) s = Err (cause_of n)

-- the box of a given set
unfoldable pub bounds_of : Given → Result Ends Cause
bounds_of g = boxed (examine g) g.set

-- ---- the check
-- the verdict on a given set
unfoldable pub verdict_of : ℕ → ℕ → List ℤ → List ℤ → Given → Result Verdict Cause
verdict_of n count normals bounds g = judged (check_refusal n count normals bounds g) (safe (halfspaces n count normals bounds) g.set)

-- a region's causes are asked once the set's are
pub check_after : (n count : ℕ) (normals bounds : List ℤ) (g : Given)
    → check_refusal n count normals bounds g ≡ or_else (examine g) (first_of (of_region n count normals bounds g.set))
unfolding check_refusal examine
check_after n count normals bounds g = first_append (of_first g) (of_region n count normals bounds g.set)

-- the verdict, by what examining the set says
abbrev pub verdict_asked : ℕ → ℕ → List ℤ → List ℤ → Given → Option ℕ → Result Verdict Cause
verdict_asked n count normals bounds g o =
    judged (or_else o (first_of (of_region n count normals bounds g.set))) (safe (halfspaces n count normals bounds) g.set)

pub verdict_by : (n count : ℕ) (normals bounds : List ℤ) (g : Given) → verdict_asked n count normals bounds g (examine g)
    ≡ verdict_of n count normals bounds g
unfolding verdict_of
verdict_by n count normals bounds g = rw (check_after n count normals bounds g)

pub verdict_accepted : (n count : ℕ) (normals bounds : List ℤ) (g : Given) → examine g ≡ none → verdict_of n count normals bounds g ≡
    judged (first_of (of_region n count normals bounds g.set)) (safe (halfspaces n count normals bounds) g.set)
unfolding verdict_of
verdict_accepted n count normals bounds g e = rw (check_after n count normals bounds g, e)
