-- What the program `rewrite` leaves of a stored file: every byte but those of its empty disturbances.
use Rattle.std.specs.Prelude.{List, [], ◌∷◌, ◌++◌, Bool, not, cond, ◌&&◌, ℕ, ◌+◌, ◌*◌, eqb, length}
use Rattle.model.specs.Body.{dimension, given_radii}
use Rattle.model.specs.Field.{bad_dimension, all_zero}
use Rattle.model.specs.Run.{tag, body, cut, fields}

-- a whole field of tag 3 with n from 1 to 6, the length for it and only zero radii
unfoldable pub empty_disturbance : List ℕ → Bool
empty_disturbance f =
    let b = body f in
    not (cut f)
    && (eqb (tag f) 3
    && (not (bad_dimension (dimension b)) && (eqb (length b) (1 + 4 * dimension b) && all_zero (given_radii b))))

-- the other fields of a list, in order
unfoldable pub others : List (List ℕ) → List (List ℕ)
others [] = []
others (f ∷ fs) = cond (empty_disturbance f) (others fs) (f ∷ others fs)

-- the bytes of fields, one after the other
unfoldable pub together : List (List ℕ) → List ℕ
together [] = []
together (f ∷ fs) = f ++ together fs

-- what is left of an input; its fields are found by their headers, whatever their tags are, and the last one, which may be cut, stays then
unfoldable pub rewritten : List ℕ → List ℕ
rewritten input = together (others (fields input))
