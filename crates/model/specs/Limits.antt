-- The numbers that document 01 fixes, each named once.
use Rattle.std.specs.Prelude.{List, [], ◌∷◌, ℕ}

-- ---- a set
-- the most coordinates, factors, terms and generators, and the largest exponent
abbrev pub max_dimension : ℕ
max_dimension = 6

abbrev pub max_factors : ℕ
max_factors = 12

abbrev pub max_terms : ℕ
max_terms = 40

abbrev pub max_generators : ℕ
max_generators = 24

abbrev pub max_exponent : ℕ
max_exponent = 63

-- the largest span of a coordinate, in units of the last place
abbrev pub max_span : ℕ
max_span = 1048576

-- the largest identifier in a file and in a record, and the next identifier (document 01: the mark) with which a run begins
abbrev pub file_identifiers : ℕ
file_identifiers = 65535

abbrev pub record_identifiers : ℕ
record_identifiers = 2000000000

abbrev pub first_fresh : ℕ
first_fresh = 65536

-- the largest next identifier: twelve more are still a record's
abbrev pub last_fresh : ℕ
last_fresh = 1999999988

-- ---- arguments
-- the largest size of a step's or a normal's entry (in 1/4096), of a step's constant and of a disturbance's radius
abbrev pub max_entry : ℕ
max_entry = 32768

abbrev pub max_constant : ℕ
max_constant = 1048576

abbrev pub max_disturbance : ℕ
max_disturbance = 1048576

-- the most halfspaces of a check, and the largest size of a halfspace's bound (in 1/16,777,216)
abbrev pub max_halfspaces : ℕ
max_halfspaces = 8

abbrev pub max_bound : ℕ
max_bound = 1099511627776

-- ---- a run
-- the number of the last field that may follow the start set, and the last tag that a field can have
abbrev pub last_field : ℕ
last_field = 4096

abbrev pub last_tag : ℕ
last_tag = 9

-- the most that folding can add to a radius in a run: the largest span in each of the 4,096 fields that may follow the start set
abbrev pub max_total : ℕ
max_total = 4294967296

-- ---- reduction
-- what a coordinate weighs in a term's size, by its place: our models alternate position and speed
abbrev pub standard_weights : List ℕ
standard_weights = 4 ∷ 1 ∷ 4 ∷ 1 ∷ 4 ∷ 1 ∷ []
