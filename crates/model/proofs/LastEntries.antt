-- The last entry of a list decides as the first does: each list of a body with its limit met and passed there alone, computed from bytes.
use mathlib.Core.Path.{◌≡◌, refl}
use mathlib.Core.List.{List, [], ◌∷◌, ◌++◌}
use mathlib.Core.Bool.{false}
use mathlib.Core.Option.{none, some}
use Prim.Native.Nat.{ℕ}
use lib.ListN.{replicate}
use lib.IntN.{ℤ, pos, negsuc}
use Rattle.whole.specs.Round.{round, exact, inexact}
use Rattle.whole.specs.Sum.{sum_by, upto_by}
use Rattle.whole.specs.Tab.{tab, any, all}
use Rattle.model.specs.Limits.{first_fresh}
use Rattle.model.specs.Set.{term_sizes, generator_sizes, span, longer, radius_of, blank, given_only}
use Rattle.model.specs.Valid.{order, rises, bad_range, bad_order, is_too_wide}
use Rattle.model.specs.Finish.{insert, collect_into, those, fold_all, size, smallest, fold_smallest, fold_times, keep_at, collect_terms}
use Rattle.model.specs.Finish.{drop_zero_terms, drop_zero_generators, fold_high, fold_terms, fold_generators, drop_unused, finish}
use Rattle.model.specs.Step.{dot, bilinear, raw_centre, raw_linear, raw_square, raw_pair, pairs, remainder, raw, inexact_at}
use Rattle.model.specs.Step.{carried_at, rounded_at, rounded, step}
use Rattle.model.specs.Operations.{disturb}
use Rattle.model.specs.Ranged.{gain, gaining_step}
use Rattle.model.specs.Ranged as Ranged
use Rattle.model.specs.Bytes.{number, word, long}
use Rattle.model.specs.Body.{given_set, given_step, given_widths, given_halfspaces, given_radii}
use Rattle.model.specs.Field.{meaning, beyond_with}
use Rattle.model.specs.Run.{State, begin, kind_of, first_of, misplaced, cut, causes, refusal}
use Rattle.model.proofs.Written.{bytes, signed, words, field}

-- a run that has the point 0 in two coordinates
abbrev plane : State
plane = record {
  set = some (record {
    dimension = 2;
    identifiers = [];
    centre = pos 0 ∷ pos 0 ∷ [];
    terms = [];
    generators = [];
    radii = given_only 2 (0 ∷ 0 ∷ []);
  });
  next = first_fresh;
  count = 1;
  over = false;
  folded = blank 6;
}

-- n words, all but the last of them 0
abbrev last : ℕ → ℤ → List ℕ
last n z = words (replicate n (pos 0) ++ (z ∷ []))

-- c, A and Q of a step in two coordinates
abbrev entries : ℤ → ℤ → ℤ → List ℕ
entries c a q = (2 ∷ 2 ∷ []) ++ last 1 c ++ last 3 a ++ last 7 q

-- a step, and one with half-widths of A and Q
abbrev stepped : ℤ → ℤ → ℤ → List ℕ
stepped c a q = field 2 (entries c a q)

abbrev ranged : ℤ → ℤ → ℤ → ℤ → List ℕ
ranged a q wa wq = field 9 (entries (pos 0) a q ++ last 3 wa ++ last 7 wq)

-- two halfspaces, of which the first has zeros alone
abbrev checked : ℤ → ℤ → List ℕ
checked a b = field 7 ((2 ∷ 2 ∷ []) ++ last 1 (pos 0) ++ signed 8 (pos 0) ++ last 1 a ++ signed 8 b)

abbrev disturbed : ℤ → List ℕ
disturbed r = field 3 ((2 ∷ []) ++ last 1 r)

-- the start set (1, 1)·β + (1, 1)·αβ^e, with α 1 and β of this identifier, and a second radius
abbrev started : ℕ → ℕ → ℤ → List ℕ
started k e r = field 1 ((2 ∷ 2 ∷ 2 ∷ 0 ∷ []) ++ bytes 4 1 ++ bytes 4 k ++ last 1 (pos 0)
    ++ (0 ∷ 1 ∷ []) ++ words (pos 1 ∷ pos 1 ∷ []) ++ (1 ∷ e ∷ []) ++ words (pos 1 ∷ pos 1 ∷ []) ++ last 1 r)

-- c, A and Q; a half-width that is negative, and one that is too large beside its entry, of A and of Q
pub last_of_steps :
    (refusal plane (stepped (pos 1048576) (negsuc 32767) (pos 32768)) ≡ none)
    × (refusal plane (stepped (pos 1048577) (pos 0) (pos 0)) ≡ some 6)
    × (refusal plane (stepped (pos 0) (negsuc 32768) (pos 0)) ≡ some 6)
    × (refusal plane (stepped (pos 0) (pos 0) (pos 32769)) ≡ some 6)
    × (refusal plane (ranged (negsuc 32766) (pos 32766) (pos 1) (pos 2)) ≡ none)
    × (refusal plane (ranged (negsuc 32766) (pos 0) (pos 2) (pos 0)) ≡ some 6)
    × (refusal plane (ranged (pos 0) (pos 32766) (pos 0) (pos 3)) ≡ some 6)
    × (refusal plane (ranged (pos 0) (pos 0) (negsuc 0) (pos 0)) ≡ some 6)
    × (refusal plane (ranged (pos 0) (pos 0) (pos 0) (negsuc 0)) ≡ some 6)
unfolding causes first_of misplaced cut kind_of meaning number word given_step given_widths beyond_with is_too_wide span term_sizes generator_sizes
    radius_of sum_by upto_by tab any all step Ranged.ranged_step gaining_step gain rounded raw raw_centre raw_linear raw_square raw_pair
    pairs remainder dot bilinear inexact_at carried_at rounded_at round exact inexact finish drop_unused fold_generators fold_terms fold_high
    drop_zero_generators drop_zero_terms collect_terms insert collect_into those fold_all fold_times fold_smallest smallest size keep_at longer
last_of_steps = (refl, refl, refl, refl, refl, refl, refl, refl, refl)

-- the second normal and bound of a check, the second radius of a disturbance; the second identifier, the last exponent, the second radius
-- of a set
pub last_of_others :
    (refusal plane (checked (pos 32768) (negsuc 1099511627775)) ≡ none)
    × (refusal plane (checked (pos 32769) (pos 0)) ≡ some 6)
    × (refusal plane (checked (pos 0) (negsuc 1099511627776)) ≡ some 6)
    × (refusal plane (disturbed (pos 1048576)) ≡ none)
    × (refusal plane (disturbed (pos 1048577)) ≡ some 6)
    × (refusal begin (started 65535 63 (pos 0)) ≡ none)
    × (refusal begin (started 65536 63 (pos 0)) ≡ some 6)
    × (refusal begin (started 65535 64 (pos 0)) ≡ some 6)
    × (refusal begin (started 65535 63 (negsuc 0)) ≡ some 6)
unfolding causes first_of misplaced cut kind_of meaning number word long given_set given_halfspaces given_radii bad_range bad_order is_too_wide
    span term_sizes generator_sizes radius_of rises order sum_by tab any all disturb longer
last_of_others = (refl, refl, refl, refl, refl, refl, refl, refl, refl)
