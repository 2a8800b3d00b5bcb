-- The pairs of the terms in use are the definition's pairs, in their order. The table's rule is in the model's proofs/PairTable.antt.
use Rattle.std.specs.Prelude.{Bool, cond, ◌&&◌, ◌||◌, List, [], ◌∷◌, ◌≡◌, refl, ℕ, zero, suc, ◌+◌, ◌-◌, ◌/◌, ◌%◌, ◌<◌, ◌≤◌, T, ltb, leb, eqb, get_or, drop}
use Rattle.std.proofs.Common.{◌∙◌, ap, subst, add-one, mod-lt, arith, lt-ltb, le-ltb, ne_eqb, eqb→eq, leb→le, drop-cons}
use Rattle.std.proofs.Math.Facts.{and_yes}
use Rattle.whole.specs.Tab.{tab}
use Rattle.whole.specs.Table.{every, rule}
use Rattle.model.specs.Pairs.{rows_from, pair_codes}
use Rattle.model.proofs.PairTable.{places, pair-of_place}

-- a pair's first term is one of 40
pub first_below : (k : ℕ) → k < 820 → get_or (pair_codes 40) k 0 / 40 < 40
first_below k h = let second = mod-lt (get_or (pair_codes 40) k 0) {m = 40} (omega arith) in omega (arith, (pair-of_place k h).0)

-- ---- the pairs of the first h terms
unfoldable pub used : ℕ → List ℕ → List ℕ
used h [] = []
used h (c ∷ cs) = cond (ltb (c % 40) h) (c ∷ used h cs) (used h cs)

abbrev code : ℕ → ℕ
code k = get_or (pair_codes 40) k 0

next : (k : ℕ) → k < 820 → drop k (pair_codes 40) ≡ code k ∷ drop (k + 1) (pair_codes 40)
next k h = rw (add-one, drop-cons (pair_codes 40) k 0 (rw places h))

pub used-taken : (h k : ℕ) → k < 820 → code k % 40 < h → used h (drop k (pair_codes 40)) ≡ code k ∷ used h (drop (k + 1) (pair_codes 40))
unfolding used
used-taken h k l b = ap (used h) (next k l) ∙ rw (lt-ltb (code k % 40) h b)

pub used-left : (h k : ℕ) → k < 820 → h ≤ code k % 40 → used h (drop k (pair_codes 40)) ≡ used h (drop (k + 1) (pair_codes 40))
unfolding used
used-left h k l b = ap (used h) (next k l) ∙ rw (le-ltb (code k % 40) h b)

-- ---- the places after one in its row of the table
-- an entry with its place: the row ends inside the table, and before its end the next entry is the next pair
abbrev in_row : ℕ → ℕ → Bool
in_row k c = leb (k + (40 - c % 40)) 820 && (eqb (c % 40) 39 || eqb (code (k + 1)) (c + 1))

tests : T (every in_row 0 (pair_codes 40))
unfolding pair_codes rows_from tab
tests = tt

in-row : (k : ℕ) → k < 820 → T (leb (k + (40 - code k % 40)) 820) × T (eqb (code k % 40) 39 || eqb (code (k + 1)) (code k + 1))
in-row k h =
    and_yes (leb (k + (40 - code k % 40)) 820) (eqb (code k % 40) 39 || eqb (code (k + 1)) (code k + 1)) (rule in_row (pair_codes 40) tests k (rw places h))

pub row_inside : (k : ℕ) → k < 820 → k + (40 - code k % 40) ≤ 820
row_inside k h = leb→le (k + (40 - code k % 40)) 820 (in-row k h).0

next-pair : (k : ℕ) → k < 820 → code k % 40 < 39 → code (k + 1) ≡ code k + 1
next-pair k h l =
    eqb→eq (code (k + 1)) (code k + 1)
    (subst (λ (b : Bool). T (b || eqb (code (k + 1)) (code k + 1))) (ne_eqb (code k % 40) 39 (λ e. omega arith)) (in-row k h).1)

-- from a pair that isn't used to the next row
pub used_skip : (h d k : ℕ) → k < 820 → 40 - code k % 40 ≡ d → h ≤ code k % 40
    → used h (drop k (pair_codes 40)) ≡ used h (drop (k + d) (pair_codes 40))
used_skip h zero k l e b = let s = mod-lt (code k) {m = 40} (omega arith) in absurd (omega arith)
used_skip h (suc zero) k l e b = used-left h k l b
used_skip h (suc (suc d)) k l e b =
    let i = row_inside k l in
    let n : code (k + 1) ≡ code k + 1 = next-pair k l (omega arith) in
    let m : code (k + 1) % 40 ≡ code k % 40 + 1 = omega arith in
    let g : k + 1 + suc d ≡ k + suc (suc d) = omega arith in
    used-left h k l b
    ∙ used_skip h (suc d) (k + 1) (omega arith) (omega arith) (omega arith)
    ∙ ap (λ (x : ℕ). used h (drop x (pair_codes 40))) g

pub used_start : (h : ℕ) → used h (drop 0 (pair_codes 40)) ≡ used h (pair_codes 40)
used_start h = refl

pub used_end : (h : ℕ) → used h (drop 820 (pair_codes 40)) ≡ []
unfolding used pair_codes rows_from tab
used_end h = refl
