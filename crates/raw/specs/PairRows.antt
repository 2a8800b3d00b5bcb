-- The rows of the used pairs, as a loop over the pair table writes them after the own terms' rows.
use Rattle.std.specs.Prelude.{Bool, true, false, cond, ◌≡◌, refl, ℕ, ◌+◌, ◌*◌, ◌-◌, ◌/◌, ◌%◌, ◌<◌, ◌≤◌, eqb, pos, nat_abs, length, get_or, drop}
use mathlib.Core.List.{List, [], ◌∷◌, ◌++◌, map, append_assoc, append-nil}
use Rattle.std.proofs.Common.{sym, ◌∙◌, ap, arith, eq-eqb, ne_eqb}
use Rattle.std.proofs.Math.IntN.{ℤ}
use Rattle.whole.specs.Half.{half, half-parts, half_of-zero}
use Rattle.whole.specs.Tab.{tab}
use Rattle.whole.specs.Write.{write, write-length}
use Rattle.rows.specs.Rows.{rows_of, Small}
use Rattle.model.specs.Pairs.{pair_codes}
use Rattle.model.specs.Set.{Term}
use Rattle.model.specs.Step.{dot}
use Rattle.rational.specs.Sum.{All, none, more}
use Rattle.forms.specs.Tables.{row_of}
use Rattle.forms.specs.Numbers.{column_table, both_limit, raw_limit, table_limit, column_small, product_small}
use Rattle.forms.specs.RowsTo.{RowsTo, dot_past, column_to}
use Rattle.raw.specs.Zeros.{table_zero}
use Rattle.raw.specs.Kept.{Zero, Kept, kept-all}
use Rattle.raw.specs.Append.{Bounded, KeptFrom, rows_more, kept-after, bounded_more}
use Rattle.raw.specs.Pairs.{used, used-taken, used_skip, used_end, row_inside}

-- ---- a pair's row
-- the dot product at coordinate i of term t with the column of another
abbrev pub product : List ℤ → List ℤ → ℕ → ℕ → ℤ
product column coefficients t i = dot 6 (row_of coefficients t) (row_of column i)

-- the number at coordinate i of terms s and t, from the column of s: that product, or half of it for a term with itself
unfoldable pub pair_number : List ℤ → List ℤ → ℕ → ℕ → ℕ → ℤ
pair_number column coefficients s t i = cond (eqb s t) (half (product column coefficients t i)) (product column coefficients t i)

-- the exponents are added
abbrev pub pair_exponent : List ℕ → ℕ → ℕ → ℕ → ℕ
pair_exponent exponents s t k = get_or exponents (s * 12 + k) 0 + get_or exponents (t * 12 + k) 0

-- the row of the pair with a code, from the table of Q + Qᵀ
abbrev pub pair_row_of : List ℤ → List ℤ → List ℕ → ℕ → Term
pair_row_of both coefficients exponents c = record {
  exponents = tab 12 (pair_exponent exponents (c / 40) (c % 40));
  coefficients = tab 6 (pair_number (column_table both coefficients (c / 40)) coefficients (c / 40) (c % 40));
}

module _ (column coefficients : List ℤ) (s t i : ℕ) where
  pub number_square : s ≡ t → pair_number column coefficients s t i ≡ half (product column coefficients t i)
  unfolding pair_number
  number_square e = rw (eq-eqb s t e)

  pub number-pair : (s ≡ t → ⊥) → pair_number column coefficients s t i ≡ product column coefficients t i
  unfolding pair_number
  number-pair e = rw (ne_eqb s t e)

pub half_small : (z : ℤ) (K : ℕ) → nat_abs z ≤ K → nat_abs (half z) ≤ K
half_small z K h = omega (arith, half-parts z)

pub number_small : (column coefficients : List ℤ) → Small 1048576 coefficients → Small table_limit column → (s t i : ℕ)
    → nat_abs (pair_number column coefficients s t i) ≤ raw_limit
unfolding pair_number
number_small column coefficients hc hn s t i = go (eqb s t) (product_small coefficients column hc hn t i)
  where
    go : (b : Bool) → nat_abs (product column coefficients t i) ≤ raw_limit
        → nat_abs (cond b (half (product column coefficients t i)) (product column coefficients t i)) ≤ raw_limit
    go true h = half_small (product column coefficients t i) raw_limit h
    go false h = h

-- ---- the loop: k places of the table are passed, and r rows stand
module _ (both coefficients : List ℤ) (exponents : List ℕ) (h : ℕ) (e₀ : List ℕ) (w₀ : List ℤ) where
  abbrev row_of_pair : ℕ → Term
  row_of_pair = pair_row_of both coefficients exponents

  -- all rows: those that stood, and those of the used pairs
  abbrev pub all_rows : List Term
  all_rows = rows_of e₀ w₀ h ++ map row_of_pair (used h (pair_codes 40))

  -- at each turn: the rows that stand, with those that are still to come, are all rows
  pub record Taken (k r : ℕ) (e : List ℕ) (w : List ℤ) : Type 0 where
    pub passed : k ≤ 820
    pub least : h ≤ r
    pub inside : r ≤ h + k
    pub rows : rows_of e w r ++ map row_of_pair (used h (drop k (pair_codes 40))) ≡ all_rows
    pub numbers : Bounded raw_limit (r * 6) w
    pub long-exponents : length e ≡ length e₀
    pub long-numbers : length w ≡ length w₀
    pub later-exponents : KeptFrom 0 (r * 12) e₀ e
    pub later-numbers : KeptFrom (pos 0) (r * 6) w₀ w

  -- what stands in the end
  pub record Added (r : ℕ) (e : List ℕ) (w : List ℤ) : Type 0 where
    pub least : h ≤ r
    pub inside : r ≤ h + 820
    pub rows : Kept (rows_of e w r) all_rows
    pub numbers : Bounded raw_limit (r * 6) w
    pub later-exponents : KeptFrom 0 (r * 12) e₀ e
    pub later-numbers : KeptFrom (pos 0) (r * 6) w₀ w

  pub taken_none : Bounded raw_limit (h * 6) w₀ → Taken 0 h e₀ w₀
  taken_none b = record {
    passed = omega arith;
    least = omega arith;
    inside = omega arith;
    rows = refl;
    numbers = b;
    long-exponents = refl;
    long-numbers = refl;
    later-exponents = record { place = λ x l. refl };
    later-numbers = record { place = λ x l. refl };
  }

  module _ (k r : ℕ) (e : List ℕ) (w : List ℤ) (now : Taken k r e w) (more : k < 820) where
    abbrev c : ℕ
    c = get_or (pair_codes 40) k 0

    -- the rest of a row of the table, from a pair that isn't used on
    pub taken-left : (x : ℕ) → x ≡ c → h ≤ x % 40 → Taken (k + (40 - x % 40)) r e w
    taken-left x same b =
        let p = now.inside in
        let i = row_inside k more in record {
          passed = omega arith;
          least = now.least;
          inside = omega arith;
          rows =
              ap (λ (cs : List ℕ). rows_of e w r ++ map row_of_pair cs)
              (ap (λ (y : ℕ). used h (drop (k + (40 - y % 40)) (pair_codes 40))) same
              ∙ sym (used_skip h (40 - c % 40) k more refl (rw same at b)))
              ∙ now.rows;
          numbers = now.numbers;
          long-exponents = now.long-exponents;
          long-numbers = now.long-numbers;
          later-exponents = now.later-exponents;
          later-numbers = now.later-numbers;
        }

    abbrev G : ℕ → ℕ
    G = pair_exponent exponents (c / 40) (c % 40)

    abbrev F : ℕ → ℤ
    F = pair_number (column_table both coefficients (c / 40)) coefficients (c / 40) (c % 40)

    written : c % 40 < h → r * 12 + 12 ≤ length e → r * 6 + 6 ≤ length w → ((j : ℕ) → j < 6 → nat_abs (F j) ≤ raw_limit)
        → Taken (k + 1) (r + 1) (write e (r * 12) G 12) (write w (r * 6) F 6)
    written b le lw small = let p = now.inside in let o = now.least in record {
      passed = omega arith;
      least = omega arith;
      inside = omega arith;
      rows =
          ap (λ (ts : List Term). ts ++ map row_of_pair (used h (drop (k + 1) (pair_codes 40)))) (rows_more e w r G F le lw)
          ∙ append_assoc (rows_of e w r) (row_of_pair c ∷ []) (map row_of_pair (used h (drop (k + 1) (pair_codes 40))))
          ∙ ap (λ (cs : List ℕ). rows_of e w r ++ map row_of_pair cs) (sym (used-taken h k more b))
          ∙ now.rows;
      numbers = bounded_more raw_limit w r F lw now.numbers small;
      long-exponents = write-length e (r * 12) G 12 ∙ now.long-exponents;
      long-numbers = write-length w (r * 6) F 6 ∙ now.long-numbers;
      later-exponents = record {
        place = λ x l. (kept-after 0 e (r * 12) G 12).place x (omega arith)
            ∙ now.later-exponents.place x (omega arith);
      };
      later-numbers = record {
        place = λ x l. (kept-after (pos 0) w (r * 6) F 6).place x (omega arith)
            ∙ now.later-numbers.place x (omega arith);
      };
    }

    -- x is the code as the loop holds it
    pub taken-one : (x : ℕ) (column : List ℤ) (e' : List ℕ) (w' : List ℤ) → x ≡ c → column ≡ column_table both coefficients (x / 40)
        → x % 40 < h → r * 12 + 12 ≤ length e → r * 6 + 6 ≤ length w
        → Small 1048576 coefficients → Small both_limit both
        → e' ≡ write e (r * 12) (pair_exponent exponents (x / 40) (x % 40)) 12
        → w' ≡ write w (r * 6) (pair_number column coefficients (x / 40) (x % 40)) 6
        → Taken (k + 1) (r + 1) e' w'
    taken-one x column e' w' same ec b le lw hc hb pe pw =
        rw (pe, pw, ec, same)
        (written (rw same at b) le lw
        (λ j l. number_small (column_table both coefficients (c / 40)) coefficients hc (column_small both coefficients hb hc (c / 40)) (c / 40)
        (c % 40) j))

  pub taken-all : (k r : ℕ) (e : List ℕ) (w : List ℤ) → Taken k r e w → 820 ≤ k → Added r e w
  taken-all k r e w t l =
      let p = t.passed in
      let i = t.inside in
      let n : 820 ≡ k = omega arith in record {
        least = t.least;
        inside = omega arith;
        rows = kept-all
            (sym (append-nil (rows_of e w r))
            ∙ ap (λ (cs : List ℕ). rows_of e w r ++ map row_of_pair cs) (sym (used_end h))
            ∙ ap (λ (m : ℕ). rows_of e w r ++ map row_of_pair (used h (drop m (pair_codes 40)))) n
            ∙ t.rows);
        numbers = t.numbers;
        later-exponents = t.later-exponents;
        later-numbers = t.later-numbers;
      }

  -- without forms each pair's numbers are 0
  pair-zero : RowsTo 0 both → (s t i : ℕ) → pair_number (column_table both coefficients s) coefficients s t i ≡ pos 0
  unfolding pair_number
  pair-zero b s t i = go (eqb s t)
    where
      column : List ℤ
      column = column_table both coefficients s

      nothing : product column coefficients t i ≡ pos 0
      nothing = dot_past 0 (row_of coefficients t) column (column_to 0 both coefficients s b) i (omega arith)

      go : (x : Bool) → cond x (half (product column coefficients t i)) (product column coefficients t i) ≡ pos 0
      go true = ap half nothing ∙ half_of-zero
      go false = nothing

  -- and their rows needn't be made
  pub taken_no_forms : RowsTo 0 both → Bounded raw_limit (h * 6) w₀ → Added h e₀ w₀
  taken_no_forms b n = record {
    least = omega arith;
    inside = omega arith;
    rows = record {
      rest = map row_of_pair (used h (pair_codes 40));
      whole = refl;
      zero = every (used h (pair_codes 40));
    };
    numbers = n;
    later-exponents = record { place = λ x l. refl };
    later-numbers = record { place = λ x l. refl };
  }
    where
      every : (cs : List ℕ) → All Zero (map row_of_pair cs)
      every [] = none
      every (c ∷ cs) = more (table_zero 6 (pair_number (column_table both coefficients (c / 40)) coefficients (c / 40) (c % 40))
          (λ i l. pair-zero b (c / 40) (c % 40) i)) (every cs)
