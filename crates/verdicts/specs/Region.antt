-- An unsafe region: its halfspaces, and the entries of its normals.
use Rattle.std.specs.Prelude.{◌≡◌, List, false, ℕ, ◌+◌, ◌-◌, ◌*◌, ◌<◌, ◌≤◌, length, take, drop, ℤ, pos, nat_abs}
use Rattle.std.proofs.Common.{sym, ◌∙◌, ap, mul-le-mul, le_refl, suc-mul, arith, ltb-false, length-drop, ext_get_or, length-take-le, get_or-take, get_or-drop}
use Rattle.std.proofs.Math.Decide.{dec_lt}
use Rattle.std.proofs.Math.ListN.{get_or-eq_default}
use Rattle.whole.specs.Tab.{tab, any, length-tab, get_d_tab, get_d_tab_past}
use Rattle.model.specs.Limits.{max_entry}
use Rattle.model.specs.Set.{at}
use Rattle.model.specs.Field.{beyond}
use Rattle.model.specs.Operations.{Halfspace}
use Rattle.whole.specs.Tests.{none_at, any_list}
use Rattle.verdicts.specs.Along.{Entries}

-- the halfspaces that two slices give: normal k is the entries k·n .. k·n + n - 1
abbrev pub halfspaces : ℕ → ℕ → List ℤ → List ℤ → List Halfspace
halfspaces n count normals bounds = tab count (λ k. record { normal = tab n (λ j. at normals (k * n + j)); bound = at bounds k })

-- entries none of which is beyond the limit
pub entries-within : (xs : List ℤ) → any (beyond max_entry) xs ≡ false → Entries xs
entries-within xs e = record { within = λ k. go k (dec_lt k (length xs)) }
  where
    go : (k : ℕ) → Dec (k < length xs) → nat_abs (at xs k) ≤ max_entry
    go k (yes h) = ltb-false max_entry (nat_abs (at xs k)) (none_at (beyond max_entry) (length xs) (at xs)
        (sym (any_list (beyond max_entry) (pos 0) xs) ∙ e) k h)
    go k (no h) = omega (arith, ap nat_abs (get_or-eq_default xs (pos 0) {n = k} (omega arith)))

-- one normal, as a part of the slice
module _ (xs : List ℤ) (a n : ℕ) where
  pub part-entries : Entries xs → Entries (tab n (λ j. at xs (a + j)))
  part-entries e = record { within = λ k. go k (dec_lt k n) }
    where
      go : (k : ℕ) → Dec (k < n) → nat_abs (at (tab n (λ j. at xs (a + j))) k) ≤ max_entry
      go k (yes h) = omega (arith, ap nat_abs (get_d_tab n (λ j. at xs (a + j)) (pos 0) k h), e.within (a + k))
      go k (no h) = omega (arith, ap nat_abs (get_d_tab_past n (λ j. at xs (a + j)) (pos 0) k (omega arith)))

  pub part-tab : a + n ≤ length xs → take (a + n - a) (drop a xs) ≡ tab n (λ j. at xs (a + j))
  part-tab h =
      let e : a + n - a ≡ n = omega arith in
      let l : length (take n (drop a xs)) ≡ n = length-take-le n (drop a xs) (omega (arith, length-drop a xs)) in
      rw e (ext_get_or (pos 0) (take n (drop a xs)) (tab n (λ j. at xs (a + j))) (l ∙ sym (length-tab n (λ j. at xs (a + j)))) (λ j m.
      get_or-take n (drop a xs) j (pos 0) (omega arith) ∙ get_or-drop a xs j (pos 0)
      ∙ sym (get_d_tab n (λ j. at xs (a + j)) (pos 0) j (omega arith))))

-- row k of `count` rows of n lies in them
pub row_within : (k n count : ℕ) → k < count → k * n + n ≤ count * n
row_within k n count h = omega (arith, mul-le-mul h (le_refl n), suc-mul k n)
