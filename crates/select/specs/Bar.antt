-- The bar for a limit in a list of sizes, as a loop finds it, and the marks on what lies below it.
use Rattle.std.specs.Prelude.{List, [], ◌∷◌, ◌++◌, cond, Bool, true, false, not, ◌≡◌, refl, ℕ, zero, suc, ◌+◌, ◌-◌, ◌<◌, ◌≤◌, ltb, get_or, set}
use Rattle.std.proofs.Common.{append-nil, append_assoc, sym, ap₂, ◌∙◌, arith, get_or-set_same, get_or-set_other, le-leb, le-ltb, lt-ltb}
use Rattle.std.proofs.Math.Path.{ap}
use Rattle.std.proofs.Math.Dec.{leb}
use Rattle.std.proofs.Math.ListN.{length}
use Rattle.std.proofs.lemmas.Bool.{lt-leb}
use Rattle.std.specs.List.{count_by}
use Rattle.std.proofs.lemmas.List.{length-map}
use Rattle.std.proofs.lemmas.List.Sums.{sum_by-cons}
use Rattle.whole.specs.Tab.{tab, length-tab, tab_cong, tab_get_d}
use Rattle.model.specs.Finish.{those}
use Rattle.rational.specs.Sum.{All, none, more}
use Rattle.model.specs.Motion.{places}
use Rattle.model.proofs.WholeForms.{All-places}
use Rattle.model.proofs.Select.{bar, left, keep_above, folded_below, by_less, low_keeps, low-folds, high_keeps, high-folds, keeps_none}
use Rattle.model.proofs.Select.{folds_none}
use Rattle.model.proofs.Level.{level, Bar, level_none, level-zero, level_out, level-falls}
use Rattle.fold.specs.Chosen.{chosen, chosen_none, chosen_in, chosen_out, chosen_cong, those-tab}
use Rattle.fold.specs.Marks.{at, unmarked}

-- the size at place k
abbrev pub size_at : List ℕ → ℕ → ℕ
size_at z k = get_or z k 0

-- ---- how many sizes reach T
-- the library's count
count_those : (p : ℕ → Bool) (l : List ℕ) → count_by p l ≡ length (those p l)
unfolding those
count_those p [] = refl
count_those p (x ∷ l) = sum_by-cons (λ y. cond (p y) 1 0) x l ∙ go (p x) (count_those p l)
  where
    go : (b : Bool) → count_by p l ≡ length (those p l) → cond b 1 0 + count_by p l ≡ length (cond b (x ∷ those p l) (those p l))
    go true e = omega arith
    go false e = omega arith

module _ (z : List ℕ) (T : ℕ) where
  pub level_list : count_by (λ x. leb T x) z ≡ level (size_at z) T (places (length z))
  unfolding level
  level_list =
      let reach : ℕ → Bool = λ x. leb T x in
      count_those reach z
      ∙ ap (λ l. length (those reach l)) (sym (tab_get_d (length z) z 0 refl))
      ∙ ap length (those-tab reach (length z) (size_at z))
      ∙ length-map (chosen (λ k. leb T (size_at z k)) (length z)) (size_at z)

  -- none reaches what is above all
  pub count_top : (n : ℕ) → ((k : ℕ) → k < n → size_at z k < T) → level (size_at z) T (places n) ≡ 0
  count_top n h = go (All-places n h) where
    go : {l : List ℕ} → All (λ k. size_at z k < T) l → level (size_at z) T l ≡ 0
    go none = level_none (size_at z) T
    go (more {a = a} {l = l} g t) = level_out (size_at z) T a l g ∙ go t

-- every size reaches 0
pub count_all : (z : List ℕ) (n : ℕ) → level (size_at z) 0 (places n) ≡ n
count_all z n = level-zero (size_at z) (places n) ∙ length-tab n (λ j. j)

-- what exactly `limit` sizes reach is a bar: no more exceed it
pub exact-bar : (z : List ℕ) (limit n T : ℕ) → level (size_at z) T (places n) ≡ limit → Bar (size_at z) limit (places n) T
exact-bar z limit n T e = record { most = omega (arith, level-falls (size_at z) T (places n)); enough = omega arith }

-- ---- the bar while q of size T are still to be kept, as a program compares with it
pub below_none : (x T q : ℕ) → q ≡ 0 → leb x T ≡ ltb x (bar T q)
below_none x T q e =
    rw e
    (by_less T x
    (λ (h : T < x). lt-leb x T h ∙ sym (le-ltb x (suc T) h))
    (λ (h : x ≤ T). le-leb x T h ∙ sym (lt-ltb x (suc T) (omega arith))))

pub below_some : (x T q : ℕ) → (q ≡ 0 → ⊥) → ltb x T ≡ ltb x (bar T q)
below_some x T zero h = absurd (h refl)
below_some x T (suc q) h = refl

-- ---- marks: those below the bar are marked, and of those of size T all after the first r
pub record Marked (z : List ℕ) (T r n : ℕ) (gone : List Bool) : Type 0 where
  pub keeps : keep_above (size_at z) T r (places n) ≡ chosen (unmarked gone) n
  pub folds : folded_below (size_at z) T r (places n) ≡ chosen (at gone) n

-- the places k, k + 1 .. n - 1
abbrev from : ℕ → ℕ → List ℕ
from n k = tab (n - k) (λ i. k + i)

from_all : (n : ℕ) → from n 0 ≡ places n
from_all n = let e : n - 0 ≡ n = omega arith in rw e (tab_cong n (λ i. 0 + i) (λ i. i) (λ i h. omega arith))

from_next : (n k : ℕ) → k < n → from n k ≡ k ∷ from n (k + 1)
unfolding tab
from_next n k h =
    let e : n - k ≡ suc (n - (k + 1)) = omega arith in
    let z : k + 0 ≡ k = omega arith in
    rw e (ap₂ ◌∷◌ z (tab_cong (n - (k + 1)) (λ i. k + suc i) (λ i. k + 1 + i) (λ i l. omega arith)))

from_end : (n k : ℕ) → n ≤ k → from n k ≡ []
unfolding tab
from_end n k h = let e : n - k ≡ 0 = omega arith in rw e

-- of n places k are passed, and r of size T are still to be kept
pub record Marking (z : List ℕ) (T r₀ n : ℕ) (gone : List Bool) (r k : ℕ) : Type 0 where
  pub upto : k ≤ n
  pub keeps : keep_above (size_at z) T r₀ (places n) ≡ chosen (unmarked gone) k ++ keep_above (size_at z) T r (from n k)
  pub folds : folded_below (size_at z) T r₀ (places n) ≡ chosen (at gone) k ++ folded_below (size_at z) T r (from n k)

module _ (z : List ℕ) (T r₀ n : ℕ) where
  pub marking_start : (gone : List Bool) → Marking z T r₀ n gone r₀ 0
  marking_start gone = record {
    upto = omega arith;
    keeps = ap (keep_above (size_at z) T r₀) (sym (from_all n))
        ∙ sym (ap (◌++ keep_above (size_at z) T r₀ (from n 0)) (chosen_none (unmarked gone)));
    folds = ap (folded_below (size_at z) T r₀) (sym (from_all n))
        ∙ sym (ap (◌++ folded_below (size_at z) T r₀ (from n 0)) (chosen_none (at gone)));
  }

  module _ {gone : List Bool} {r k : ℕ} (v : Marking z T r₀ n gone r k) (h : k < n) (l : k < length gone) where
    same : (b : Bool) (i : ℕ) → i < k → at (set gone k b) i ≡ at gone i
    same b i d = get_or-set_other gone k i b false (λ (q : i ≡ k). omega arith)

    -- one below the bar is marked
    pub marking_low : size_at z k < bar T r → Marking z T r₀ n (set gone k true) r (k + 1)
    marking_low b =
        let g = set gone k true in
        let here : at g k ≡ true = get_or-set_same gone k true false l in
        record {
          upto = omega arith;
          keeps =
              v.keeps
              ∙ ap₂ ◌++◌
              (sym (chosen_out (unmarked g) k (ap not here) ∙ chosen_cong (unmarked g) (unmarked gone) k (λ i d. ap not (same true i d))))
              (ap (keep_above (size_at z) T r) (from_next n k h) ∙ low_keeps (size_at z) T r k (from n (k + 1)) b);
          folds =
              v.folds
              ∙ ap₂ ◌++◌ (sym (chosen_cong (at g) (at gone) k (same true)))
              (ap (folded_below (size_at z) T r) (from_next n k h) ∙ low-folds (size_at z) T r k (from n (k + 1)) b)
              ∙ sym (append_assoc (chosen (at g) k) (k ∷ []) (folded_below (size_at z) T r (from n (k + 1))))
              ∙ ap (◌++ folded_below (size_at z) T r (from n (k + 1))) (sym (chosen_in (at g) k here));
        }

    -- any other is not
    pub marking_high : bar T r ≤ size_at z k → Marking z T r₀ n (set gone k false) (left T r (size_at z k)) (k + 1)
    marking_high b =
        let g = set gone k false in
        let here : at g k ≡ false = get_or-set_same gone k false false l in
        let r' = left T r (size_at z k) in
        record {
          upto = omega arith;
          keeps =
              v.keeps
              ∙ ap₂ ◌++◌ (sym (chosen_cong (unmarked g) (unmarked gone) k (λ i d. ap not (same false i d))))
              (ap (keep_above (size_at z) T r) (from_next n k h) ∙ high_keeps (size_at z) T r k (from n (k + 1)) b)
              ∙ sym (append_assoc (chosen (unmarked g) k) (k ∷ []) (keep_above (size_at z) T r' (from n (k + 1))))
              ∙ ap (◌++ keep_above (size_at z) T r' (from n (k + 1))) (sym (chosen_in (unmarked g) k (ap not here)));
          folds =
              v.folds
              ∙ ap₂ ◌++◌ (sym (chosen_out (at g) k here ∙ chosen_cong (at g) (at gone) k (same false)))
              (ap (folded_below (size_at z) T r) (from_next n k h) ∙ high-folds (size_at z) T r k (from n (k + 1)) b);
        }

  pub marking_done : {gone : List Bool} {r k : ℕ} → Marking z T r₀ n gone r k → n ≤ k → Marked z T r₀ n gone
  marking_done {gone} {r} {k} v h =
      let upto = v.upto in
      let e : k ≡ n = omega (arith, upto) in
      record {
        keeps =
            v.keeps
            ∙ ap (λ (l : List ℕ). chosen (unmarked gone) k ++ l)
            (ap (keep_above (size_at z) T r) (from_end n k h) ∙ keeps_none (size_at z) T r)
            ∙ append-nil (chosen (unmarked gone) k)
            ∙ ap (chosen (unmarked gone)) e;
        folds =
            v.folds
            ∙ ap (λ (l : List ℕ). chosen (at gone) k ++ l) (ap (folded_below (size_at z) T r) (from_end n k h) ∙ folds_none (size_at z) T r)
            ∙ append-nil (chosen (at gone) k)
            ∙ ap (chosen (at gone)) e;
      }
