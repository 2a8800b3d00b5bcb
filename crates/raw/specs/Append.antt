-- Rows of terms that are written after one another in work slices.
use mathlib.Core.List.{List, [], ◌∷◌, ◌++◌}
use Rattle.std.specs.Prelude.{◌≡◌, ℕ, ◌+◌, ◌*◌, ◌-◌, ◌<◌, ◌≤◌, ℤ, pos, nat_abs, length, get_or}
use Rattle.std.proofs.Common.{◌∙◌, arith}
use Rattle.std.proofs.Math.Path.{ap₂}
use Rattle.std.proofs.Math.Decide.{dec_lt}
use Rattle.std.proofs.Math.Numerals.{add-one}
use Rattle.whole.specs.Tab.{tab, tab_cong, tab_end}
use Rattle.whole.specs.Write.{write, write-at, write-before, write-after}
use Rattle.rows.specs.Rows.{term_of, rows_of, Small}
use Rattle.model.specs.Set.{Term, at}
use Rattle.forms.specs.Filling.{first-at}

-- a term in wide form: 12 exponents and 6 coefficients, continued by zeros
abbrev pub wide_term : Term → Term
wide_term t = record { exponents = tab 12 (λ k. get_or t.exponents k 0); coefficients = tab 6 (at t.coefficients) }

-- the first n numbers are at most K in size
pub record Bounded (K n : ℕ) (c : List ℤ) : Type 0 where
  pub bounded : (x : ℕ) → x < n → nat_abs (at c x) ≤ K

-- the places from n on are as they were
pub record KeptFrom {X : Type 0} (d : X) (n : ℕ) (before after : List X) : Type 0 where
  pub place : (x : ℕ) → n ≤ x → get_or after x d ≡ get_or before x d

pub term-same : {a b : List ℕ} {c d : List ℤ} → a ≡ b → c ≡ d
    → ◌≡◌ {A = Term} (record { exponents = a; coefficients = c }) (record { exponents = b; coefficients = d })
term-same h l = ap₂ (λ (x : List ℕ) (y : List ℤ). record { exponents = x; coefficients = y }) h l

-- ---- one more row
module _ (e : List ℕ) (w : List ℤ) (r : ℕ) (G : ℕ → ℕ) (F : ℕ → ℤ) (le : r * 12 + 12 ≤ length e) (lw : r * 6 + 6 ≤ length w) where
  pub rows_more : rows_of (write e (r * 12) G 12) (write w (r * 6) F 6) (r + 1)
      ≡ rows_of e w r ++ (record { exponents = tab 12 G; coefficients = tab 6 F } ∷ [])
  unfolding rows_of
  rows_more =
      rw add-one
      (tab_end r (λ x. term_of (write e (r * 12) G 12) (write w (r * 6) F 6) x x)
      ∙ ap₂ (λ (ts : List Term) (t : Term). ts ++ (t ∷ []))
      (tab_cong r (λ x. term_of (write e (r * 12) G 12) (write w (r * 6) F 6) x x) (λ x. term_of e w x x)
      (λ x h. term-same
      (tab_cong 12 _ _ (λ k l. write-before e (r * 12) G 0 12 (x * 12 + k) (omega arith)))
      (tab_cong 6 _ _ (λ j l. write-before w (r * 6) F (pos 0) 6 (x * 6 + j) (omega arith)))))
      (term-same (tab_cong 12 _ _ (λ k l. write-at e (r * 12) G 0 12 k l le))
      (tab_cong 6 _ _ (λ j l. write-at w (r * 6) F (pos 0) 6 j l lw))))

-- ---- the first rows
module _ (e : List ℕ) (w : List ℤ) (n : ℕ) (G : ℕ → ℕ) (F : ℕ → ℤ) (le : n * 12 ≤ length e) (lw : n * 6 ≤ length w) where
  pub rows-first : rows_of (write e 0 G (n * 12)) (write w 0 F (n * 6)) n
      ≡ tab n (λ t. record { exponents = tab 12 (λ k. G (t * 12 + k)); coefficients = tab 6 (λ j. F (t * 6 + j)) })
  unfolding rows_of
  rows-first =
      tab_cong n (λ x. term_of (write e 0 G (n * 12)) (write w 0 F (n * 6)) x x)
      (λ t. record { exponents = tab 12 (λ k. G (t * 12 + k)); coefficients = tab 6 (λ j. F (t * 6 + j)) })
      (λ t h. term-same
      (tab_cong 12 _ _ (λ k l. first-at e G 0 (n * 12) (t * 12 + k) (omega arith) le))
      (tab_cong 6 _ _ (λ j l. first-at w F (pos 0) (n * 6) (t * 6 + j) (omega arith) lw)))

-- ---- what a run of places that is written keeps and bounds
pub kept-after : {X : Type 0} (d : X) (ws : List X) (at : ℕ) (f : ℕ → X) (n : ℕ) → KeptFrom d (at + n) ws (write ws at f n)
kept-after d ws at f n = record { place = λ x h. write-after ws at f d n x h }

pub small_bounded : {K : ℕ} {c : List ℤ} (n : ℕ) → Small K c → Bounded K n c
small_bounded n h = record { bounded = λ x l. h.small x }

pub bounded_more : (K : ℕ) (w : List ℤ) (r : ℕ) (F : ℕ → ℤ) → r * 6 + 6 ≤ length w → Bounded K (r * 6) w →
    ((j : ℕ) → j < 6 → nat_abs (F j) ≤ K)
    → Bounded K ((r + 1) * 6) (write w (r * 6) F 6)
bounded_more K w r F l b h = record { bounded = λ x m. go x m (dec_lt x (r * 6)) }
  where
    go : (x : ℕ) → x < (r + 1) * 6 → Dec (x < r * 6) → nat_abs (at (write w (r * 6) F 6) x) ≤ K
    go x m (yes p) = rw (write-before w (r * 6) F (pos 0) 6 x p) (b.bounded x p)
    go x m (no p) =
        let e : r * 6 + (x - r * 6) ≡ x = omega arith in
        rw (← e, write-at w (r * 6) F (pos 0) 6 (x - r * 6) (omega arith) l) (h (x - r * 6) (omega arith))
