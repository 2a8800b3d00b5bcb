-- Six counters, one for each coordinate, to which the inexact roundings of rows are added.
use Rattle.std.specs.Prelude.{List, ◌≡◌, ℕ, ◌+◌, ◌<◌, ◌≤◌, ℤ, length, get_or, replicate}
use Rattle.std.proofs.Math.Path.{sym}
use Rattle.std.proofs.Common.{◌∙◌, ap, zero-add, arith}
use Rattle.whole.specs.Round.{inexact}
use Rattle.whole.specs.Sum.{upto_by, upto_suc, upto_bound}
use Rattle.whole.specs.Tab.{tab, tab_cong, tab_get_d, get_d_tab}
use Rattle.whole.specs.Write.{write-after}
use Rattle.forms.specs.Tables.{row_of}
use Rattle.forms.specs.Filling.{Writing}
use Rattle.image.specs.Rounding.{inexact_in, inexact_of, inexact_small}
use Rattle.image.specs.Remainder.{Below, tab-below, zeros-at}

-- counter x grown by f x
abbrev pub grown : List ℕ → (ℕ → ℕ) → List ℕ
grown out f = tab 6 (λ x. get_or out x 0 + f x)

module _ (out : List ℕ) (w : List ℤ) (rows : ℕ) (a : List ℕ) (grew : a ≡ grown out (inexact_in w rows)) where
  -- a row adds at most 1 to a counter
  pub grown-below : (K J : ℕ) → Below K out → K + rows ≤ J → Below J a
  grown-below K J h l =
      rw grew (tab-below J 6 (λ x. get_or out x 0 + inexact_in w rows x)
      (λ x _. omega (arith, h.below x, upto_bound (λ t. inexact (row_of w t x)) 1 rows (λ t _. inexact_small (row_of w t x)))))

-- ---- a row: in a loop that fills an array the places to come hold what they held
pub writing_rest : {X : Type 0} (n : ℕ) (f : ℕ → X) (ws : List X) (d : X) (k : ℕ) (w : List X) → Writing ws 0 f n k w
    → get_or w k d ≡ get_or ws k d
writing_rest n f ws d k w h = ap (λ (l : List _). get_or l k d) h.written ∙ write-after ws 0 f d k k (omega arith)

-- ---- all rows
-- t of the rows are added
pub record Adding (ws : List ℕ) (w : List ℤ) (rows t : ℕ) (out : List ℕ) : Type 0 where
  pub inside : t ≤ rows
  pub counted : out ≡ grown ws (inexact_in w t)

module _ (ws : List ℕ) (w : List ℤ) (rows : ℕ) where
  pub adding_begins : length ws ≡ 6 → Adding ws w rows 0 ws
  unfolding upto_by
  adding_begins l = record { inside = omega arith; counted = sym (tab_cong 6 _ _ (λ x _. omega arith) ∙ tab_get_d 6 ws 0 l) }

  pub adding_again : (t : ℕ) (out : List ℕ) → Adding ws w rows t out → t < rows
      → Adding ws w rows (t + 1) (grown out (λ x. inexact (row_of w t x)))
  adding_again t out h l = record {
    inside = omega arith;
    counted = tab_cong 6 _ _ (λ x m.
        let e : get_or out x 0 ≡ get_or ws x 0 + inexact_in w t x =
        ap (λ (v : List ℕ). get_or v x 0) h.counted ∙ get_d_tab 6 (λ y. get_or ws y 0 + inexact_in w t y) 0 x m in
        omega (arith, e, upto_suc 0 ◌+◌ (λ y. inexact (row_of w y x)) t));
  }

  pub adding_ends : (t : ℕ) (out : List ℕ) → Adding ws w rows t out → rows ≤ t → out ≡ grown ws (inexact_in w rows)
  adding_ends t out h l =
      let i = h.inside in
      let e : t ≡ rows = omega arith in
      h.counted ∙ ap (λ (n : ℕ). grown ws (inexact_in w n)) e

-- ---- the centre, the terms' rows and the generators
pub counts-from : (w centre vectors : List ℤ) (rows generators : ℕ) (a b c : List ℕ) → a ≡ grown (replicate 6 0) (inexact_in centre 1)
    → b ≡ grown a (inexact_in w rows) → c ≡ grown b (inexact_in vectors generators) → c ≡ tab 6 (inexact_of w rows centre vectors generators)
unfolding inexact_of
counts-from w centre vectors rows generators a b c ea eb ec =
    ec ∙ tab_cong 6 _ _ (λ x h.
    ap (◌+ inexact_in vectors generators x)
    (ap (λ (v : List ℕ). get_or v x 0) eb ∙ get_d_tab 6 (λ y. get_or a y 0 + inexact_in w rows y) 0 x h
    ∙ ap (◌+ inexact_in w rows x)
    (ap (λ (v : List ℕ). get_or v x 0) ea ∙ get_d_tab 6 (λ y. get_or (replicate 6 0) y 0 + inexact_in centre 1 y) 0 x h
    ∙ ap (◌+ inexact_in centre 1 x) (zeros-at 6 x) ∙ zero-add (inexact_in centre 1 x))))
