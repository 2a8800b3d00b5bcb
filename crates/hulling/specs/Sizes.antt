-- How large the raw numbers of a blend are, and the rounded ones.
use Rattle.std.specs.Prelude.{◌≡◌, List, ℕ, ◌+◌, ◌*◌, ◌≤◌, length, ℤ, pos, nat_abs, ◌*ℤ◌}
use Rattle.std.proofs.Common.{mul-le-mul, arith}
use Rattle.whole.specs.Round.{round}
use Rattle.whole.specs.Size.{abs_mul}
use Rattle.whole.specs.Write.{write, write-all}
use Rattle.model.specs.Set.{at}
use Rattle.model.specs.Hull.{halved}
use Rattle.rows.specs.Cells.{small_write}
use Rattle.rows.specs.Rows.{Small}
use Rattle.forms.specs.Tables.{tab_small}
use Rattle.image.specs.Rounding.{round_small}
use Rattle.finish.specs.Wide.{wide_vector}
use Rattle.hulling.specs.WideTerms.{half, turned_half, half_at}
use Rattle.hulling.specs.Blending.{times_at, difference_of, halves_of, firsts_of, number_runs}

-- a number of a sum or a difference is within 2 * 2^20, its half in raw units within this
abbrev pub blend_limit : ℕ
blend_limit = 17592186044416

half_small : (h x : ℤ) → nat_abs h ≤ 8388608 → nat_abs x ≤ 2097152 → nat_abs (h *ℤ x) ≤ blend_limit
half_small h x p q = rw (abs_mul h x) (omega (arith, mul-le-mul p q))

-- ---- rows
pub numbers_small : (d c w₀ : List ℤ) (own rest : ℕ) → Small 2097152 d → Small 2097152 c → Small blend_limit w₀
    → Small blend_limit (number_runs d c w₀ own rest)
numbers_small d c w₀ own rest sd sc sw =
    run (firsts_of d c w₀ own rest) ((own + rest + 1 + own) * 6) turned_half c own (rest * 6) (omega arith) sc
    (run (halves_of d c w₀ (own + rest)) ((own + rest + 1) * 6) half c 0 (own * 6) (omega arith) sc
    (run (difference_of d w₀) (1 * 6) half c 0 ((own + rest) * 6) (omega arith) sc
    (run w₀ (0 * 6) half d 0 (1 * 6) (omega arith) sd sw)))
  where
    run : (ws : List ℤ) (to : ℕ) (h : ℤ) (x : List ℤ) (from n : ℕ) → nat_abs h ≤ 8388608 → Small 2097152 x → Small blend_limit ws
        → Small blend_limit (write ws to (times_at h x from) n)
    run ws to h x from n b s w =
        small_write blend_limit ws to (times_at h x from) n w (λ k. half_small h (at x (from * 6 + k)) b (s.small (from * 6 + k)))

-- ---- the numbers of a vector, and halved
module _ (v : List ℤ) (small : (i : ℕ) → nat_abs (at v i) ≤ 2097152) where
  pub vector_small : Small 2097152 (wide_vector v)
  vector_small = tab_small 2097152 6 (at v) (λ i l. small i)

  pub halved_small : Small blend_limit (wide_vector (halved v))
  halved_small = tab_small blend_limit 6 (at (halved v)) (λ i l. rw (half_at v i) (half_small half (at v i) (omega arith) (small i)))

-- ---- and rounded
pub rounded_vector_small : (v w : List ℤ) → length v ≡ 6 → Small blend_limit v → w ≡ write v 0 (λ x. round (at v x)) 6
    → Small 274877906945 w
rounded_vector_small v w l h e =
    rw (e, write-all v (λ x. round (at v x)) (pos 0) 6 l)
    (tab_small 274877906945 6 (λ x. round (at v x)) (λ x _. round_small (at v x) (omega (arith, h.small x))))
