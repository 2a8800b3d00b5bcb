-- Rows of numbers, those of one list and then those of another.
use Rattle.std.specs.Prelude.{◌≡◌, List, ℕ, ◌+◌, ◌-◌, ◌*◌, ◌/◌, ◌%◌, ◌<◌, ◌≤◌, length, get_or, ℤ, pos, nat_abs}
use Rattle.std.proofs.Common.{sym, ◌∙◌, ap, arith}
use Rattle.std.proofs.Math.Decide.{dec_lt}
use Rattle.model.specs.Limits.{max_span}
use Rattle.model.specs.Set.{at}
use Rattle.rows.specs.Rows.{number_row, Small}
use Rattle.align.specs.Runs.{twice, row_first, row-second, in_first, in_second, after_both}
use Rattle.align.specs.Examined.{Holds}
use Rattle.align.specs.Sum.{wide_vector}

-- the rows of xs and then those of ys, written into ws
abbrev pub numbers : List ℤ → List ℤ → ℕ → List ℤ → ℕ → List ℤ
numbers ws xs h ys i = twice ws (λ k. get_or xs k (pos 0)) (h * 6) (λ k. get_or ys k (pos 0)) (i * 6)

-- no number of such a list is larger than a span may be
held_small : {xs : List ℤ} {h : ℕ} {u : ℕ → List ℤ} → Holds xs h u → (k : ℕ) → k < h * 6 → nat_abs (get_or xs k (pos 0)) ≤ max_span
held_small {xs} {h} {u} p k l =
    let e : k / 6 * 6 + k % 6 ≡ k = omega arith in
    let w = p.wide (k / 6) (k % 6) (omega arith) (omega arith) in
    let v : nat_abs (get_or xs k (pos 0)) ≡ nat_abs (at (u (k / 6)) (k % 6)) = ap (λ i. nat_abs (get_or xs i (pos 0))) (sym e) ∙ ap nat_abs w in
    omega (arith, p.small (k / 6) (k % 6) (omega arith))

module _ (ws : List ℤ) {xs ys : List ℤ} {h i : ℕ} {u v : ℕ → List ℤ} (p : Holds xs h u) (q : Holds ys i v)
    (fits : h * 6 + i * 6 ≤ length ws) where
  abbrev f : ℕ → ℤ
  f k = get_or xs k (pos 0)

  abbrev g : ℕ → ℤ
  g k = get_or ys k (pos 0)

  pub numbers-first : (t : ℕ) → t < h → number_row (numbers ws xs h ys i) t ≡ wide_vector (u t)
  numbers-first = row_first 6 (pos 0) ws f g h i (λ t. at (u t)) (λ t. at (v t)) fits p.wide

  pub numbers-second : (t : ℕ) → t < i → number_row (numbers ws xs h ys i) (h + t) ≡ wide_vector (v t)
  numbers-second = row-second 6 (pos 0) ws f g h i (λ t. at (u t)) (λ t. at (v t)) fits q.wide

  pub numbers_small : Small max_span ws → Small max_span (numbers ws xs h ys i)
  numbers_small z = record { small = λ x. go x (dec_lt x (h * 6)) (dec_lt x (h * 6 + i * 6)) } where
    go : (x : ℕ) → Dec (x < h * 6) → Dec (x < h * 6 + i * 6) → nat_abs (get_or (numbers ws xs h ys i) x (pos 0)) ≤ max_span
    go x (yes l) m = rw (in_first ws f g (pos 0) (h * 6) (i * 6) fits x l) (held_small p x l)
    go x (no l) (yes m) =
        let e : x ≡ h * 6 + (x - h * 6) = omega arith in
        let k : x - h * 6 < i * 6 = omega arith in
        rw (e, in_second ws f g (pos 0) (h * 6) (i * 6) fits (x - h * 6) k) (held_small q (x - h * 6) k)
    go x (no l) (no m) = rw (after_both ws f g (pos 0) (h * 6) (i * 6) x (omega arith)) (z.small x)

  pub numbers-kept : (x : ℕ) → (h + i) * 6 ≤ x → get_or (numbers ws xs h ys i) x (pos 0) ≡ get_or ws x (pos 0)
  numbers-kept x l = after_both ws f g (pos 0) (h * 6) (i * 6) x (omega arith)
