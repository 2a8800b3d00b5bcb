-- Unused places of a list.
use Rattle.std.specs.Prelude.{◌≡◌, refl, List, Bool, true, false, not, ◌&&◌, ◌||◌, ℕ, ◌+◌, ◌-◌, ◌*◌, ◌/◌, ◌%◌, ◌<◌, ◌≤◌, ltb, eqb, get_or, ℤ, pos, nat_abs}
use Rattle.std.proofs.Common.{sym, ◌∙◌, ap, ap₂, mod-eq_of_lt, mod-lt, div-add-mod', le-div_iff_mul-le, div-lt_iff_lt-mul, mul-le-mul, le_refl, suc-mul, arith, lt-ltb, le-ltb}
use Rattle.std.proofs.Math.Nat.{mul-add-div_right, mul-add-mod_self_right, div-eq_of_lt}
use Rattle.std.proofs.Math.Decide.{dec_lt}
use Rattle.whole.specs.Tab.{tab, any}
use Rattle.whole.specs.Tests.{some_below, any_none, none_at, or_left, or_right}

-- whether one of the n entries of a list that `used` leaves out isn't 0
abbrev pub spare_ℕ : List ℕ → ℕ → (ℕ → Bool) → Bool
spare_ℕ xs n used = any (λ x. not (used x || eqb (get_or xs x 0) 0)) (tab n (λ x. x))

abbrev pub spare_ℤ : List ℤ → ℕ → (ℕ → Bool) → Bool
spare_ℤ xs n used = any (λ x. not (used x || eqb (nat_abs (get_or xs x (pos 0))) 0)) (tab n (λ x. x))

-- place x of rows of w is used in the first k entries of the first t rows
abbrev pub in_rows : ℕ → ℕ → ℕ → ℕ → Bool
in_rows w t k x = ltb (x / w) t && ltb (x % w) k

-- ---- the unused places of rows are the last entries of the used rows, and all places after these rows
-- two tests one of which fails where the other does are the same
same : (a b : Bool) → (a ≡ false → b ≡ false) → (b ≡ false → a ≡ false) → a ≡ b
same true true f g = refl
same true false f g = g refl
same false true f g = sym (f refl)
same false false f g = refl

-- a place that holds 0, and one that is used, isn't a stray one; one that isn't used is, where it doesn't hold 0
pub full : (u z : Bool) → not z ≡ false → not (u || z) ≡ false
full true z e = refl
full false z e = e

pub taken : {u : Bool} (z : Bool) → u ≡ true → not (u || z) ≡ false
taken z e = rw e

stray : {u : Bool} (z : Bool) → u ≡ false → not (u || z) ≡ false → not z ≡ false
stray z e h = rw e at h

-- a list whose first entries are used: the unused places are its rest
pub spare_rest : (n k : ℕ) (zeroAt : ℕ → Bool) → k ≤ n
    → any (λ x. not (ltb x k || zeroAt x)) (tab n (λ x. x)) ≡ some_below (n - k) (λ i. not (zeroAt (k + i)))
spare_rest n k zeroAt h = same _ _ there here
  where
    there : any (λ x. not (ltb x k || zeroAt x)) (tab n (λ x. x)) ≡ false → some_below (n - k) (λ i. not (zeroAt (k + i))) ≡ false
    there e =
        any_none _ (n - k) (λ i. i) (λ i l. stray (zeroAt (k + i)) (le-ltb (k + i) k (omega arith))
        (none_at _ n (λ x. x) e (k + i) (omega arith)))

    go : some_below (n - k) (λ i. not (zeroAt (k + i))) ≡ false → (x : ℕ) → x < n → Dec (x < k) → not (ltb x k || zeroAt x) ≡ false
    go e x l (yes m) = taken {u = ltb x k} (zeroAt x) (lt-ltb x k m)
    go e x l (no m) =
        let i : k + (x - k) ≡ x = omega arith in
        full (ltb x k) (zeroAt x) (rw i at (none_at _ (n - k) (λ i. i) e (x - k) (omega arith)))

    here : some_below (n - k) (λ i. not (zeroAt (k + i))) ≡ false → any (λ x. not (ltb x k || zeroAt x)) (tab n (λ x. x)) ≡ false
    here e = any_none _ n (λ x. x) (λ x l. go e x l (dec_lt x k))

module _ (w t k n : ℕ) (positive : 0 < w) (within : t * w ≤ n) (narrow : k ≤ w) (zeroAt : ℕ → Bool) where
  abbrev after : Bool
  after = some_below (n - t * w) (λ i. not (zeroAt (t * w + i)))

  abbrev rest : ℕ → Bool
  rest r = some_below (w - k) (λ i. not (zeroAt (r * w + k + i)))

  -- a place by its row and its place in it
  quotient : (r i : ℕ) → i < w → (r * w + i) / w ≡ r
  quotient r i h = mul-add-div_right {m = w} positive r i ∙ ap (r +◌) (div-eq_of_lt h) ∙ omega arith

  remainder : (r i : ℕ) → i < w → (r * w + i) % w ≡ i
  remainder r i h = mul-add-mod_self_right r w i ∙ mod-eq_of_lt h

  unused_after : (x : ℕ) → t * w ≤ x → in_rows w t k x ≡ false
  unused_after x h = rw (le-ltb (x / w) t ((le-div_iff_mul-le positive).1 h))

  unused_rest : (r i : ℕ) → r < t → i < w - k → in_rows w t k (r * w + k + i) ≡ false
  unused_rest r i h l =
      let e : r * w + k + i ≡ r * w + (k + i) = omega arith in
      rw (e, quotient r (k + i) (omega arith), remainder r (k + i) (omega arith), lt-ltb r t h, le-ltb (k + i) k (omega arith))

  unless_stray : any (λ x. not (in_rows w t k x || zeroAt x)) (tab n (λ x. x)) ≡ false → after || some_below t rest ≡ false
  unless_stray e =
      ap₂ ◌||◌ (any_none _ (n - t * w) (λ i. i) (λ i l. stray (zeroAt (t * w + i)) (unused_after (t * w + i) (omega arith))
      (none_at _ n (λ x. x) e (t * w + i) (omega arith))))
      (any_none _ t (λ r. r) (λ r l. any_none _ (w - k) (λ i. i) (λ i m. stray (zeroAt (r * w + k + i)) (unused_rest r i l m)
      (none_at _ n (λ x. x) e (r * w + k + i) (omega (arith, mul-le-mul l (le_refl w), suc-mul r w))))))

  unless_held : after || some_below t rest ≡ false → any (λ x. not (in_rows w t k x || zeroAt x)) (tab n (λ x. x)) ≡ false
  unless_held e = any_none _ n (λ x. x) (λ x l. go x l (dec_lt x (t * w)) (dec_lt (x % w) k))
    where
      go : (x : ℕ) → x < n → Dec (x < t * w) → Dec (x % w < k) → not (in_rows w t k x || zeroAt x) ≡ false
      go x l (no h) d =
          let i : t * w + (x - t * w) ≡ x = omega arith in
          let none = or_left after (some_below t rest) e in
          full (in_rows w t k x) (zeroAt x) (rw i at (none_at _ (n - t * w) (λ i. i) none (x - t * w) (omega arith)))
      go x l (yes h) (yes m) =
          taken {u = in_rows w t k x} (zeroAt x) (rw (lt-ltb (x / w) t ((div-lt_iff_lt-mul positive).1 h), lt-ltb (x % w) k m))
      go x l (yes h) (no m) =
          let i : x / w * w + k + (x % w - k) ≡ x = omega (arith, div-add-mod' x w) in
          let none = or_right after (some_below t rest) e in
          let row = none_at rest t (λ r. r) none (x / w) ((div-lt_iff_lt-mul positive).1 h) in
          full (in_rows w t k x) (zeroAt x) (rw i at (none_at _ (w - k) (λ i. i) row (x % w - k) (omega (arith, mod-lt x positive))))

  pub spare-rows : any (λ x. not (in_rows w t k x || zeroAt x)) (tab n (λ x. x)) ≡ after || some_below t rest
  spare-rows = same _ _ unless_stray unless_held
