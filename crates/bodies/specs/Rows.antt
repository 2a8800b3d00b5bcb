-- Rows of n places written into a list of rows of w, and a list of zeros with places or rows written to it.
use Rattle.std.specs.Prelude.{◌≡◌, List, [], ◌++◌, replicate, take, drop}
use Rattle.std.proofs.Math.Path.{refl, ap}
use Rattle.std.proofs.Common.{sym, ◌∙◌, zero-add, div-add-mod', mod-lt, ext_get_or}
use Prim.Native.Nat.{ℕ, zero, suc, ◌+◌, ◌*◌, ◌-◌, ◌/◌, ◌%◌, ◌<◌, ◌≤◌}
use Rattle.std.proofs.Math.Nat.{mul-le-mul_right}
use Rattle.std.proofs.Math.Numerals.{add-one}
use Rattle.std.proofs.Math.Decide.{dec_lt}
use native.Mathlib.Omega.{arith}
use Rattle.std.proofs.Math.ListN.{length, get_or, length-drop}
use Rattle.std.proofs.Math.Seq.{length-take-le}
use Rattle.whole.specs.Tab.{tab, length-tab, get_d_tab, get_d_tab_past}
use Rattle.whole.specs.Write.{write, write-length, write-at, write-before, write-after, write-all, write-part}

-- row q of t holds f q 0 .. f q (n - 1) from place q * w on, and the other places what they held
unfoldable pub write_rows : {X : Type 0} → List X → ℕ → (ℕ → ℕ → X) → ℕ → ℕ → List X
write_rows ws w f n zero = ws
write_rows ws w f n (suc t) = write (write_rows ws w f n t) (t * w) (f t) n

-- a row ends where the next begins, or before
pub row_below : (w q t : ℕ) → q < t → q * w + w ≤ t * w
row_below w q t h = omega (arith, mul-le-mul_right {m = suc q} {n = t} w h)

module _ {X : Type 0} (ws : List X) (w : ℕ) (f : ℕ → ℕ → X) (n : ℕ) where
  pub rows-length : (t : ℕ) → length (write_rows ws w f n t) ≡ length ws
  unfolding write_rows
  rows-length zero = refl
  rows-length (suc t) = write-length (write_rows ws w f n t) (t * w) (f t) n ∙ rows-length t

  module _ (d : X) (narrow : n ≤ w) where
    -- what a place holds afterwards: in a row that was written, and elsewhere
    pub rows_at : (t q j : ℕ) → q < t → j < n → t * w ≤ length ws → get_or (write_rows ws w f n t) (q * w + j) d ≡ f q j
    unfolding write_rows
    rows_at zero q j h l m = absurd (omega arith)
    rows_at (suc t) q j h l m = go (λ p. rows_at t q j p l (omega arith)) (dec_lt q t) where
      go : (q < t → get_or (write_rows ws w f n t) (q * w + j) d ≡ f q j) → Dec (q < t)
          → get_or (write (write_rows ws w f n t) (t * w) (f t) n) (q * w + j) d ≡ f q j
      go ih (yes p) =
          write-before (write_rows ws w f n t) (t * w) (f t) d n (q * w + j) (omega (arith, row_below w q t p)) ∙ ih p
      go ih (no p) =
          let e : q ≡ t = omega arith in
          rw e (write-at (write_rows ws w f n t) (t * w) (f t) d n j l (omega (arith, rows-length t)))

    pub rows_beside : (t q j : ℕ) → j < w → n ≤ j → get_or (write_rows ws w f n t) (q * w + j) d ≡ get_or ws (q * w + j) d
    unfolding write_rows
    rows_beside zero q j h l = refl
    rows_beside (suc t) q j h l = go (dec_lt q t) ∙ rows_beside t q j h l where
      go : Dec (q < t) → get_or (write (write_rows ws w f n t) (t * w) (f t) n) (q * w + j) d ≡ get_or (write_rows ws w f n t) (q * w + j) d
      go (yes p) = write-before (write_rows ws w f n t) (t * w) (f t) d n (q * w + j) (omega (arith, row_below w q t p))
      go (no p) =
          write-after (write_rows ws w f n t) (t * w) (f t) d n (q * w + j)
          (omega (arith, mul-le-mul_right {m = t} {n = q} w (omega arith)))

    pub rows-after : (t q j : ℕ) → t ≤ q → get_or (write_rows ws w f n t) (q * w + j) d ≡ get_or ws (q * w + j) d
    unfolding write_rows
    rows-after zero q j h = refl
    rows-after (suc t) q j h =
        write-after (write_rows ws w f n t) (t * w) (f t) d n (q * w + j) (omega (arith, row_below w t q h))
        ∙ rows-after t q j (omega arith)

-- ---- a list of zeros with places or rows written to it
pub zeros-at : {X : Type 0} (d : X) (N x : ℕ) → get_or (replicate N d) x d ≡ d
zeros-at d zero x = refl
zeros-at d (suc N) zero = refl
zeros-at d (suc N) (suc x) = zeros-at d N x

module _ {X : Type 0} (d : X) (N : ℕ) (ws : List X) (long : length ws ≡ N) (zeros : (x : ℕ) → get_or ws x d ≡ d) where
  padded : (f : ℕ → X) (n : ℕ) → n ≤ N → write ws 0 f n ≡ tab N (λ i. get_or (tab n f) i d)
  padded f n h =
      ext_get_or d (write ws 0 f n) (tab N (λ i. get_or (tab n f) i d))
      (write-length ws 0 f n ∙ long ∙ sym (length-tab N (λ i. get_or (tab n f) i d)))
      (λ i l. go i (dec_lt i n) ∙ sym (get_d_tab N (λ i. get_or (tab n f) i d) d i (omega (arith, write-length ws 0 f n))))
    where
      go : (i : ℕ) → Dec (i < n) → get_or (write ws 0 f n) i d ≡ get_or (tab n f) i d
      go i (yes l) =
          ap (λ x. get_or (write ws 0 f n) x d) (sym (zero-add i)) ∙ write-at ws 0 f d n i l (omega arith) ∙ sym (get_d_tab n f d i l)
      go i (no l) = write-after ws 0 f d n i (omega arith) ∙ zeros i ∙ sym (get_d_tab_past n f d i (omega arith))

  -- a table at its start
  pub padded_part : (part : List X) (f : ℕ → X) (n : ℕ) → n ≤ N → part ≡ tab n f → part ++ drop n ws ≡ tab N (λ i. get_or (tab n f) i d)
  padded_part part f n h e =
      let short : length (take n ws) ≡ n = length-take-le n ws (omega (arith, long)) in
      ap (λ ys. ys ++ drop n ws) (e ∙ sym (write-all (take n ws) f d n short))
      ∙ write-part ws 0 n f (omega (arith, long)) n (omega arith)
      ∙ padded f n h

  module _ (w : ℕ) (f : ℕ → ℕ → X) (n t : ℕ) (some : 0 < w) (narrow : n ≤ w) (few : t * w ≤ N) where
    -- what place x holds of the rows
    abbrev held : ℕ → X
    held x = get_or (get_or (tab t (λ q. tab n (f q))) (x / w) []) (x % w) d

    row-held : (q j : ℕ) → j < w → Dec (q < t) → Dec (j < n)
        → get_or (write_rows ws w f n t) (q * w + j) d ≡ get_or (get_or (tab t (λ q. tab n (f q))) q []) j d
    row-held q j h (no l) e =
        rows-after ws w f n d narrow t q j (omega arith)
        ∙ zeros (q * w + j)
        ∙ ap (λ r. get_or r j d) (sym (get_d_tab_past t (λ q. tab n (f q)) [] q (omega arith)))
    row-held q j h (yes l) (yes m) =
        rows_at ws w f n d narrow t q j l m (omega arith)
        ∙ sym (get_d_tab n (f q) d j m)
        ∙ ap (λ r. get_or r j d) (sym (get_d_tab t (λ q. tab n (f q)) [] q l))
    row-held q j h (yes l) (no m) =
        rows_beside ws w f n d narrow t q j h (omega arith)
        ∙ zeros (q * w + j)
        ∙ sym (get_d_tab_past n (f q) d j (omega arith))
        ∙ ap (λ r. get_or r j d) (sym (get_d_tab t (λ q. tab n (f q)) [] q l))

    pub padded-rows : write_rows ws w f n t ≡ tab N held
    padded-rows =
        ext_get_or d (write_rows ws w f n t) (tab N held) (rows-length ws w f n t ∙ long ∙ sym (length-tab N held))
        (λ x l.
        ap (λ y. get_or (write_rows ws w f n t) y d) (sym (div-add-mod' x w))
        ∙ row-held (x / w) (x % w) (mod-lt x some) (dec_lt (x / w) t) (dec_lt (x % w) n)
        ∙ sym (get_d_tab N held d x (omega (arith, rows-length ws w f n t))))

-- ---- a closure that gives the places of rows
-- it may be called for each of n places of each row
abbrev pub RowsCallable : (ℕ → ℕ → Type 0) → ℕ → ℕ → Type 0
RowsCallable pre rows n = (t j : ℕ) → t < rows → j < n → pre t j

-- it gives f t j for place j of row t
abbrev pub RowsGiven : {X : Type 0} → (ℕ → ℕ → X → Type 0) → ℕ → ℕ → (ℕ → ℕ → X) → Type 0
RowsGiven {X} post rows n f = (t j : ℕ) (v : X) → t < rows → j < n → post t j v → v ≡ f t j

module _ {X : Type 0} (xs : List X) (a n : ℕ) (within : a + n ≤ length xs) where
  -- n places from a on, as a range, are n places
  pub part_long : length (take (a + n - a) (drop a xs)) ≡ n
  part_long = length-take-le (a + n - a) (drop a xs) (omega (arith, length-drop a xs)) ∙ omega arith

  -- a table in their place
  pub part_filled : (part : List X) (f : ℕ → X) → part ≡ tab n f → take a xs ++ (part ++ drop (a + n - a) (drop a xs)) ≡ write xs a f n
  part_filled part f e =
      let long : a + n - a ≡ n = omega arith in
      let short : length (take n (drop a xs)) ≡ n = rw long at part_long in
      rw long (ap (λ ys. take a xs ++ (ys ++ drop n (drop a xs))) (e ∙ sym (write-all (take n (drop a xs)) f (f 0) n short))
      ∙ write-part xs a n f within n (omega arith))

-- one more row
pub row_written : {X : Type 0} (ws out part : List X) (w : ℕ) (f : ℕ → ℕ → X) (n t : ℕ) → t * w + n ≤ length out → out ≡ write_rows ws w f n t
    → part ≡ tab n (f t) → take (t * w) out ++ (part ++ drop (t * w + n - t * w) (drop (t * w) out)) ≡ write_rows ws w f n (t + 1)
unfolding write_rows
row_written ws out part w f n t l e p =
    part_filled out (t * w) n l part (f t) p ∙ rw add-one (ap (λ x. write x (t * w) (f t) n) e)

pub no_rows : {X : Type 0} (ws : List X) (w : ℕ) (f : ℕ → ℕ → X) (n : ℕ) → ws ≡ write_rows ws w f n 0
unfolding write_rows
no_rows ws w f n = refl
