-- A run of places of a list written anew: what a loop that fills a slice does, for any type of element.
use mathlib.Core.List.{List, [], ◌∷◌, ◌++◌}
use Rattle.std.specs.Prelude.{◌≡◌}
use Rattle.std.proofs.Math.Path.{refl, ap, ap₂}
use Rattle.std.proofs.Common.{sym, ◌∙◌, add-zero, add-suc, suc-add, le_of_suc-le-suc, ext_get_or, get_or-set_same}
use Prim.Native.Nat.{ℕ, zero, suc, ◌+◌, ◌-◌, ◌<◌, ◌≤◌}
use Rattle.std.proofs.Math.Decide.{dec_lt}
use Rattle.std.proofs.Math.Nat.{zero-add}
use Rattle.std.proofs.Math.Numerals.{add-one}
use native.Mathlib.Omega.{arith}
use Rattle.std.proofs.Math.ListN.{length, get_or, set, take, drop, length-set, length-drop, take-append-drop}
use Rattle.std.proofs.lemmas.List.{set-append_left}
use Rattle.std.proofs.Math.Seq.{length-take-le, get_or-set_other}
use Rattle.whole.specs.Tab.{tab, length-tab, get_d_tab}

-- places at, at + 1 .. hold f 0, f 1 .. f (n - 1), and the others what they held
unfoldable pub write : {X : Type 0} → List X → ℕ → (ℕ → X) → ℕ → List X
write ws at f zero = ws
write ws at f (suc k) = set (write ws at f k) (at + k) (f k)

module _ {X : Type 0} (ws : List X) (at : ℕ) where
  pub write_none : (f : ℕ → X) → write ws at f 0 ≡ ws
  unfolding write
  write_none f = refl

  pub write-length : (f : ℕ → X) (n : ℕ) → length (write ws at f n) ≡ length ws
  unfolding write
  write-length f zero = refl
  write-length f (suc k) = length-set (write ws at f k) (at + k) (f k) ∙ write-length f k

  -- a loop's step: the next place is written
  pub write_again : (f : ℕ → X) (w : List X) (k : ℕ) (v : X) → w ≡ write ws at f k → v ≡ f k → set w (at + k) v ≡ write ws at f (k + 1)
  unfolding write
  write_again f w k v p q = ap₂ (λ (l : List X) (x : X). set l (at + k) x) p q ∙ rw add-one

  pub write_cong : (f g : ℕ → X) (n : ℕ) → ((k : ℕ) → k < n → f k ≡ g k) → write ws at f n ≡ write ws at g n
  unfolding write
  write_cong f g zero h = refl
  write_cong f g (suc n) h =
      ap₂ (λ (l : List X) (x : X). set l (at + n) x) (write_cong f g n (λ k l. h k (omega arith))) (h n (omega arith))

  -- what a place holds afterwards: in the run, and outside it
  pub write-at : (f : ℕ → X) (d : X) (n k : ℕ) → k < n → at + n ≤ length ws → get_or (write ws at f n) (at + k) d ≡ f k
  unfolding write
  write-at f d zero k h l = absurd (omega arith)
  write-at f d (suc n) k h l = go (λ p. write-at f d n k p (omega arith)) (dec_lt k n)
    where
      go : (k < n → get_or (write ws at f n) (at + k) d ≡ f k) → Dec (k < n) → get_or (set (write ws at f n) (at + n) (f n)) (at + k) d ≡ f k
      go ih (yes p) = get_or-set_other (write ws at f n) (at + n) (at + k) (f n) d (λ q. omega arith) ∙ ih p
      go ih (no p) =
          let q : k ≡ n = omega arith in
          rw q (get_or-set_same (write ws at f n) (at + n) (f n) d (rw (write-length f n) (omega arith)))

  pub write-before : (f : ℕ → X) (d : X) (n k : ℕ) → k < at → get_or (write ws at f n) k d ≡ get_or ws k d
  unfolding write
  write-before f d zero k h = refl
  write-before f d (suc n) k h = get_or-set_other (write ws at f n) (at + n) k (f n) d (λ q. omega arith) ∙ write-before f d n k h

  pub write-after : (f : ℕ → X) (d : X) (n k : ℕ) → at + n ≤ k → get_or (write ws at f n) k d ≡ get_or ws k d
  unfolding write
  write-after f d zero k h = refl
  write-after f d (suc n) k h = get_or-set_other (write ws at f n) (at + n) k (f n) d (λ q. omega arith) ∙ write-after f d n k (omega arith)

-- a loop's step over a list that is written from its start
pub write-next : {X : Type 0} (ws : List X) (f : ℕ → X) (w : List X) (k : ℕ) (v : X) → w ≡ write ws 0 f k → v ≡ f k
    → set w k v ≡ write ws 0 f (k + 1)
write-next ws f w k v p q = ap (λ (i : ℕ). set w i v) (sym (zero-add k)) ∙ write_again ws 0 f w k v p q

-- a run that follows another continues it
pub write_on : {X : Type 0} (ws : List X) (at n : ℕ) (f g : ℕ → X) (m : ℕ) → ((k : ℕ) → k < m → g k ≡ f (n + k))
    → write (write ws at f n) (at + n) g m ≡ write ws at f (n + m)
unfolding write
write_on ws at n f g zero h = rw (add-zero n)
write_on ws at n f g (suc m) h =
    let e : at + n + m ≡ at + (n + m) = omega arith in
    rw (add-suc n m, write_on ws at n f g m (λ k l. h k (omega arith)), h m (omega arith), e)

-- a run that is written again
pub write_over : {X : Type 0} (ws : List X) (at : ℕ) (f g : ℕ → X) (d : X) (n : ℕ) → at + n ≤ length ws
    → write (write ws at f n) at g n ≡ write ws at g n
write_over ws at f g d n l =
    ext_get_or d (write (write ws at f n) at g n) (write ws at g n)
    (write-length (write ws at f n) at g n ∙ write-length ws at f n ∙ sym (write-length ws at g n))
    (λ i _. go i (dec_lt i at) (dec_lt i (at + n)))
  where
    go : (i : ℕ) → Dec (i < at) → Dec (i < at + n) → get_or (write (write ws at f n) at g n) i d ≡ get_or (write ws at g n) i d
    go i (yes p) _ =
        write-before (write ws at f n) at g d n i p ∙ write-before ws at f d n i p ∙ sym (write-before ws at g d n i p)
    go i (no p) (yes q) =
        let e : at + (i - at) ≡ i = omega arith in
        let m : length (write ws at f n) ≡ length ws = write-length ws at f n in
        rw (← e, write-at (write ws at f n) at g d n (i - at) (omega arith) (omega arith), write-at ws at g d n (i - at) (omega arith) l)
    go i (no p) (no q) =
        write-after (write ws at f n) at g d n i (omega arith)
        ∙ write-after ws at f d n i (omega arith)
        ∙ sym (write-after ws at g d n i (omega arith))

-- a list written from end to end is a table
pub write-all : {X : Type 0} (ws : List X) (f : ℕ → X) (d : X) (n : ℕ) → length ws ≡ n → write ws 0 f n ≡ tab n f
write-all ws f d n e =
    ext_get_or d (write ws 0 f n) (tab n f) (write-length ws 0 f n ∙ e ∙ sym (length-tab n f))
    (λ i h.
    let l : i < n = omega (arith, write-length ws 0 f n) in
    ap (λ x. get_or (write ws 0 f n) x d) (sym (zero-add i)) ∙ write-at ws 0 f d n i l (omega arith) ∙ sym (get_d_tab n f d i l))

-- ---- a part of a list that was lent: what is read of it
pub get_d_take : {A : Type 0} (n : ℕ) (xs : List A) (k : ℕ) (d : A) → k < n → get_or (take n xs) k d ≡ get_or xs k d
get_d_take zero xs k d h = absurd (omega arith)
get_d_take (suc n) [] k d h = refl
get_d_take (suc n) (x ∷ xs) zero d h = refl
get_d_take (suc n) (x ∷ xs) (suc k) d h = get_d_take n xs k d (le_of_suc-le-suc h)

pub get_d_drop : {A : Type 0} (n : ℕ) (xs : List A) (k : ℕ) (d : A) → get_or (drop n xs) k d ≡ get_or xs (n + k) d
get_d_drop zero xs k d = ap (λ (i : ℕ). get_or xs i d) (sym (zero-add k))
get_d_drop (suc n) [] k d = refl
get_d_drop (suc n) (x ∷ xs) k d = get_d_drop n xs k d ∙ ap (λ (i : ℕ). get_or (x ∷ xs) i d) (sym (suc-add n k))

-- ---- a part of a list that was lent: what is written in the part that starts at a is written in the list
set_append_right : {X : Type 0} (xs ys : List X) (i : ℕ) (a : X) → set (xs ++ ys) (length xs + i) a ≡ xs ++ set ys i a
set_append_right [] ys i a = rw zero-add
set_append_right (x ∷ xs) ys i a = rw (suc-add (length xs) i) (ap (λ (l : List _). x ∷ l) (set_append_right xs ys i a))

module _ {X : Type 0} (xs : List X) (a k : ℕ) (f : ℕ → X) (fits : a + k ≤ length xs) where
  pub write-part : (n : ℕ) → n ≤ k → take a xs ++ (write (take k (drop a xs)) 0 f n ++ drop k (drop a xs)) ≡ write xs a f n
  unfolding write
  write-part zero h = rw (take-append-drop k (drop a xs), take-append-drop a xs)
  write-part (suc m) h =
      let W = write (take k (drop a xs)) 0 f m in
      let D = drop k (drop a xs) in
      let la : length (take a xs) ≡ a = length-take-le a xs (omega arith) in
      let ld : length (drop a xs) ≡ length xs - a = length-drop a xs in
      let lk : length (take k (drop a xs)) ≡ k = length-take-le k (drop a xs) (omega arith) in
      let lw : length W ≡ k = write-length (take k (drop a xs)) 0 f m ∙ lk in
      let ih : take a xs ++ (W ++ D) ≡ write xs a f m = write-part m (omega arith) in
      rw (← ih, zero-add m)
      (sym
      (ap (λ (i : ℕ). set (take a xs ++ (W ++ D)) (i + m) (f m)) (sym la)
      ∙ set_append_right (take a xs) (W ++ D) m (f m)
      ∙ ap (λ (l : List X). take a xs ++ l) (set-append_left W D m (f m) (omega arith))))
