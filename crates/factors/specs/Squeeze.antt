-- Chosen places listed in an array, and arrays filled with what stands there, the rest 0.
use Rattle.std.specs.Prelude.{List, [], ◌∷◌, ◌++◌, map, Bool, true, false, cond, ◌≡◌, ℕ, zero, suc, ◌+◌, ◌*◌, ◌/◌, ◌%◌, ◌<◌, ◌≤◌, length, get_or, set, take}
use Rattle.std.proofs.Common.{sym, ap, ◌∙◌, add-one, arith, ext_get_or, take-suc-set}
use Rattle.std.proofs.Math.Decide.{dec_lt}
use Rattle.std.proofs.Math.ListN.{get_or-eq_default}
use Rattle.std.proofs.lemmas.List.{length-map}
use Rattle.whole.specs.Tab.{tab, length-tab, get_d_tab, get_d_tab_past}
use Rattle.whole.specs.Write.{write, write-length, write-at, write-before, write-after}
use Rattle.rational.specs.Sum.{All, none, more}
use Rattle.model.specs.Finish.{those}
use Rattle.model.specs.Motion.{places}
use Rattle.model.proofs.WholeForms.{All-places}
use Rattle.fold.specs.Chosen.{chosen, chosen_in, chosen_out, those-all}
use Rattle.factors.specs.Kept.{map_at}

-- ---- the chosen places of twelve, listed in an array
-- each is the place of one of twelve factors
pub record FactorPlaces (xs : List ℕ) : Type 0 where
  pub few : length xs ≤ 12
  pub below : (i : ℕ) → i < length xs → get_or xs i 0 < 12

those_few : {A : Type 0} (p : A → Bool) (l : List A) → length (those p l) ≤ length l
unfolding those
those_few p [] = omega arith
those_few {A} p (x ∷ l) = go (p x) (those_few p l)
  where
    go : (b : Bool) → length (those p l) ≤ length l → length (cond b (x ∷ those p l) (those p l)) ≤ suc (length l)
    go true h = omega arith
    go false h = omega arith

all_at : {P : ℕ → Type 0} {l : List ℕ} → All P l → (i : ℕ) → i < length l → P (get_or l i 0)
all_at none i h = absurd (omega arith)
all_at (more h t) zero g = h
all_at (more h t) (suc i) g = all_at t i (omega arith)

pub chosen_places : (p : ℕ → Bool) → FactorPlaces (chosen p 12)
chosen_places p = record {
  few = omega (arith, those_few p (places 12), length-tab 12 (λ (i : ℕ). i));
  below = all_at (those-all p (All-places 12 (λ i h. h)));
}

-- one place more
module _ (p : ℕ → Bool) (xs : List ℕ) (m k : ℕ) (h : take m xs ≡ chosen p k) where
  pub listed_out : p k ≡ false → take m xs ≡ chosen p (k + 1)
  listed_out e = h ∙ sym (chosen_out p k e)

  pub listed_in : p k ≡ true → m < length xs → take (m + 1) (set xs m k) ≡ chosen p (k + 1)
  listed_in e l =
      ap (λ (n : ℕ). take n (set xs m k)) (add-one m)
      ∙ take-suc-set xs m k l
      ∙ ap (λ (l : List ℕ). l ++ (k ∷ [])) h
      ∙ sym (chosen_in p k e)

-- ---- rows of 12 in an array of 480
-- the array that holds the first n rows of f
abbrev pub rows_array : (ℕ → List ℕ) → ℕ → List ℕ
rows_array f n = tab 480 (λ x. get_or (get_or (tab n f) (x / 12) []) (x % 12) 0)

-- k rows are written, and the rest is 0
pub record Filling (f : ℕ → List ℕ) (k : ℕ) (xs : List ℕ) : Type 0 where
  pub long : length xs ≡ 480
  pub row : (t i : ℕ) → t < k → i < 12 → get_or xs (t * 12 + i) 0 ≡ get_or (f t) i 0
  pub rest : (x : ℕ) → k * 12 ≤ x → get_or xs x 0 ≡ 0

module _ (f : ℕ → List ℕ) where
  pub filling_start : (xs : List ℕ) → length xs ≡ 480 → ((x : ℕ) → get_or xs x 0 ≡ 0) → Filling f 0 xs
  filling_start xs l z = record { long = l; row = λ t i h g. absurd (omega arith); rest = λ x h. z x }

  module _ {k : ℕ} {xs : List ℕ} (v : Filling f k xs) (few : k < 40) where
    pub filling_more : (g : ℕ → ℕ) (m : ℕ) → m ≤ 12 → ((i : ℕ) → i < m → g i ≡ get_or (f k) i 0) → ((i : ℕ) → m ≤ i → get_or (f k) i 0 ≡ 0) →
        Filling f (k + 1) (write xs (k * 12) g m)
    filling_more g m h here past =
        let long = v.long in
        record {
          long = write-length xs (k * 12) g m ∙ long;
          row = λ t i a b. go t i b (dec_lt t k) (dec_lt i m) a;
          rest = λ x a. write-after xs (k * 12) g 0 m x (omega arith) ∙ v.rest x (omega arith);
        }
      where
        go : (t i : ℕ) → i < 12 → Dec (t < k) → Dec (i < m) → t < k + 1 → get_or (write xs (k * 12) g m) (t * 12 + i) 0 ≡ get_or (f t) i 0
        go t i b (yes c) d a = write-before xs (k * 12) g 0 m (t * 12 + i) (omega arith) ∙ v.row t i c b
        go t i b (no c) (yes d) a =
            let q : t ≡ k = omega arith in
            let long = v.long in
            rw q (write-at xs (k * 12) g 0 m i d (omega arith) ∙ here i d)
        go t i b (no c) (no d) a =
            let q : t ≡ k = omega arith in
            rw q (write-after xs (k * 12) g 0 m (k * 12 + i) (omega arith) ∙ v.rest (k * 12 + i) (omega arith)
            ∙ sym (past i (omega arith)))

  pub filling_done : {n : ℕ} {xs : List ℕ} → Filling f n xs → xs ≡ rows_array f n
  filling_done {n} {xs} v =
      let long = v.long in
      ext_get_or 0 xs (rows_array f n) (long ∙ sym (length-tab 480 _))
      (λ x h. at x (dec_lt (x / 12) n) ∙ sym (get_d_tab 480 (λ x. get_or (get_or (tab n f) (x / 12) []) (x % 12) 0) 0 x (omega arith)))
    where
      at : (x : ℕ) → Dec (x / 12 < n) → get_or xs x 0 ≡ get_or (get_or (tab n f) (x / 12) []) (x % 12) 0
      at x (yes c) =
          let e : x / 12 * 12 + x % 12 ≡ x = omega arith in
          ap (λ (y : ℕ). get_or xs y 0) (sym e) ∙ v.row (x / 12) (x % 12) c (omega arith)
          ∙ ap (λ (l : List ℕ). get_or l (x % 12) 0) (sym (get_d_tab n f [] (x / 12) c))
      at x (no c) =
          v.rest x (omega arith) ∙ ap (λ (l : List ℕ). get_or l (x % 12) 0) (sym (get_d_tab_past n f [] (x / 12) (omega arith)))

-- zeros with the first m places written anew
pub padded-all : (zs : List ℕ) (n : ℕ) (g : ℕ → ℕ) (xs : List ℕ) (m : ℕ) → length zs ≡ n → ((x : ℕ) → get_or zs x 0 ≡ 0) → m ≤ n →
    ((i : ℕ) → i < m → g i ≡ get_or xs i 0) → ((i : ℕ) → m ≤ i → get_or xs i 0 ≡ 0) → write zs 0 g m ≡ tab n (λ i. get_or xs i 0)
padded-all zs n g xs m l z h here past =
    ext_get_or 0 (write zs 0 g m) (tab n (λ i. get_or xs i 0)) (write-length zs 0 g m ∙ l ∙ sym (length-tab n (λ i. get_or xs i 0)))
    (λ i q.
    let d : i < n = omega (arith, write-length zs 0 g m) in
    at i (dec_lt i m) ∙ sym (get_d_tab n (λ i. get_or xs i 0) 0 i d))
  where
    at : (i : ℕ) → Dec (i < m) → get_or (write zs 0 g m) i 0 ≡ get_or xs i 0
    at i (yes d) =
        let e : 0 + i ≡ i = omega arith in
        ap (λ (j : ℕ). get_or (write zs 0 g m) j 0) (sym e) ∙ write-at zs 0 g 0 m i d (omega arith) ∙ here i d
    at i (no d) = write-after zs 0 g 0 m i (omega arith) ∙ z i ∙ sym (past i (omega arith))

-- what a map gives at a place, and past its end
module _ (f : ℕ → ℕ) (xs : List ℕ) where
  pub mapped_here : (i : ℕ) → i < length xs → f (get_or xs i 0) ≡ get_or (map f xs) i 0
  mapped_here i h = sym (map_at f xs i 0 0 h)

  pub mapped_past : (i : ℕ) → length xs ≤ i → get_or (map f xs) i 0 ≡ 0
  mapped_past i h = get_or-eq_default (map f xs) 0 (omega (arith, length-map xs f))
