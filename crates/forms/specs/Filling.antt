-- A run of places of a slice that is filled: by a loop, what holds at each turn and at the end, or by a copy.
use Rattle.std.specs.Prelude.{List, ◌≡◌, refl, ℕ, ◌+◌, ◌<◌, ◌≤◌, length, get_or, set}
use Rattle.std.proofs.Common.{sym, ◌∙◌, ap, ap₂, subst, arith, length-set}
use Rattle.whole.specs.Tab.{tab, tab_cong, tab_get_d}
use Rattle.std.proofs.Common.{take, drop, length-drop, ◌++◌}
use Rattle.std.proofs.Math.Seq.{length-take-le}
use borrow.Rule.Slice.PartMut.{put_mid}
use Rattle.whole.specs.Write.{write, write_none, write-length, write_again, write_on, write-at, write-all, write-part, get_d_take}

-- k of n places of a slice that held ws are written, from place `at` on
pub record Writing {X : Type 0} (ws : List X) (at : ℕ) (f : ℕ → X) (n k : ℕ) (w : List X) : Type 0 where
  pub inside : k ≤ n
  pub written : w ≡ write ws at f k
  pub long : length w ≡ length ws

module _ {X : Type 0} (ws : List X) (at : ℕ) (f : ℕ → X) (n : ℕ) where
  pub writing_begins : Writing ws at f n 0 ws
  writing_begins = record { inside = omega arith; written = sym (write_none ws at f); long = refl }

  pub writing_again : (k : ℕ) (w : List X) (v : X) → Writing ws at f n k w → k < n → v ≡ f k → Writing ws at f n (k + 1) (set w (at + k) v)
  writing_again k w v h l e = record {
    inside = omega arith;
    written = write_again ws at f w k v h.written e;
    long = length-set w (at + k) v ∙ h.long;
  }

  pub writing_ends : (k : ℕ) (w : List X) → Writing ws at f n k w → n ≤ k → w ≡ write ws at f n
  writing_ends k w h l =
      let i = h.inside in
      let e : k ≡ n = omega arith in
      h.written ∙ ap (write ws at f) e

-- a run that follows the first k places
continued : {X : Type 0} (ws : List X) (f : ℕ → X) (k m j : ℕ) (w w' : List X) (g : ℕ → X) → w ≡ write ws 0 f k → j ≡ k + m
    → w' ≡ write w k g m → ((l : ℕ) → l < m → g l ≡ f (k + l)) → w' ≡ write ws 0 f j
continued ws f k m j w w' g p e q h =
    let z : k ≡ 0 + k = omega arith in
    q ∙ ap₂ (λ v (i : ℕ). write v i g m) p z ∙ write_on ws 0 k f g m h ∙ ap (write ws 0 f) (sym e)

-- the same from the first place on, where the place is k itself
first-place : (k : ℕ) → k ≡ 0 + k
first-place k = omega arith

module _ {X : Type 0} (ws : List X) (f : ℕ → X) where
  pub first-again : (n k : ℕ) (w : List X) (v : X) → Writing ws 0 f n k w → k < n → v ≡ f k → Writing ws 0 f n (k + 1) (set w k v)
  first-again n k w v h l e =
      subst (λ (i : ℕ). Writing ws 0 f n (k + 1) (set w i v)) (sym (first-place k)) (writing_again ws 0 f n k w v h l e)

  -- a run of m places at once
  pub first_on : (n k m j : ℕ) (w w' : List X) (g : ℕ → X) → Writing ws 0 f n k w → j ≡ k + m → j ≤ n → w' ≡ write w k g m
      → ((l : ℕ) → l < m → g l ≡ f (k + l)) → Writing ws 0 f n j w'
  first_on n k m j w w' g h e l p q = record {
    inside = l;
    written = continued ws f k m j w w' g h.written e p q;
    long = ap length p ∙ write-length w k g m ∙ h.long;
  }

  pub first-at : (d : X) (n k : ℕ) → k < n → n ≤ length ws → get_or (write ws 0 f n) k d ≡ f k
  first-at d n k h l = ap (λ (i : ℕ). get_or (write ws 0 f n) i d) (first-place k) ∙ write-at ws 0 f d n k h (omega arith)

-- n elements that are copied into their places
pub copied : {X : Type 0} (ws : List X) (at k n : ℕ) (f : ℕ → X) (d : X) (row : List X) → k ≡ n → at + n ≤ length ws → row ≡ tab n f
    → put_mid at k ws row ≡ write ws at f n
copied ws at k n f d row same l e =
    let long : length (take n (drop at ws)) ≡ n = length-take-le n (drop at ws) (omega (arith, length-drop at ws)) in
    rw (same, e, ← write-all (take n (drop at ws)) f d n long) (write-part ws at n f l n (omega arith))

-- the first n elements of a list, copied to the start of another
pub copied-first : {X : Type 0} (ws xs : List X) (n : ℕ) (d : X) → n ≤ length ws → n ≤ length xs
    → take n xs ++ drop n ws ≡ write ws 0 (λ x. get_or xs x d) n
copied-first ws xs n d l m =
    copied ws 0 n n (λ x. get_or xs x d) d (take n xs) refl (omega arith)
    (sym (tab_get_d n (take n xs) d (length-take-le n xs m)) ∙ tab_cong n _ _ (λ i h. get_d_take n xs i d h))
