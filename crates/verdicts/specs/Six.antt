-- Six places of which the first n are given.
use Rattle.std.specs.Prelude.{◌≡◌, refl, List, cond, ◌≢◌, ℕ, ◌+◌, ◌<◌, ltb, length, get_or, set, replicate, ℤ, pos}
use Rattle.std.proofs.Math.Path.{sym}
use Rattle.std.proofs.Common.{◌∙◌, ap, arith, length-set, get_or-set_same, get_or-set_other}
use Rattle.std.proofs.Math.Decide.{dec_lt, ℕ_discrete}
use borrow.Author.Tests.{lt-ltb, le-ltb}
use Rattle.std.proofs.Math.Seq.{ext_get_or}
use Rattle.whole.specs.Tab.{tab, length-tab, get_d_tab, tab_cong}

-- f at the first n of six places, 0 at the others
abbrev pub six : ℕ → (ℕ → ℤ) → List ℤ
six n f = tab 6 (λ i. cond (ltb i n) (f i) (pos 0))

pub six_none : (f : ℕ → ℤ) → replicate 6 (pos 0) ≡ six 0 f
unfolding tab
six_none f = refl

pub six_cong : (n : ℕ) (f g : ℕ → ℤ) → ((i : ℕ) → i < 6 → i < n → f i ≡ g i) → six n f ≡ six n g
six_cong n f g h = tab_cong 6 _ _ (λ i l. go i l (dec_lt i n))
  where
    go : (i : ℕ) → i < 6 → Dec (i < n) → cond (ltb i n) (f i) (pos 0) ≡ cond (ltb i n) (g i) (pos 0)
    go i l (yes m) = ap (cond (ltb i n) _) refl ∙ ap (λ x. cond (ltb i n) x (pos 0)) (h i l m)
    go i l (no m) = rw (le-ltb i n (omega arith))

module _ (f : ℕ → ℤ) (k : ℕ) (l : k < 6) where
  place : ℕ → ℕ → ℤ
  place n i = cond (ltb i n) (f i) (pos 0)

  sized : length (set (six k f) k (f k)) ≡ 6
  sized = length-set (six k f) k (f k) ∙ length-tab 6 _

  -- a loop's step: the next place is given
  pub six-again : set (six k f) k (f k) ≡ six (k + 1) f
  unfolding place
  six-again =
      ext_get_or (pos 0) (set (six k f) k (f k)) (six (k + 1) f) (sized ∙ sym (length-tab 6 _))
      (λ j h. go j (omega (arith, sized)) (ℕ_discrete j k))
    where
      next : (j : ℕ) → j ≢ k → Dec (j < k) → place k j ≡ place (k + 1) j
      next j e (yes h) = rw (lt-ltb j k h, lt-ltb j (k + 1) (omega arith))
      next j e (no h) = rw (le-ltb j k (omega arith), le-ltb j (k + 1) (omega arith))

      go : (j : ℕ) → j < 6 → Dec (j ≡ k) → get_or (set (six k f) k (f k)) j (pos 0) ≡ get_or (six (k + 1) f) j (pos 0)
      go j h (yes e) =
          rw e (get_or-set_same (six k f) k (f k) (pos 0) (omega (arith, length-tab 6 (place k)))
          ∙ sym (get_d_tab 6 (place (k + 1)) (pos 0) k l ∙ rw (lt-ltb k (k + 1) (omega arith))))
      go j h (no e) =
          get_or-set_other (six k f) k j (f k) (pos 0) e ∙ get_d_tab 6 (place k) (pos 0) j h ∙ next j e (dec_lt j k)
          ∙ sym (get_d_tab 6 (place (k + 1)) (pos 0) j h)
