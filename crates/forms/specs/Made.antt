-- An array that a closure makes place by place is the table of what the closure gives.
use Rattle.std.specs.Prelude.{List, ◌≡◌, ℕ, zero, suc, ◌+◌, ◌<◌, ◌≤◌, get_or}
use Rattle.std.proofs.Common.{sym, ◌∙◌, subst, arith, ext_get_or}
use Rattle.std.proofs.Math.Decide.{dec_lt}
use Rattle.std.specs.Array.{IsFromFnResultFrom, IsFromFnResult, index_steps}
use Rattle.std.specs.Iterator.{CallableAtEachTurn}
use Rattle.std.specs.List.{FoldsTo}
use Rattle.std.specs.Prelude.{[], ◌∷◌}
use denote.Param.Members.{Mut, Called}
use Rattle.std.specs.Fn.{Takes}
use Rattle.whole.specs.Tab.{tab, length-tab, get_d_tab}

-- the closure f may be called at each place below n, stays as it is, and gives what h gives
abbrev Gives : {F X : Type 0} → Mut F (ℕ × Unit {0}) X → F → (ℕ → X) → ℕ → Type 0
Gives {F} {X} g f h n = (i : ℕ) (x : X) (q : F) → i < n → Called g f (i, tt) x q → (q ≡ f) × (x ≡ h i)

module _ {F X : Type 0} (g : Mut F (ℕ × Unit {0}) X) (f : F) (xs : List X) (h : ℕ → X) (n : ℕ) (d : X) (gives : Gives g f h n) where
  made_at : (s m : ℕ) → s + m ≤ n → IsFromFnResultFrom g f xs s m → (k : ℕ) → s ≤ k → k < s + m → get_or xs k d ≡ h k
  made_at s zero b r k u v = absurd (omega arith)
  made_at s (suc m) b (q, x, at, call, rest) k u v =
      let e : q ≡ f = (gives s x q (omega arith) call).0 in
      let r : IsFromFnResultFrom g f xs (s + 1) m = subst (λ j. IsFromFnResultFrom g j xs (s + 1) m) e rest in
      go (λ p. made_at (s + 1) m (omega arith) r k p (omega arith)) (dec_lt s k)
    where
      go : (s + 1 ≤ k → get_or xs k d ≡ h k) → Dec (s < k) → get_or xs k d ≡ h k
      go later (yes p) = later (omega arith)
      go later (no p) = let e : k ≡ s = omega arith in rw e (at.1 d ∙ (gives s x q (omega arith) call).1)

pub made : {F X : Type 0} {g : Mut F (ℕ × Unit {0}) X} {f : F} {xs : List X} (h : ℕ → X) (n : ℕ) (d : X) → Gives g f h n
    → IsFromFnResult g f xs n → xs ≡ tab n h
made {g = g} {f = f} {xs = xs} h n d gives r =
    ext_get_or d xs (tab n h) (r.long ∙ sym (length-tab n h))
    (λ k l. let b : k < n = omega (arith, r.long) in
    made_at g f xs h n d gives 0 n (omega arith) r.each k (omega arith) (omega arith) ∙ sym (get_d_tab n h d k b))

-- the closure may be called at each place: it is asked there, and no call changes it
module _ {F X : Type 0} {g : Mut F (ℕ × Unit {0}) X} {f : F} (n : ℕ) (asked : (i : ℕ) → i < n → Takes g f (i, tt))
    (stays : (i : ℕ) (x : X) (q : F) → Called g f (i, tt) x q → q ≡ f) where
  same : (is : List ℕ) (q : F) → FoldsTo (λ p i q. (x : X) × Called g p (i, tt) x q) f is q → q ≡ f
  same [] q e = sym e
  same (i ∷ is) q (p, (x, call), rest) = same is q (subst (λ r. FoldsTo (λ p i q. (x : X) × Called g p (i, tt) x q) r is q) (stays i x p call) rest)

  pub callable : CallableAtEachTurn (index_steps n) (λ p i q. (x : X) × Called g p (i, tt) x q) (λ p i. Takes g p (i, tt)) 0 f
  callable = record { at = λ is t q i u y fold step. rw (same is q fold, step.1) (asked t step.0) }
