-- `totals::more_folded` meets its contract: the calls at each place in turn.
use Rattle.std.proofs.Common.{rules, ◌≡◌, ℕ, zero, suc, ◌+◌, ◌-◌, ◌<◌, ◌≤◌, List, get_or, sym, subst, ◌∙◌, arith}
use Rattle.std.proofs.Math.Decide.{dec_lt}
use Rattle.std.specs.Array.{IsFromFnResultFrom}
use denote.Param.Members.{Mut, Called}
use Rattle.whole.specs.Tab.{tab_get_d, tab_cong}
use Rattle.advance.proofs.totals.more_folded.Goals as goal

module _ {F : Type 0} (g : Mut F (ℕ × Unit {0}) ℕ) (f : F) (ys : List ℕ) (h : ℕ → ℕ)
    (step : (j y : ℕ) (q : F) → Called g f (j, tt) y q → (q ≡ f) × (y ≡ h j)) where
  each_place : (n i : ℕ) → IsFromFnResultFrom g f ys i n → (k : ℕ) → i ≤ k → k < i + n → get_or ys k 0 ≡ h k
  each_place zero i r k l m = absurd (omega arith)
  each_place (suc n) i (q, y, at, call, rest) k l m =
      let s = step i y q call in
      go (dec_lt i k) (each_place n (i + 1) (subst (λ p. IsFromFnResultFrom g p ys (i + 1) n) s.0 rest) k)
    where
      go : Dec (i < k) → (i + 1 ≤ k → k < i + 1 + n → get_or ys k 0 ≡ h k) → get_or ys k 0 ≡ h k
      go (yes p) later = later (omega arith) (omega arith)
      go (no p) later = let e : k ≡ i = omega arith in rw e (at.1 0 ∙ (step i y q call).1)

pub returns : goal.returns
returns c =
    let i = c.from_fn.ensures.items in
    let a = c.args in
    let each = each_place _ _ c.from_fn.result (λ k. get_or a.totals k 0 + (get_or a.to k 0 - get_or a.from k 0)) (λ j y q k. search rules) 6 0 i.each in
    sym (tab_get_d 6 c.from_fn.result 0 i.long) ∙ tab_cong 6 _ _ (λ k l. each k (omega arith) (omega arith))
