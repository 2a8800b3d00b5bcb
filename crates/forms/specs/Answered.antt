-- What an iterator's `all` and `any` answer is the test of a table.
use Rattle.std.specs.Prelude.{List, Bool, ◌≡◌, ℕ, ◌<◌, length, get_or, MatchBool}
use Rattle.std.specs.List.{AllWithin, HoldsAt}
use Rattle.std.proofs.Common.{true, false, sym, arith}
use Rattle.whole.specs.Tab.{tab, any, all}
use Rattle.whole.specs.Tests.{any_found, any_none, all_failed, all-passed}

module _ {X : Type 0} (p : X → Bool) (d : X) (n : ℕ) where
  pub all_answered : (r : Bool) (xs : List X) → length xs ≡ n
      → MatchBool r (AllWithin (λ x. p x ≡ true) xs 0 (length xs)) ((k : ℕ) × (k < length xs) × HoldsAt (λ x. p x ≡ false) xs k)
      → r ≡ all p (tab n (λ k. get_or xs k d))
  all_answered true xs e h = sym (all-passed p n (λ k. get_or xs k d) (λ k l. h k d (omega arith) (omega arith)))
  all_answered false xs e (k, l, h) = sym (all_failed p n (λ k. get_or xs k d) k (omega arith) (h d))

  pub any_answered : (r : Bool) (xs : List X) → length xs ≡ n
      → MatchBool r ((k : ℕ) × (k < length xs) × HoldsAt (λ x. p x ≡ true) xs k) (AllWithin (λ x. p x ≡ false) xs 0 (length xs))
      → r ≡ any p (tab n (λ k. get_or xs k d))
  any_answered true xs e (k, l, h) = sym (any_found p n (λ k. get_or xs k d) k (omega arith) (h d))
  any_answered false xs e h = sym (any_none p n (λ k. get_or xs k d) (λ k l. h k d (omega arith) (omega arith)))
