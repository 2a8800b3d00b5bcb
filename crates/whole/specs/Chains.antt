-- What std's tests of a list, a range and a slice decide, by the tests of a table.
use Rattle.std.specs.Prelude.{◌≡◌, refl, List, [], ◌∷◌, Bool, ℕ, zero, suc, ◌+◌, ◌≤◌, length, get_or, take}
use Rattle.std.proofs.Math.Path.{ap, ap₂}
use Rattle.std.proofs.Common.{sym, ◌∙◌, arith}
use Rattle.std.proofs.Math.Bool.{◌||◌, ◌&&◌}
use Rattle.std.proofs.Math.Seq.{length-take-le}
use Rattle.std.proofs.iter.Yields.{fronts, nat_range_steps}
use Rattle.std.proofs.lemmas.Iterator.{YieldsList-from_slice, YieldsList-from_range}
use Rattle.std.proofs.lemmas.Iterator.Search.{any_from_yields_List}
use Rattle.std.specs.Fn.{Called}
use Rattle.std.specs.Iterator.{ChecksAny}
use Rattle.std.specs.List.{list_any, list_all, range_with_len}
use Rattle.std.specs.Slice.Iter.{iter_rest}
use Rattle.std.specs.declared.ops.Range.{Range}
use Rattle.std.specs.declared.slice.Iter.{Iter}
use denote.Param.Members.{Mut}
use denote.Ref.{Bor}
use Rattle.whole.specs.Tab.{tab, any, all, tab_cong, tab_get_d}
use Rattle.whole.specs.Write.{get_d_take}

-- std's tests of a list are those of this repository
pub any_listed : {A : Type 0} (p : A → Bool) (xs : List A) → list_any p xs ≡ any p xs
unfolding any
any_listed p [] = refl
any_listed p (x ∷ xs) = ap (λ b. p x || b) (any_listed p xs)

pub all_listed : {A : Type 0} (p : A → Bool) (xs : List A) → list_all p xs ≡ all p xs
unfolding all
all_listed p [] = refl
all_listed p (x ∷ xs) = ap (λ b. p x && b) (all_listed p xs)

module _ {A : Type 0} (p : A → Bool) where
  of_places : (f : ℕ → A) (n i : ℕ) → list_any (λ k. p (f k)) (range_with_len i n) ≡ any p (tab n (λ k. f (i + k)))
  unfolding tab any
  of_places f zero i = refl
  of_places f (suc n) i =
      ap₂ ◌||◌ (ap (λ k. p (f k)) (omega arith)) (of_places f n (i + 1) ∙ ap (any p) (tab_cong n _ _ (λ k l. ap f (omega arith))))

  -- `(0..n).any(..)`, whose closure tests f k at k
  pub any_of_range : {F : Type 0} {g : Mut F (ℕ × Unit {0}) Bool} {c : F} {r : Bool} {u : Range ℕ} (f : ℕ → A) (n : ℕ)
      → ChecksAny nat_range_steps g (record { start = 0; end = n }) c r u
      → ((k : ℕ) (b : Bool) (q : F) → Called g c (k, tt) b q → (q ≡ c) × (b ≡ p (f k))) → r ≡ any p (tab n f)
  any_of_range f n ran called =
      any_from_yields_List (λ k. p (f k)) _ _ _ ran (YieldsList-from_range 0 n n refl (omega arith)) called
      ∙ of_places f n 0
      ∙ ap (any p) (tab_cong n _ _ (λ k l. ap f (omega arith)))

  -- `xs[..n].iter().any(..)`, whose closure tests each element
  pub any_of_first : {F : Type 0} {g : Mut F (Bor A × Unit {0}) Bool} {c : F} {r : Bool} {s u : Iter A} (xs : List A) (d : A) (n : ℕ)
      → ChecksAny fronts g s c r u → iter_rest s ≡ take n xs → n ≤ length xs
      → ((x : Bor A) (b : Bool) (q : F) → Called g c (x, tt) b q → (q ≡ c) × (b ≡ p x.now)) → r ≡ any p (tab n (λ k. get_or xs k d))
  any_of_first xs d n ran rest few called =
      any_from_yields_List p _ _ _ ran (YieldsList-from_slice (take n xs) rest) called
      ∙ any_listed p (take n xs)
      ∙ ap (any p) (sym (tab_get_d n (take n xs) d (length-take-le n xs few)) ∙ tab_cong n _ _ (λ k l. get_d_take n xs k d l))
