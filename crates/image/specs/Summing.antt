-- Sums over the numbers below n, as `(0..n).map(..).sum()` works them out.
use Rattle.std.specs.Prelude.{◌≡◌, ℕ, zero, suc, ◌+◌, ◌<◌, map}
use Rattle.std.specs.List.{sum, fold, range_with_len}
use Rattle.std.specs.Iterator.{Drains}
use Rattle.std.specs.Iterator.Adapters.{map_source, map_callee}
use Rattle.std.specs.Iterator.Runs.{EachRunFrom}
use Rattle.std.specs.Bool.{⊤}
use Rattle.std.specs.declared.iter.Map.{Map}
use Rattle.std.specs.declared.ops.Range.{Range}
use Rattle.std.proofs.Math.Path.{refl}
use Rattle.std.proofs.Common.{◌∙◌, ap, arith, List}
use Rattle.std.proofs.iter.Yields.{nat_range_steps}
use Rattle.std.proofs.lemmas.Iterator.{YieldsList, YieldsList-from_range, YieldsList-from_map, maps}
use Rattle.std.proofs.lemmas.Iterator.Consumers.{sum_from_yields_List, fits_from_yields_list}
use Rattle.std.proofs.lemmas.List.FromFn.{sum_by-map-range_with_len_more}
use denote.Param.Members.{Mut, Called}
use Rattle.whole.specs.Sum.{upto_by, upto_ℕ}

sum_upto : (f : ℕ → ℕ) (n : ℕ) → sum (map f (range_with_len 0 n)) ≡ upto_ℕ f n
unfolding upto_by
sum_upto f zero = refl
sum_upto f (suc n) =
    let e : suc n ≡ n + 1 = omega arith in
    ap (λ (k : ℕ). sum (map f (range_with_len 0 k))) e
    ∙ sum_by-map-range_with_len_more (λ x. x) f 0 n n (omega arith)
    ∙ ap (◌+ f n) (sum_upto f n)

-- the numbers that a closure gives, which is h
module _ {F : Type 0} {g : Mut F (ℕ × Unit {0}) ℕ} {s : Map (Range ℕ) F} {f : F} (h : ℕ → ℕ) (n : ℕ)
    (source : map_source s ≡ record { start = 0; end = n }) (callee : map_callee s ≡ f)
    (gives : (x r : ℕ) (q : F) → Called g f (x, tt) r q → (q ≡ f) × (r ≡ h x)) where
  numbers : YieldsList (maps nat_range_steps g) (λ r. r) s (map h (range_with_len 0 n))
  numbers = YieldsList-from_map g h (YieldsList-from_range 0 n n source (omega arith)) callee gives

  pub summed : (r : ℕ) → (xs : List ℕ) × (⊤ → Drains (maps nat_range_steps g) s xs) × (r ≡ fold (λ a x. a + x) 0 xs) → r ≡ upto_ℕ h n
  summed r ran = sum_from_yields_List s r ran numbers ∙ sum_upto h n

  pub sum_fits : (top : ℕ) → upto_ℕ h n < top → EachRunFrom (maps nat_range_steps g) s (λ p. fold (λ a x. a + x) 0 p.items < top)
  sum_fits top l = fits_from_yields_list s top numbers (rw (sum_upto h n) l)
