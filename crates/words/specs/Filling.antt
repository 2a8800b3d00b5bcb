-- What is said of a closure that gives the value of each place of a slice.
use Rattle.std.specs.Prelude.{◌≡◌, List, ℕ, ◌<◌, length, get_or}
use Rattle.std.proofs.Common.{sym, ◌∙◌, arith, ext_get_or}
use Rattle.whole.specs.Tab.{tab, length-tab, get_d_tab}

-- it may be called for each of the places 0 .. n - 1
abbrev pub Callable : (ℕ → Type 0) → ℕ → Type 0
Callable pre n = (k : ℕ) → k < n → pre k

-- it gives f k for place k
abbrev pub Gives : {X : Type 0} → (ℕ → X → Type 0) → ℕ → (ℕ → X) → Type 0
Gives {X} post n f = (k : ℕ) (v : X) → k < n → post k v → v ≡ f k

-- a slice whose places hold what it gives
pub filled : {X : Type 0} {post : ℕ → X → Type 0} (xs : List X) (n : ℕ) (f : ℕ → X) → length xs ≡ n
    → ((k : ℕ) (d : X) → k < n → post k (get_or xs k d)) → Gives post n f → xs ≡ tab n f
filled xs n f e held h =
    ext_get_or (f 0) xs (tab n f) (e ∙ sym (length-tab n f))
    (λ k l. let m : k < n = omega arith in h k _ m (held k (f 0) m) ∙ sym (get_d_tab n f (f 0) k m))
