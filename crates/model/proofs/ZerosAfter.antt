-- Zeros after a body change nothing that is read of it, since past its end it reads 0 already.
use mathlib.Core.Path.{◌≡◌, refl, ◌∙◌, ap, ap₂}
use mathlib.Core.List.{List, [], ◌∷◌, ◌++◌}
use Prim.Native.Nat.{ℕ, zero, suc, ◌+◌, ◌*◌, ◌^◌, ◌≤◌}
use native.Mathlib.Omega.{arith}
use lib.ListN.{length, get_or-eq_default}
use lib.IntN.{pos}
use Rattle.whole.specs.Tab.{tab_cong}
use Rattle.rational.specs.Sum.{All}
use Rattle.model.specs.Set.{blank}
use Rattle.model.specs.Bytes.{byte, number, signed, word, words}
use Rattle.model.specs.Body.{step_rows, step_columns, linear_from, quadratic_from, given_step}
use Rattle.model.proofs.Radii.{blank-at}
use Rattle.model.proofs.Tests.{all-tab}

-- ---- what is read of two bodies that agree byte by byte
module _ (c b : List ℕ) (like : (i : ℕ) → byte c i ≡ byte b i) where
  number_like : (k i : ℕ) → number k c i ≡ number k b i
  unfolding number
  number_like zero i = refl
  number_like (suc k) i = ap₂ (λ x y. x + 256 * y) (like i) (number_like k (i + 1))

  word_like : (i : ℕ) → word c i ≡ word b i
  unfolding word
  word_like i = ap (signed (2 ^ 31)) (number_like 4 i)

  pub words_like : (i k : ℕ) → words c i k ≡ words b i k
  words_like i k = tab_cong k _ _ (λ j _. word_like _)

  pub step_like : given_step c ≡ given_step b
  unfolding given_step
  step_like = λ i. record {
    rows = like 0 i;
    columns = like 1 i;
    constant = (words_like 2 (step_rows c) ∙ ap (words b 2) (like 0)) i;
    linear = (words_like (linear_from c) (step_rows c * step_columns c)
        ∙ ap₂ (λ m n. words b (2 + 4 * m) (m * n)) (like 0) (like 1)) i;
    quadratic = (words_like (quadratic_from c) (step_rows c * step_columns c * step_columns c)
        ∙ ap₂ (λ m n. words b (2 + 4 * m + 4 * (m * n)) (m * n * n)) (like 0) (like 1)) i;
  }

-- ---- past the end of a body
pub zeros-after : (b : List ℕ) (n i : ℕ) → byte (b ++ blank n) i ≡ byte b i
zeros-after [] n i = blank-at n i
zeros-after (x ∷ b) n zero = refl
zeros-after (x ∷ b) n (suc i) = zeros-after b n i

number_past : (k : ℕ) (b : List ℕ) (i : ℕ) → length b ≤ i → number k b i ≡ 0
unfolding number
number_past zero b i l = refl
number_past (suc k) b i l =
    ap₂ (λ x y. x + 256 * y) (get_or-eq_default b 0 {n = i} l) (number_past k b (i + 1) (omega arith))

word_past : (b : List ℕ) (i : ℕ) → length b ≤ i → word b i ≡ pos 0
unfolding word
word_past b i l = ap (signed (2 ^ 31)) (number_past 4 b i l)

pub words_past : (b : List ℕ) (i k : ℕ) → length b ≤ i → All (λ z. z ≡ pos 0) (words b i k)
words_past b i k l = all-tab k _ (λ j _. word_past b _ (omega arith))
