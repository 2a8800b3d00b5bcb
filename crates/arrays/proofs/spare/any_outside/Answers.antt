-- `spare::any_outside` meets its contract: what stands after the used rows, and in the rest of each.
use Rattle.std.specs.Prelude.{◌≡◌, not, ◌||◌, ℕ, Bool, ◌+◌, ◌-◌, ◌*◌, ◌≤◌, length, get_or, take, drop}
use Rattle.std.proofs.Common.{◌∙◌, sym, ap, ap₂, arith, rules, mul-le-mul, le_refl, suc-mul}
use Rattle.std.proofs.lemmas.Iterator.{YieldsList-from_range}
use Rattle.std.proofs.lemmas.Iterator.Search.{any_from_yields_List}
use Rattle.std.proofs.lemmas.Fn.{says_at}
use Rattle.whole.specs.Tab.{any}
use Rattle.whole.specs.Tests.{any_cong, any-places, some_below}
use Rattle.arrays.specs.Spare.{spare-rows}
use Rattle.arrays.specs.Chains.{some_listed, part-tab}
use Rattle.arrays.proofs.spare.any_outside.Goals as goal

pub returns : goal.returns
returns g c zero d says =
    let xs = c.args.xs.now in
    let w = c.args.w in
    let t = c.args.t in
    let k = c.args.k in
    let n = length xs in
    let run : ℕ → ℕ → Bool = λ at m. any (λ x. not (zero x)) (take m (drop at xs)) in
    let zeroAt : ℕ → Bool = λ x. zero (get_or xs x d) in
    let places : (at m : ℕ) → at + m ≤ n → run at m ≡ some_below m (λ i. not (zeroAt (at + i))) =
    λ at m l. ap (any (λ x. not (zero x))) (part-tab d xs at m l) ∙ any-places (λ x. not (zero x)) m (λ i. get_or xs (at + i) d) in
    let last : c.test.result ≡ run (t * w) (n - t * w) = says _ _ (search (rules, says_at)) in
    let rest = any_from_yields_List (λ r. run (r * w + k) (r * w + w - (r * w + k))) _ _ _ c.any.ensures.ran (YieldsList-from_range 0 t t (cc) (omega arith))
    (λ x b q k. (search rules, says _ _ (search (rules, says_at)))) in
    let width : (r : ℕ) → r * w + w - (r * w + k) ≡ w - k = λ r. omega arith in
    ap₂ ◌||◌ (last ∙ places (t * w) (n - t * w) (omega arith))
    (rest ∙ some_listed _ t
    ∙ any_cong _ _ t (λ r. r) (λ r l. ap (run (r * w + k)) (width r)
    ∙ places (r * w + k) (w - k) (omega (arith, mul-le-mul l (le_refl w), suc-mul r w))))
    ∙ sym (spare-rows w t k n (omega arith) c.requires.1 c.requires.2 zeroAt)
