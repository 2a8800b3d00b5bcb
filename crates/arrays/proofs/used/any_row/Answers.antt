-- `used::any_row` meets its contract: some row passes where the library finds one.
use Rattle.std.specs.Prelude.{take, drop, ◌*◌}
use Rattle.std.proofs.Common.{◌∙◌, ap, arith, rules, mul-le-mul, le_refl, suc-mul}
use Rattle.std.proofs.lemmas.Iterator.{YieldsList-from_range}
use Rattle.std.proofs.lemmas.Iterator.Search.{any_from_yields_List}
use Rattle.std.proofs.lemmas.Fn.{says_at}
use Rattle.whole.specs.Tests.{any_cong}
use Rattle.arrays.specs.Chains.{some_listed, part-tab}
use Rattle.arrays.proofs.used.any_row.Goals as goal

pub returns : goal.returns
returns g c p d says =
    any_from_yields_List (λ t. p (take c.args.n (drop (t * c.args.w) c.args.xs.now))) _ _ _ c.any.ensures.ran (YieldsList-from_range 0 c.args.rows c.args.rows (cc) (omega arith))
    (λ x b q k. (search rules, says _ _ (search (rules, says_at))))
    ∙ some_listed _ c.args.rows
    ∙ any_cong _ _ c.args.rows (λ t. t) (λ t l. ap p (part-tab d c.args.xs.now (t * c.args.w) c.args.n (omega (arith, mul-le-mul l (le_refl c.args.w), suc-mul t c.args.w))))
