-- `hulling::with_next` meets its contract.
use mathlib.Core.Path.{ap}
use mathlib.Core.List.{List}
use Prim.Native.Nat.{ℕ}
use lib.ListN.{set}
use Rattle.hulling.proofs.with_next.Goals as goal

pub returns : goal.returns
returns c =
    let s = c.args in ap (λ (l : List ℕ). set l s.count s.next) c.first_twelve-out.ensures
