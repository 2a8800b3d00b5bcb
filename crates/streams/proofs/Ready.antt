-- Whether a turn can be made: what that asks.
use mathlib.Core.Path.{◌≡◌, sym, ap, ap₂, ◌∙◌}
use mathlib.Core.Bool.{Bool, true, false, not, ◌&&◌, ◌||◌, and-true}
use mathlib.Core.List.{List}
use Prim.Native.Nat.{ℕ, ◌≤◌}
use borrow.Author.Tests.{not-true, le-ltb, ltb-false}
use lib.Dec.{ltb}
use Rattle.model.specs.Run.{cut}
use Rattle.model.proofs.Tests as Tests
use Rattle.streams.specs.Machine.{ready}

module _ (longest : ℕ) (done ended : Bool) (room : ℕ) (rest : List ℕ) where
  -- ---- what a turn that can be made has
  module _ (e : ready longest done ended room rest ≡ true) where
    all_three : (not done ≡ true) × (((ended || not (cut rest)) && not (ltb room longest)) ≡ true)
    unfolding ready
    all_three = Tests.and_true (not done) ((ended || not (cut rest)) && not (ltb room longest)) e

    pub ready_on : done ≡ false
    ready_on = not-true done all_three.0

    pub ready-field : ended || not (cut rest) ≡ true
    ready-field = (Tests.and_true (ended || not (cut rest)) (not (ltb room longest)) all_three.1).0

    pub ready_room : longest ≤ room
    ready_room = ltb-false room longest (not-true (ltb room longest) (Tests.and_true (ended || not (cut rest)) _ all_three.1).1)

  -- ---- the tests
  pub ready_done : done ≡ true → false ≡ ready longest done ended room rest
  unfolding ready
  ready_done d = sym (ap (λ x. not x && ((ended || not (cut rest)) && not (ltb room longest))) d)

  pub ready_by : done ≡ false → longest ≤ room → ready longest done ended room rest ≡ ended || not (cut rest)
  unfolding ready
  ready_by d h =
      ap₂ (λ x y. not x && ((ended || not (cut rest)) && not y)) d (le-ltb room longest h) ∙ and-true (ended || not (cut rest))
