-- All turns that can be made: fewer can follow, and the next field stands after what they used.
use mathlib.Core.Path.{◌≡◌, sym, subst}
use mathlib.Core.List.{List}
use mathlib.Core.Bool.{Bool, true}
use Prim.Native.Nat.{ℕ, suc, ◌+◌, ◌-◌, ◌≤◌, ◌<◌}
use native.Mathlib.Omega.{arith}
use lib.ListN.{length, drop}
use Rattle.streams.specs.Machine.{Turns, Machine, can_turn, many_turns, fed}
use Rattle.streams.specs.Laws.{Lawful, Ending}
use Rattle.streams.proofs.Ready.{ready_on}
use Rattle.streams.proofs.Turns.{turns_go_on, by_turns}

module _ {P : Type 0} {m : Machine P} {Reached : P → Type 0} {remaining : P → List ℕ → List ℕ} {turns_left place : P → ℕ}
    (law : Lawful m Reached remaining) (end : Ending m Reached turns_left place) where
  turns_fall : (n : ℕ) (ended : Bool) (room : ℕ) (p : P) (rest : List ℕ) → Reached p
      → turns_left (many_turns m n ended room p rest).progress ≤ turns_left p
  turns_fall n ended room p rest r =
      by_turns law ended (λ room p rest t. turns_left t.progress ≤ turns_left p) (λ room p rest. omega arith)
      (λ room p rest later e r h. omega (arith, end.falls p r (ready_on m.longest (m.done p) ended room rest e) rest)) n room p rest r

  module _ (ended : Bool) (room : ℕ) (p : P) (rest : List ℕ) (r : Reached p) where
    pub fed-place : (let t = fed m ended room p rest in place t.progress ≡ place p + t.used)
    unfolding fed
    fed-place =
        by_turns law ended (λ room p rest t. place t.progress ≡ place p + t.used) (λ room p rest. omega arith)
        (λ room p rest later e r h. omega (arith, end.moves p rest)) (suc (length rest)) room p rest r

    -- no more can follow
    pub fed_no_more : turns_left (fed m ended room p rest).progress ≤ turns_left p
    unfolding fed
    fed_no_more = turns_fall (suc (length rest)) ended room p rest r

    -- where one can be made, fewer can
    pub fed-falls : can_turn m ended room p rest ≡ true → turns_left (fed m ended room p rest).progress < turns_left p
    unfolding fed
    fed-falls e =
        let t = m.one_turn p rest in
        let on = ready_on m.longest (m.done p) ended room rest e in
        let then = law.reaches p r on rest in
        let others = turns_fall (length rest) ended (room - length t.text) t.progress (drop t.used rest) then in
        subst (λ (x : Turns P). turns_left x.progress < turns_left p) (sym (turns_go_on m (length rest) ended room p rest e))
        (omega (arith, end.falls p r on rest))
