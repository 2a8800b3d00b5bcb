-- Turns one after the other: what holds of each holds of all, and they stop only where no other can be made.
use mathlib.Core.Path.{◌≡◌, refl, sym, ap, ◌∙◌, subst}
use mathlib.Core.List.{List, [], ◌++◌, append_assoc, append-nil}
use mathlib.Core.Bool.{Bool, true, false, not, cond, ◌||◌, true≢false}
use Prim.Native.Nat.{ℕ, zero, suc, ◌-◌, ◌≤◌, ◌<◌}
use native.Mathlib.Omega.{arith}
use lib.ListN.{length, drop, length-drop}
use lib.Seq.{drop-drop}
use Rattle.model.specs.Run.{cut}
use Rattle.streams.specs.Machine.{Turns, Machine, no_turn, then, can_turn, many_turns, fed}
use Rattle.streams.specs.Laws.{Lawful}
use Rattle.streams.proofs.Ready.{ready_on, ready-field, ready_done}

module _ {P : Type 0} (m : Machine P) where
  -- by whether another turn is made
  module _ (n : ℕ) (ended : Bool) (room : ℕ) (p : P) (rest : List ℕ) where
    abbrev later : Turns P
    later = let t = m.one_turn p rest in many_turns m n ended (room - length t.text) t.progress (drop t.used rest)

    pub turns_go_on : can_turn m ended room p rest ≡ true → many_turns m (suc n) ended room p rest ≡ then (m.one_turn p rest) later
    unfolding many_turns
    turns_go_on e = ap (λ b. cond b (then (m.one_turn p rest) later) (no_turn p)) e

    pub turns_stop : can_turn m ended room p rest ≡ false → many_turns m (suc n) ended room p rest ≡ no_turn p
    unfolding many_turns
    turns_stop e = ap (λ b. cond b (then (m.one_turn p rest) later) (no_turn p)) e

  pub no_turns : (ended : Bool) (room : ℕ) (p : P) (rest : List ℕ) → many_turns m 0 ended room p rest ≡ no_turn p
  unfolding many_turns
  no_turns ended room p rest = refl

  -- after the last line nothing happens
  pub done_fed : (ended : Bool) (room : ℕ) (p : P) (rest : List ℕ) → m.done p ≡ true → fed m ended room p rest ≡ no_turn p
  unfolding fed
  done_fed ended room p rest d =
      turns_stop (length rest) ended room p rest (sym (ready_done m.longest (m.done p) ended room rest d))

module _ {P : Type 0} {m : Machine P} {Reached : P → Type 0} {remaining : P → List ℕ → List ℕ} (law : Lawful m Reached remaining) where
  -- a property of what turns come to, by induction
  pub by_turns : (ended : Bool) (Q : ℕ → P → List ℕ → Turns P → Type 0)
      → ((room : ℕ) (p : P) (rest : List ℕ) → Q room p rest (no_turn p))
      → ((room : ℕ) (p : P) (rest : List ℕ) (later : Turns P) → can_turn m ended room p rest ≡ true → Reached p
      → (let t = m.one_turn p rest in Q (room - length t.text) t.progress (drop t.used rest) later → Q room p rest (then t later)))
      → (n room : ℕ) (p : P) (rest : List ℕ) → Reached p → Q room p rest (many_turns m n ended room p rest)
  by_turns ended Q none more = go
    where
      go : (n room : ℕ) (p : P) (rest : List ℕ) → Reached p → Q room p rest (many_turns m n ended room p rest)
      go zero room p rest r = subst (Q room p rest) (sym (no_turns m ended room p rest)) (none room p rest)
      go (suc n) room p rest r =
          by_case (can_turn m ended room p rest) refl (λ d. go n _ _ _ (law.reaches p r d rest))
        where
          by_case : (b : Bool) → can_turn m ended room p rest ≡ b
              → (m.done p ≡ false
              → (let t = m.one_turn p rest in Q (room - length t.text) t.progress (drop t.used rest) (later m n ended room p rest)))
              → Q room p rest (many_turns m (suc n) ended room p rest)
          by_case true e h =
              subst (Q room p rest) (sym (turns_go_on m n ended room p rest e))
              (more room p rest (later m n ended room p rest) e r (h (ready_on m.longest (m.done p) ended room rest e)))
          by_case false e h = subst (Q room p rest) (sym (turns_stop m n ended room p rest e)) (none room p rest)

  -- ---- what holds of each turn holds of all
  turns_reached : (n : ℕ) (ended : Bool) (room : ℕ) (p : P) (rest : List ℕ) → Reached p
      → Reached (many_turns m n ended room p rest).progress
  turns_reached n ended room p rest r =
      by_turns ended (λ room p rest t. Reached p → Reached t.progress) (λ room p rest r. r)
      (λ room p rest later e r h q. h (law.reaches p r (ready_on m.longest (m.done p) ended room rest e) rest)) n room p rest r r

  -- no more is used than there is
  turns_within : (n : ℕ) (ended : Bool) (room : ℕ) (p : P) (rest : List ℕ) → Reached p
      → (many_turns m n ended room p rest).used ≤ length rest
  turns_within n ended room p rest r =
      by_turns ended (λ room p rest t. t.used ≤ length rest) (λ room p rest. omega arith)
      (λ room p rest later e r h. omega (arith, law.within p rest, length-drop (m.one_turn p rest).used rest)) n room p rest r

  -- a turn's text, and what is still to be printed after it, are what was to be printed, whatever follows; nothing does after the end
  turned-goes_on : (p : P) → Reached p → m.done p ≡ false → (ended : Bool) (rest more : List ℕ) → (ended ≡ true → more ≡ [])
      → ended || not (cut rest) ≡ true
      → (let t = m.one_turn p rest in remaining p (rest ++ more) ≡ t.text ++ remaining t.progress (drop t.used rest ++ more))
  turned-goes_on p r on ended rest more last h = go (cut rest) refl
    where
      by_end : (ended b : Bool) → ended || not b ≡ true → b ≡ true → ended ≡ true
      by_end true b h e = refl
      by_end false true h e = h
      by_end false false h e = absurd (true≢false (sym e))

      go : (b : Bool) → cut rest ≡ b
          → (let t = m.one_turn p rest in remaining p (rest ++ more) ≡ t.text ++ remaining t.progress (drop t.used rest ++ more))
      go false e =
          let w = law.whole p rest more e in
          law.prints p r on (rest ++ more)
          ∙ ap (λ (t : Turns P). t.text ++ remaining t.progress (drop t.used (rest ++ more))) w.0
          ∙ ap (λ l. (m.one_turn p rest).text ++ remaining (m.one_turn p rest).progress l) w.1
      go true e =
          let t = m.one_turn p rest in
          subst (λ l. remaining p (rest ++ l) ≡ t.text ++ remaining t.progress (drop t.used rest ++ l))
          (sym (last (by_end ended (cut rest) h e)))
          (ap (remaining p) (append-nil rest) ∙ law.prints p r on rest
          ∙ ap (λ l. t.text ++ remaining t.progress l) (sym (append-nil (drop t.used rest))))

  -- what is printed
  module _ (ended : Bool) (more : List ℕ) (last : ended ≡ true → more ≡ []) where
    turns_print : (n room : ℕ) (p : P) (rest : List ℕ) → Reached p
        → (let t = many_turns m n ended room p rest in
        remaining p (rest ++ more) ≡ t.text ++ remaining t.progress (drop t.used rest ++ more))
    turns_print =
        by_turns ended (λ room p rest t. remaining p (rest ++ more) ≡ t.text ++ remaining t.progress (drop t.used rest ++ more))
        (λ room p rest. refl)
        (λ room p rest later e r h.
        let t = m.one_turn p rest in
        turned-goes_on p r (ready_on m.longest (m.done p) ended room rest e) ended rest more last (ready-field m.longest (m.done p) ended room rest e)
        ∙ ap (t.text ++◌) h
        ∙ sym (append_assoc t.text later.text _)
        ∙ ap (λ l. (t.text ++ later.text) ++ remaining later.progress (l ++ more)) (drop-drop later.used t.used rest))

  -- ---- all that can be made
  module _ (ended : Bool) (room : ℕ) (p : P) (rest : List ℕ) (r : Reached p) where
    pub fed-reached : Reached (fed m ended room p rest).progress
    unfolding fed
    fed-reached = turns_reached (suc (length rest)) ended room p rest r

    pub fed-within : (fed m ended room p rest).used ≤ length rest
    unfolding fed
    fed-within = turns_within (suc (length rest)) ended room p rest r

    pub fed_prints : (more : List ℕ) → (ended ≡ true → more ≡ [])
        → (let t = fed m ended room p rest in remaining p (rest ++ more) ≡ t.text ++ remaining t.progress (drop t.used rest ++ more))
    unfolding fed
    fed_prints more last = turns_print ended more last (suc (length rest)) room p rest r

    -- where one can be made, a byte or more is used, or the last line is given
    pub fed_gets_on : can_turn m ended room p rest ≡ true → 0 < length rest → 0 < (fed m ended room p rest).used
    unfolding fed
    fed_gets_on e h =
        subst (λ (x : Turns P). 0 < x.used) (sym (turns_go_on m (length rest) ended room p rest e)) (omega (arith, law.uses p rest h))

    pub fed-ends : can_turn m ended room p rest ≡ true → length rest ≡ 0 → m.done (fed m ended room p rest).progress ≡ true
    unfolding fed
    fed-ends e z =
        ap (λ (x : Turns P). m.done x.progress) (turns_go_on m (length rest) ended room p rest e)
        ∙ ap (λ n. m.done (later m n ended room p rest).progress) z
        ∙ ap (λ (x : Turns P). m.done x.progress) (no_turns m ended _ _ _)
        ∙ law.ends p r (ready_on m.longest (m.done p) ended room rest e) rest z
