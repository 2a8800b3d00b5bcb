-- The loop that makes turns: what it knows after some of them.
use mathlib.Core.Path.{◌≡◌, refl, sym, ap, ap₂, ◌∙◌, subst}
use mathlib.Core.List.{List, [], ◌++◌, append_assoc, append-nil}
use mathlib.Core.Bool.{Bool, true, false, cond, true≢false}
use Prim.Native.Nat.{ℕ, zero, suc, ◌+◌, ◌-◌, ◌≤◌, ◌<◌}
use native.Mathlib.Decide.{dec_lt}
use native.Mathlib.Omega.{arith}
use lib.ListN.{length, take, drop, length-drop}
use lib.Seq.{drop-drop, take_all}
use Rattle.text.specs.Appended.{Appended, both, named, none_put}
use Rattle.streams.specs.Machine.{Turns, Machine, ready, no_turn, then, can_turn, many_turns, fed}
use Rattle.streams.specs.Laws.{Lawful}
use Rattle.streams.specs.Made.{Made}
use Rattle.streams.proofs.Ready.{ready_on, ready_room}
use Rattle.streams.proofs.Turns.{turns_go_on, turns_stop, no_turns}

-- ---- some turns, then others
module _ {P : Type 0} where
  then_assoc : (a b c : Turns P) → then a (then b c) ≡ then (then a b) c
  then_assoc a b c =
      ap₂ (λ n l. record { progress = c.progress; used = n; text = l }) (omega arith) (sym (append_assoc a.text b.text c.text))

  then_none : (a : Turns P) → then a (no_turn a.progress) ≡ a
  then_none a = ap₂ (λ n l. record { progress = a.progress; used = n; text = l }) (omega arith) (append-nil a.text)

  none_then : (p : P) (a : Turns P) → then (no_turn p) a ≡ a
  none_then p a = ap (λ n. record { progress = a.progress; used = n; text = a.text }) (omega arith)

-- what was put in has as many bytes as it takes places
tight : {k : ℕ} {a b : List ℕ} {i j : ℕ} {l : List ℕ} → Appended k a b i j l → Appended j a b i j l
tight x = record { ends = x.ends; short = omega (arith, x.ends); text = x.text; rest = x.rest }

module _ {P : Type 0} (m : Machine P) (Reached : P → Type 0) (ended : Bool) (room : ℕ) (from : P) (rest before : List ℕ) where
  -- after some turns from `from`, with `rest` and a slice of `room` bytes, which was `before` and is `after`
  pub record Underway (p : P) (used written : ℕ) (after : List ℕ) : Type 0 where
    pub reached : Reached p
    pub within : used ≤ length rest
    pub fits : written ≤ room
    pub text : List ℕ
    pub put : Appended written before after 0 written text
    -- how many turns are still looked at, and that they are enough
    pub later : ℕ
    pub enough : m.done p ≡ false → length rest < later + used
    pub same : fed m ended room from rest
        ≡ then (record { progress = p; used = used; text = text }) (many_turns m later ended (room - written) p (drop used rest))

  -- what the loop's measure is: no turn can follow the last line, else one more than bytes are left
  abbrev pub turns_left : P → ℕ → ℕ
  turns_left p used = cond (m.done p) 0 (suc (length rest - used))

-- the part of a slice from a place on
part-from : (used : ℕ) (rest : List ℕ) → take (length rest - used) (drop used rest) ≡ drop used rest
part-from used rest = take_all (length rest - used) (drop used rest) (omega (arith, length-drop used rest))

-- a turn with that part
pub from-part : {P : Type 0} (turn : List ℕ → Turns P) (rest : List ℕ) (used : ℕ) {most : ℕ} {before after : List ℕ} {at : ℕ} {q : P} {v w : ℕ}
    → Made most (turn (take (length rest - used) (drop used rest))) before after at q v w
    → Made most (turn (drop used rest)) before after at q v w
from-part turn rest used {most} {before} {after} {at} {q} {v} {w} d =
    subst (λ l. Made most (turn l) before after at q v w) (part-from used rest) d

-- whether another turn can be made, as the loop asks it
pub ready-here : {P : Type 0} (m : Machine P) (p : P) {longest : ℕ} {done : Bool} → done ≡ m.done p → longest ≡ m.longest
    → (ended : Bool) (rest : List ℕ) (used written n room : ℕ) {b x : Bool}
    → b ≡ ready longest done ended (n - written) (take (length rest - used) (drop used rest)) → n ≡ room → b ≡ x
    → can_turn m ended (room - written) p (drop used rest) ≡ x
ready-here m p {longest} {done} d w ended rest used written n room e k x =
    ap₂ (λ a b. ready a b ended (room - written) (drop used rest)) (sym w) (sym d)
    ∙ sym (e ∙ ap₂ (λ k l. ready longest done ended (k - written) l) k (part-from used rest)) ∙ x

module _ {P : Type 0} {m : Machine P} {Reached : P → Type 0} {remaining : P → List ℕ → List ℕ} (law : Lawful m Reached remaining)
    (ended : Bool) (room : ℕ) (from : P) (rest before : List ℕ) where
  abbrev Here : P → ℕ → ℕ → List ℕ → Type 0
  Here = Underway m Reached ended room from rest before

  pub underway_begins : Reached from → Here from 0 0 before
  unfolding fed
  underway_begins r = record {
    reached = r;
    within = omega arith;
    fits = omega arith;
    text = [];
    put = none_put before 0;
    later = suc (length rest);
    enough = λ e. omega arith;
    same = ap (λ k. many_turns m (suc (length rest)) ended k from rest) (omega arith)
        ∙ sym (none_then from (many_turns m (suc (length rest)) ended (room - 0) from rest));
  }

  module _ {p : P} {used written : ℕ} {after : List ℕ} (u : Here p used written after) where
    abbrev sofar : Turns P
    sofar = record { progress = p; used = used; text = u.text }

    abbrev left : List ℕ
    left = drop used rest

    stopped : (n k : ℕ) (l : List ℕ) → can_turn m ended k p l ≡ false → many_turns m n ended k p l ≡ no_turn p
    stopped zero k l e = no_turns m ended k p l
    stopped (suc n) k l e = turns_stop m n ended k p l e

    -- where no other can be made, that was all
    pub underway_ends : can_turn m ended (room - written) p left ≡ false → Made room (fed m ended room from rest) before after 0 p used written
    underway_ends e =
        let all : fed m ended room from rest ≡ sofar =
        u.same ∙ ap (then sofar) (stopped u.later (room - written) left e) ∙ then_none sofar in
        subst (λ (t : Turns P). Made room t before after 0 p used written) (sym all)
        (record { progress = refl; used = refl; text = named u.fits refl u.put })

    -- another turn
    module _ (e : can_turn m ended (room - written) p left ≡ true) where
      pub on : m.done p ≡ false
      on = ready_on m.longest (m.done p) ended (room - written) left e

      pub room_left : written + m.longest ≤ room
      room_left = omega (arith, ready_room m.longest (m.done p) ended (room - written) left e, u.fits)

      abbrev t : Turns P
      t = m.one_turn p left

      -- it uses a byte, or is the last
      used_or_last : (n : ℕ) → u.later ≡ suc n → m.done t.progress ≡ false → length rest < n + (used + t.used)
      used_or_last n z off = go (dec_lt 0 (length left))
        where
          go : Dec (0 < length left) → length rest < n + (used + t.used)
          go (yes h) = omega (arith, u.enough on, law.uses p left h)
          go (no h) = absurd (true≢false (sym (law.ends p u.reached on left (omega arith)) ∙ off))

      same_then : (n w : ℕ) → u.later ≡ suc n → w ≡ written + length t.text
          → fed m ended room from rest ≡ then (then sofar t) (many_turns m n ended (room - w) t.progress (drop (used + t.used) rest))
      same_then n w z k =
          u.same
          ∙ ap (λ x. then sofar (many_turns m x ended (room - written) p left)) z
          ∙ ap (then sofar) (turns_go_on m n ended (room - written) p left e)
          ∙ then_assoc sofar t (many_turns m n ended (room - written - length t.text) t.progress (drop t.used left))
          ∙ ap₂ (λ x l. then (then sofar t) (many_turns m n ended x t.progress l)) (omega arith) (drop-drop t.used used rest)

      next : {after' : List ℕ} {q : P} {v w : ℕ} → Made m.longest t after after' written q v w
          → Here t.progress (used + t.used) w after'
      next {after'} {q} {v} {w} d = by_later u.later refl
        where
          by_later : (n : ℕ) → u.later ≡ n → Here t.progress (used + t.used) w after'
          by_later zero z = absurd (omega (arith, u.enough on, u.within))
          by_later (suc n) z = record {
            reached = law.reaches p u.reached on left;
            within = omega (arith, law.within p left, length-drop used rest, u.within);
            fits = omega (arith, d.text.ends, d.text.short, room_left);
            text = u.text ++ t.text;
            put = tight (both u.put d.text);
            later = n;
            enough = used_or_last n z;
            same = same_then n w z d.text.ends;
          }

      pub underway_goes_on : {after' : List ℕ} {q : P} {v w : ℕ} → Made m.longest t after after' written q v w
          → Here q (used + v) w after'
      underway_goes_on {after'} {q} {v} {w} d =
          subst (λ x. Here x (used + v) w after') (sym d.progress)
          (subst (λ n. Here t.progress (used + n) w after') (sym d.used) (next d))

      -- the measure falls
      pub underway_falls : {after' : List ℕ} {q : P} {v w : ℕ} → Made m.longest t after after' written q v w
          → turns_left m Reached ended room from rest before q (used + v) < turns_left m Reached ended room from rest before p used
      underway_falls {q = q} {v} d =
          subst (λ b. turns_left m Reached ended room from rest before q (used + v) < cond b 0 (suc (length rest - used))) (sym on) (go (m.done q) refl (dec_lt 0 (length left)))
        where
          go : (b : Bool) → m.done q ≡ b → Dec (0 < length left) → cond b 0 (suc (length rest - (used + v))) < suc (length rest - used)
          go true z k = omega arith
          go false z (yes k) = omega (arith, d.used, law.uses p left k, law.within p left, length-drop used rest)
          go false z (no k) =
              absurd (true≢false (sym (law.ends p u.reached on left (omega arith)) ∙ sym (ap m.done d.progress) ∙ z))
