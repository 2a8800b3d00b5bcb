-- A line put at the start of a slice that has room for it.
use Rattle.std.specs.Prelude.{◌≡◌, cond, List, ◌++◌, ℕ, ◌≤◌, ◌<◌, ltb, length, take, drop, Result, Ok, Err}
use Rattle.std.proofs.Common.{sym, ap, ◌∙◌, subst, arith, lt-ltb, le-ltb}
use Rattle.text.specs.Appended.{Appended, appended_is}
use Rattle.lines.specs.declared.NoRoom.{NoRoom}

-- what is answered: the length of the line, or that the slice has no room for it
abbrev pub written : List ℕ → List ℕ → Result ℕ NoRoom
written line slice = cond (ltb (length slice) (length line)) (Err (record {})) (Ok (length line))

-- the slice afterwards: the line and what followed it, or as it was
abbrev pub filled : List ℕ → List ℕ → List ℕ
filled line slice = cond (ltb (length slice) (length line)) slice (line ++ drop (length line) slice)

-- the answer, and the slice before and after, of a function that writes a line
pub record Put (r : Result ℕ NoRoom) (before after line : List ℕ) : Type 0 where
  pub answer : r ≡ written line before
  pub slice : after ≡ filled line before

-- ---- laws
pub no_room : (before line : List ℕ) → length before < length line → Put (Err (record {})) before before line
no_room before line h = record { answer = rw (lt-ltb _ _ h); slice = rw (lt-ltb _ _ h) }

pub has_room : {most k : ℕ} (before after line : List ℕ) → length line ≤ length before → Appended most before after 0 k line
    → Put (Ok k) before after line
has_room {k = k} before after line h x =
    let n : length line ≡ k = omega (arith, x.ends) in
    record {
      answer = rw (le-ltb _ _ h) (ap Ok (sym n));
      slice = rw (le-ltb _ _ h) (appended_is x ∙ ap (λ j. line ++ drop j before) (sym n));
    }

-- a line that was written from the start of a buffer, and then put
pub counted : {most k : ℕ} {a b line : List ℕ} → Appended most a b 0 k line → k ≡ length (take k b)
counted {k = k} {line = line} x = let n : k ≡ length line = omega (arith, x.ends) in n ∙ sym (ap length x.text)

pub buffered : {most k : ℕ} {r : Result ℕ NoRoom} {a b before after line : List ℕ} → Appended most a b 0 k line → Put r before after (take k b)
    → Put r before after line
buffered {r = r} {before = before} {after = after} x p = subst (Put r before after) x.text p
