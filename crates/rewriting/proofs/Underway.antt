-- What turns and the loop of `give` answer.
use mathlib.Core.Path.{◌≡◌, refl, sym, ap, ◌∙◌, subst}
use mathlib.Core.List.{List, [], ◌∷◌, ◌++◌, append-nil}
use Prim.Native.Nat.{ℕ, ◌+◌, ◌-◌, ◌≤◌, ◌<◌, min}
use native.Mathlib.Numerals.{add-one}
use native.Mathlib.Omega.{arith}
use lib.ListN.{length, get_or, take, drop, length-drop}
use lib.Seq.{length-take-le, take_all, take-suc, take-add}
use Rattle.text.specs.Appended.{Appended, both, named, none_put}
use Rattle.rewriting.specs.declared.Held.{Held}
use Rattle.rewriting.specs.declared.Given.{Given}
use Rattle.rewriting.specs.declared.Taken.{Taken}
use Rattle.rewriting.specs.Given.{held_bytes, with_bytes, still_open, Handed, then, byte_joined, one_byte, many_bytes}
use Rattle.rewriting.specs.Reached.{Reached}
use Rattle.rewriting.specs.Done.{Done, Turned}
use Rattle.rewriting.proofs.OneByte.{one_joins}
use Rattle.rewriting.proofs.ManyBytes.{many-then, many-one, many_copied, many-kept}
use Rattle.rewriting.proofs.Gathered.{with_count, with-left, Gathered, gathered}

only_one : (h : Held) (b : ℕ) → one_byte h b ≡ many_bytes h (b ∷ [])
only_one h b =
    let s = one_byte h b in
    ap (λ l. record { held = s.held; text = l }) (sym (append-nil s.text)) ∙ sym (many-one h b)

-- ---- turns
-- all that came of a field that stays
pub copy_turned : (h : Held) (rest : List ℕ) {before after : List ℕ} {at n w : ℕ} → 0 < h.left → 0 < length rest
    → n ≡ min h.left (length rest) → Appended (length (take n rest)) before after at w (take n rest)
    → Turned h rest before after at (record {
      held = record { bytes = h.bytes; count = h.count; left = h.left - n };
      used = n;
      written = w;
    })
copy_turned h rest {before} {after} {at} {n} {w} l some e a =
    let k : length (take n rest) ≡ n = length-take-le n rest (omega arith) in
    let c = many_copied h (take n rest) (omega arith) in
    record {
      some = omega arith;
      within = omega arith;
      done = record {
        held = ap (λ m. record { bytes = h.bytes; count = h.count; left = h.left - m }) (sym k)
            ∙ sym (ap (λ (s : Handed). s.held) c);
        text = named (omega arith) (sym (ap (λ (s : Handed). s.text) c)) a;
      };
    }

-- n bytes that can't decide their field, and one that joins them
module _ (h : Held) (rest : List ℕ) (r : Reached h) (z : h.left ≡ 0) (some : 0 < length rest) {n : ℕ}
    (e : n ≡ min (still_open (held_bytes h)) (length rest - 1)) {g : Held} (is : g ≡ with_bytes h (take n rest)) where
  long : length (take n rest) ≡ n
  long = length-take-le n rest (omega arith)

  only-held : Gathered h (take n rest)
  only-held = gathered h (take n rest) r z (omega (arith, long))

  pub gathered_reached : Reached g
  gathered_reached = subst Reached (sym is) only-held.reached

  pub gathered_left : g.left ≡ 0
  gathered_left = ap (λ (k : Held). k.left) is ∙ with-left h (take n rest) ∙ z

  pub gathered_count : g.count ≡ h.count + n
  gathered_count = ap (λ (k : Held). k.count) is ∙ with_count h (take n rest) ∙ ap (h.count +◌) long

  abbrev b : ℕ
  b = get_or rest n 0

  all_held : byte_joined g b ≡ many_bytes h (take (n + 1) rest)
  all_held =
      sym (one_joins g b gathered_left) ∙ only_one g b
      ∙ ap (λ (k : Held). many_bytes k (b ∷ [])) is
      ∙ sym (ap (many_bytes h) (ap (λ k. take k rest) (add-one n) ∙ take-suc rest n 0 (omega arith))
      ∙ many-then h (take n rest) (b ∷ [])
      ∙ ap (λ (s : Handed). then s (many_bytes s.held (b ∷ []))) only-held.many)

  pub join_turned : {before after : List ℕ} {at : ℕ} {t : Given} → Done (g.count + 1) (byte_joined g b) before after at t
      → Turned h rest before after at (record { held = t.held; used = n + 1; written = t.written })
  join_turned {before} {after} {at} {t} d = record {
    some = omega arith;
    within = omega arith;
    done = record {
      held = d.held ∙ ap (λ (s : Handed). s.held) all_held;
      text = named (omega (arith, gathered_count)) (ap (λ (s : Handed). s.text) all_held) d.text;
    };
  }

-- ---- the loop: after some turns from what `from` holds, with a slice that was `before` and is `after`
module _ (from : Held) (piece before : List ℕ) (reached : Reached from) where
  abbrev pub Underway : Held → ℕ → ℕ → List ℕ → Type 0
  Underway h used written after =
      Done (from.count + used) (many_bytes from (take used piece)) before after 0 (record { held = h; written = written })

  pub underway_begins : Underway from 0 0 before
  unfolding many_bytes
  underway_begins = record { held = refl; text = named (omega arith) refl (none_put before 0) }

  module _ {h : Held} {used written : ℕ} {after : List ℕ} (within : used ≤ length piece) (u : Underway h used written after) where
    abbrev s : Handed
    s = many_bytes from (take used piece)

    pub held-reached : Reached h
    held-reached = subst Reached (sym u.held) (many-kept from (take used piece) reached).reached

    -- no more is written or held than came
    pub no_more : written + h.count ≤ from.count + used
    no_more =
        omega (
          arith,
          u.text.ends,
          ap (λ (g : Held). g.count) u.held,
          (many-kept from (take used piece) reached).short,
          length-take-le used piece within,
        )

    abbrev rest : List ℕ
    rest = drop used piece

    -- the part of the slice that is lent
    part : take (length piece - used) rest ≡ rest
    part = take_all (length piece - used) rest (omega (arith, length-drop used piece))

    module _ {after' : List ℕ} {r : Taken} (some : used < length piece)
        (t : Turned h (take (length piece - used) rest) after after' written r) where
      abbrev n : ℕ
      n = r.used

      pub turn_uses : (0 < n) × (used + n ≤ length piece)
      turn_uses = (t.some, omega (arith, t.within, ap length part, length-drop used piece))

      -- the bytes of the turn
      abbrev more : Handed
      more = many_bytes h (take n rest)

      turned : Done (h.count + n) more after after' written (record { held = r.held; written = r.written })
      turned =
          subst (λ l. Done (h.count + n) (many_bytes h (take n l)) after after' written (record { held = r.held; written = r.written }))
          part t.done

      on : many_bytes from (take (used + n) piece) ≡ record { held = more.held; text = s.text ++ more.text }
      on =
          ap (many_bytes from) (take-add used n piece) ∙ many-then from (take used piece) (take n rest)
          ∙ ap (λ (g : Held). then s (many_bytes g (take n rest))) (sym u.held)

      pub underway_goes_on : Underway r.held (used + n) r.written after'
      underway_goes_on =
          let both-put = both u.text turned.text in
          let m = ap (λ (s : Handed). s.text) on in
          record {
            held = turned.held ∙ sym (ap (λ (s : Handed). s.held) on);
            text = named {m = from.count + (used + n)} (omega arith) (sym m) (record {
              ends = both-put.ends;
              short = omega (
                arith,
                ap length m,
                (many-kept from (take (used + n) piece) reached).short,
                length-take-le (used + n) piece turn_uses.1,
              );
              text = both-put.text;
              rest = both-put.rest;
            });
          }

    -- at the end of the piece, that was all
    pub underway_ends : length piece ≤ used
        → Done (from.count + length piece) (many_bytes from piece) before after 0 (record { held = h; written = written })
    underway_ends l =
        let z : used ≡ length piece = omega arith in
        subst (λ p. Done (from.count + length piece) (many_bytes from p) before after 0 (record { held = h; written = written }))
        (take_all used piece l)
        (subst (λ m. Done (from.count + m) (many_bytes from (take used piece)) before after 0 (record { held = h; written = written })) z u)
