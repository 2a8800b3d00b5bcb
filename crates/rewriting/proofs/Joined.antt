-- A byte that joins those held: what `join` answers.
use mathlib.Core.Path.{◌≡◌, sym, ap, ◌∙◌, subst}
use mathlib.Core.Bool.{Bool, true, false}
use mathlib.Core.List.{List}
use Prim.Native.Nat.{ℕ, ◌+◌, ◌-◌, ◌≤◌}
use native.Mathlib.Omega.{arith}
use lib.ListN.{length, length-set}
use Rattle.model.specs.Run.{field_length}
use Rattle.model.specs.Rewrite.{empty_disturbance}
use Rattle.text.specs.Appended.{Appended, named, none_put}
use Rattle.rewriting.specs.declared.Held.{Held}
use Rattle.rewriting.specs.Given.{held_bytes, with_byte, none_held, undecided, Handed, no_byte, byte_joined}
use Rattle.rewriting.specs.Reached.{Reached}
use Rattle.rewriting.specs.Done.{Done}
use Rattle.rewriting.proofs.OneByte.{held_below, decided_header, next-within, next_count}

module _ (h : Held) (b : ℕ) where
  abbrev next : Held
  next = with_byte h b

  abbrev field : List ℕ
  field = held_bytes next

  pub joined_open : undecided field ≡ true → byte_joined h b ≡ no_byte next
  unfolding byte_joined
  joined_open u = rw u

  module _ (u : undecided field ≡ false) where
    joined_empty : empty_disturbance field ≡ true → byte_joined h b ≡ no_byte (none_held next 0)
    unfolding byte_joined
    joined_empty e = rw (u, e)

    joined_other : empty_disturbance field ≡ false
        → byte_joined h b ≡ record { held = none_held next (field_length field - length field); text = field }
    unfolding byte_joined
    joined_other e = rw (u, e)

  -- what is answered for outcome s, where nothing is written
  none_written : {s : Handed} (g : Held) (l : List ℕ) (at : ℕ) → s ≡ no_byte g
      → Done (h.count + 1) s l l at (record { held = g; written = at })
  none_written g l at e = record {
    held = sym (ap (λ (s : Handed). s.held) e);
    text = named (omega arith) (sym (ap (λ (s : Handed). s.text) e)) (none_put l at);
  }

  -- w is held with the byte
  module _ {w : Held} (is : w ≡ next) where
    -- ---- its field
    module _ (r : Reached h) where
      pub with-within : w.count ≤ length w.bytes
      with-within =
          subst (λ (g : Held). g.count ≤ length g.bytes) (sym is)
          (omega (arith, length-set h.bytes h.count b, r.room, held_below h r))

      pub with-more : length (held_bytes w) ≡ h.count + 1
      with-more = ap (λ (g : Held). length (held_bytes g)) is ∙ next_count h r b

      pub with_header : {x : Bool} → x ≡ undecided (held_bytes w) → x ≡ false
          → (3 ≤ length (held_bytes w)) × (length (held_bytes w) ≤ field_length (held_bytes w))
      with_header e p = (
        decided_header (held_bytes w) (sym e ∙ p),
        subst (λ (g : Held). length (held_bytes g) ≤ field_length (held_bytes g)) (sym is) (next-within h r b),
      )

    -- ---- what is answered
    same_test : (t : List ℕ → Bool) {x y : Bool} → x ≡ t (held_bytes w) → x ≡ y → t field ≡ y
    same_test t e x = ap (λ (g : Held). t (held_bytes g)) (sym is) ∙ sym e ∙ x

    pub join_holds : {x : Bool} (l : List ℕ) (at : ℕ) → x ≡ undecided (held_bytes w) → x ≡ true
        → Done (h.count + 1) (byte_joined h b) l l at (record { held = w; written = at })
    join_holds l at e x = none_written w l at (joined_open (same_test undecided e x) ∙ ap no_byte (sym is))

    module _ {x y : Bool} (e : x ≡ undecided (held_bytes w)) (p : x ≡ false) (g : y ≡ empty_disturbance (held_bytes w)) where
      pub join_drops : (l : List ℕ) (at : ℕ) → y ≡ true
          → Done (h.count + 1) (byte_joined h b) l l at (record { held = record { bytes = w.bytes; count = 0; left = 0 }; written = at })
      join_drops l at q =
          none_written (none_held w 0) l at
          (joined_empty (same_test undecided e p) (same_test empty_disturbance g q)
          ∙ ap (λ (v : Held). no_byte (none_held v 0)) (sym is))

      pub join_writes : {before after : List ℕ} {at n left : ℕ} → Reached h → y ≡ false
          → left ≡ field_length (held_bytes w) - length (held_bytes w)
          → Appended (length (held_bytes w)) before after at n (held_bytes w)
          → Done (h.count + 1) (byte_joined h b) before after at
          (record { held = record { bytes = w.bytes; count = 0; left = left }; written = n })
      join_writes {before} {after} {at} {n} {left} r q k a =
          let s : byte_joined h b ≡ record { held = none_held w left; text = held_bytes w } =
          joined_other (same_test undecided e p) (same_test empty_disturbance g q)
          ∙ ap (λ (v : Held). record { held = none_held v (field_length (held_bytes v) - length (held_bytes v)); text = held_bytes v }) (sym is)
          ∙ ap (λ m. record { held = none_held w m; text = held_bytes w }) (sym k) in
          record {
            held = sym (ap (λ (s : Handed). s.held) s);
            text = named (omega (arith, with-more r))
                (sym (ap (λ (s : Handed). s.text) s)) a;
          }
