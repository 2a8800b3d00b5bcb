-- One byte keeps what is known, and what is still to be written before it is what is written for it and what is still to be written after.
use mathlib.Core.Path.{◌≡◌, refl, sym, ap, ap₂, ◌∙◌, subst}
use mathlib.Core.Bool.{Bool, true, false, cond, ◌&&◌, ◌||◌, true≢false}
use mathlib.Core.List.{List, [], ◌∷◌, ◌++◌, append_assoc, append-nil}
use Prim.Native.Nat.{ℕ, zero, suc, ◌+◌, ◌-◌, ◌≤◌, ◌<◌}
use native.Mathlib.Numerals.{add-one}
use native.Mathlib.Decide.{dec_lt}
use native.Mathlib.Omega.{arith}
use borrow.Author.Tests.{lt-ltb, ltb-true, ltb-false, leb-true, eq-eqb}
use lib.Dec.{ltb, leb, eqb}
use lib.ListN.{length, take, drop, set, length-set, length-append}
use lib.Seq.{take-suc-set, length-take-le, take-nil, drop-nil}
use Rattle.whole.specs.Tests.{or_left, or_right, above_zero}
use Rattle.model.specs.Run.{tag, body_length, field_length}
use Rattle.model.specs.Rewrite.{empty_disturbance, rewritten}
use Rattle.model.proofs.Cutting.{header_kept}
use Rattle.model.proofs.Rewritten.{may_be_empty, cut_stays, rewritten-whole, rewritten-cut, rewritten_stays}
use Rattle.rewriting.specs.declared.Held.{Held}
use Rattle.rewriting.specs.Given.{held_bytes, with_byte, none_held, undecided, Handed, no_byte, byte_copied, byte_joined, one_byte}
use Rattle.rewriting.specs.Reached.{Reached, remaining}

-- ---- bytes that don't decide their field
-- the field is cut, and shorter than the longest empty disturbance
pub open_cut : (f : List ℕ) → undecided f ≡ true → length f < field_length f
unfolding undecided
open_cut f e = by_header (ltb (length f) 3) (may_be_empty f) (ltb (length f) (field_length f)) refl refl e
  where
    by_header : (x y z : Bool) → ltb (length f) 3 ≡ x → ltb (length f) (field_length f) ≡ z → x || (y && z) ≡ true
        → length f < field_length f
    by_header true y z p q e = omega (arith, ltb-true (length f) 3 p)
    by_header false true true p q e = ltb-true (length f) (field_length f) q
    by_header false true false p q e = absurd (true≢false (sym e))
    by_header false false z p q e = absurd (true≢false (sym e))

pub open_short : (f : List ℕ) → undecided f ≡ true → length f < 28
unfolding undecided
open_short f e = by_header (ltb (length f) 3) (eqb (tag f) 3) (leb (body_length f) 25) (ltb (length f) (field_length f)) refl refl refl e
  where
    by_header : (x t y z : Bool) → ltb (length f) 3 ≡ x → leb (body_length f) 25 ≡ y → ltb (length f) (field_length f) ≡ z
        → x || (t && y && z) ≡ true → length f < 28
    by_header true t y z p q r e = omega (arith, ltb-true (length f) 3 p)
    by_header false true true true p q r e =
        omega (arith, ltb-true (length f) (field_length f) r, leb-true (body_length f) 25 q)
    by_header false true true false p q r e = absurd (true≢false (sym e))
    by_header false true false z p q r e = absurd (true≢false (sym e))
    by_header false false y z p q r e = absurd (true≢false (sym e))

-- one byte more is no byte past its end
pub open_grown : (f : List ℕ) (b : ℕ) → undecided f ≡ true → length (f ++ (b ∷ [])) ≤ field_length (f ++ (b ∷ []))
open_grown f b e = by_header (dec_lt (length f) 3)
  where
    by_header : Dec (length f < 3) → length (f ++ (b ∷ [])) ≤ field_length (f ++ (b ∷ []))
    by_header (yes h) = omega (arith, length-append f (b ∷ []))
    by_header (no h) = omega (arith, length-append f (b ∷ []), header_kept f (b ∷ []) (omega arith), open_cut f e)

-- ---- bytes that decide it, and no byte past its end
module _ (f : List ℕ) (e : undecided f ≡ false) where
  pub decided_header : 3 ≤ length f
  unfolding undecided
  decided_header = ltb-false (length f) 3 (or_left (ltb (length f) 3) _ e)

  -- where the field is cut it can't be an empty disturbance
  decided_other : length f < field_length f → may_be_empty f ≡ false
  unfolding undecided
  decided_other h = first-false (may_be_empty f) (ltb (length f) (field_length f)) (lt-ltb (length f) (field_length f) h)
      (or_right (ltb (length f) 3) _ e)
    where
      first-false : (x y : Bool) → y ≡ true → x && y ≡ false → x ≡ false
      first-false true y p q = absurd (true≢false (sym p ∙ q))
      first-false false y p q = refl

  abbrev announced : ℕ
  announced = field_length f - length f

  -- an empty disturbance is whole
  empty_whole : empty_disturbance f ≡ true → announced ≡ 0
  empty_whole h = by_end (dec_lt (length f) (field_length f))
    where
      by_end : Dec (length f < field_length f) → announced ≡ 0
      by_end (yes l) = absurd (true≢false (sym h ∙ cut_stays f l))
      by_end (no l) = omega arith

  decided_rewritten : length f ≤ field_length f → (more : List ℕ)
      → rewritten (f ++ more) ≡ cond (empty_disturbance f) [] f ++ (take announced more ++ rewritten (drop announced more))
  decided_rewritten within more = by_end (dec_lt (length f) (field_length f))
    where
      by_end : Dec (length f < field_length f)
          → rewritten (f ++ more) ≡ cond (empty_disturbance f) [] f ++ (take announced more ++ rewritten (drop announced more))
      by_end (yes l) =
          rewritten_stays f more decided_header within (decided_other l)
          ∙ ap (λ x. cond x [] f ++ (take announced more ++ rewritten (drop announced more))) (sym (cut_stays f l))
      by_end (no l) =
          let z : 0 ≡ announced = omega arith in
          rewritten-whole f more (omega arith)
          ∙ ap (λ n. cond (empty_disturbance f) [] f ++ (take n more ++ rewritten (drop n more))) z

-- ---- what is held
none_reached : (h : Held) (left : ℕ) → length h.bytes ≡ 28 → Reached (none_held h left)
unfolding undecided
none_reached h left e = record { room = e; within = omega arith; waiting = refl }

-- what is still to be written at the end of the input is what is held
pub held-last : (h : Held) → Reached h → remaining h [] ≡ held_bytes h
held-last h r =
    ap₂ (λ x y. x ++ rewritten (held_bytes h ++ y)) (take-nil {A = ℕ} h.left) (drop-nil {A = ℕ} h.left)
    ∙ ap rewritten (append-nil (held_bytes h)) ∙ rewritten-cut (held_bytes h) (open_cut (held_bytes h) r.waiting)

held_none : (h : Held) → h.left ≡ 0 → (more : List ℕ) → remaining h more ≡ rewritten (held_bytes h ++ more)
held_none h e more = ap (λ n. take n more ++ rewritten (held_bytes h ++ drop n more)) e

-- one byte more has room
module _ (h : Held) (r : Reached h) where
  pub held_count : length (held_bytes h) ≡ h.count
  held_count = length-take-le h.count h.bytes (omega (arith, r.room, r.within))

  pub held_below : h.count < 28
  held_below = omega (arith, held_count, open_short (held_bytes h) r.waiting)

  module _ (b : ℕ) where
    abbrev next : List ℕ
    next = held_bytes (with_byte h b)

    pub held_more : next ≡ held_bytes h ++ (b ∷ [])
    held_more =
        ap (λ n. take n (set h.bytes h.count b)) (add-one h.count)
        ∙ take-suc-set h.bytes h.count b (omega (arith, r.room, held_below))

    pub next-within : length next ≤ field_length next
    next-within = subst (λ (l : List ℕ). length l ≤ field_length l) (sym held_more) (open_grown (held_bytes h) b r.waiting)

    pub next_count : length next ≡ h.count + 1
    next_count = ap length held_more ∙ length-append (held_bytes h) (b ∷ []) ∙ omega (arith, held_count)

    pub next_room : length (with_byte h b).bytes ≡ 28
    next_room = length-set h.bytes h.count b ∙ r.room

    -- ---- a byte that joins those held
    module _ (z : h.left ≡ 0) where
      abbrev outcome : Bool → Bool → Handed
      outcome u e =
          cond u (no_byte (with_byte h b))
          (cond e (no_byte (none_held (with_byte h b) 0))
          (record { held = none_held (with_byte h b) (field_length next - length next); text = next }))

      joined-reached : Reached (byte_joined h b).held
      unfolding byte_joined
      joined-reached = go (undecided next) (empty_disturbance next) refl
        where
          go : (u e : Bool) → undecided next ≡ u → Reached (outcome u e).held
          go true e p = record { room = next_room; within = omega (arith, held_below); waiting = p }
          go false true p = none_reached (with_byte h b) 0 next_room
          go false false p = none_reached (with_byte h b) (field_length next - length next) next_room

      joined_remains : (more : List ℕ) → remaining h (b ∷ more) ≡ (byte_joined h b).text ++ remaining (byte_joined h b).held more
      unfolding byte_joined
      joined_remains more =
          held_none h z (b ∷ more)
          ∙ ap rewritten (sym (append_assoc (held_bytes h) (b ∷ []) more) ∙ ap (◌++ more) (sym held_more))
          ∙ go (undecided next) (empty_disturbance next) refl refl
        where
          go : (u e : Bool) → undecided next ≡ u → empty_disturbance next ≡ e
              → rewritten (next ++ more) ≡ (outcome u e).text ++ remaining (outcome u e).held more
          go true e p q = sym (held_none (with_byte h b) z more)
          go false true p q =
              decided_rewritten next p next-within more
              ∙ ap₂ (λ x n. cond x [] next ++ (take n more ++ rewritten (drop n more))) q (empty_whole next p q)
          go false false p q =
              decided_rewritten next p next-within more
              ∙ ap (λ x. cond x [] next ++ (take (announced next p) more ++ rewritten (drop (announced next p) more))) q

      -- it writes no more than was held
      joined-short : length (byte_joined h b).text + (byte_joined h b).held.count ≤ h.count + 1
      unfolding byte_joined
      joined-short = go (undecided next) (empty_disturbance next)
        where
          go : (u e : Bool) → length (outcome u e).text + (outcome u e).held.count ≤ h.count + 1
          go true e = omega arith
          go false true = omega arith
          go false false = omega (arith, next_count)

-- ---- a byte of a field that stays
copied_remains : (h : Held) (b : ℕ) (more : List ℕ) → 0 < h.left
    → remaining h (b ∷ more) ≡ (byte_copied h b).text ++ remaining (byte_copied h b).held more
copied_remains h b more = go h.left
  where
    go : (n : ℕ) → 0 < n
        → take n (b ∷ more) ++ rewritten (held_bytes h ++ drop n (b ∷ more))
        ≡ b ∷ (take (n - 1) more ++ rewritten (held_bytes h ++ drop (n - 1) more))
    go zero l = absurd (omega arith)
    go (suc n) l =
        let z : n ≡ suc n - 1 = omega arith in
        ap (λ m. b ∷ (take m more ++ rewritten (held_bytes h ++ drop m more))) z

-- ---- one byte
module _ (h : Held) (b : ℕ) where
  pub one_joins : h.left ≡ 0 → one_byte h b ≡ byte_joined h b
  unfolding one_byte
  one_joins z = ap (λ x. cond x (byte_joined h b) (byte_copied h b)) (eq-eqb h.left 0 z)

  pub one_copies : 0 < h.left → one_byte h b ≡ byte_copied h b
  unfolding one_byte
  one_copies l = ap (λ x. cond x (byte_joined h b) (byte_copied h b)) (above_zero h.left l)

  -- after it, what is known still holds; what was still to be written is its text and what now is; it gives no more than came
  pub record Kept (s : Handed) : Type 0 where
    pub reached : Reached s.held
    pub remains : (more : List ℕ) → remaining h (b ∷ more) ≡ s.text ++ remaining s.held more
    pub short : length s.text + s.held.count ≤ h.count + 1

  pub one_kept : Reached h → Kept (one_byte h b)
  one_kept r = go (dec_lt 0 h.left)
    where
      go : Dec (0 < h.left) → Kept (one_byte h b)
      go (yes l) = subst (λ (s : Handed). Kept s) (sym (one_copies l)) (record {
        reached = record { room = r.room; within = r.within; waiting = r.waiting };
        remains = λ more. copied_remains h b more l;
        short = omega arith;
      })
      go (no l) =
          let z : h.left ≡ 0 = omega arith in
          subst (λ (s : Handed). Kept s) (sym (one_joins z)) (record {
            reached = joined-reached h r b z;
            remains = joined_remains h r b z;
            short = joined-short h r b z;
          })
