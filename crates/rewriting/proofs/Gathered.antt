-- Bytes that can't decide their field: they are held and nothing is written.
use mathlib.Core.Path.{◌≡◌, refl, sym, ap, ap₂, ◌∙◌}
use mathlib.Core.Bool.{Bool, true, false, cond, ◌&&◌, ◌||◌, true≢false}
use mathlib.Core.List.{List, [], ◌∷◌, ◌++◌, append_assoc}
use Prim.Native.Nat.{ℕ, suc, ◌+◌, ◌-◌, ◌≤◌, ◌<◌}
use native.Mathlib.Numerals.{add-one}
use native.Mathlib.Decide.{dec_lt}
use native.Mathlib.Omega.{arith}
use borrow.Author.Tests.{lt-ltb, le-ltb}
use lib.Dec.{ltb}
use lib.ListN.{length, take, drop, length-append, length-set}
use Rattle.std.proofs.Common.{take-append-drop}
use lib.Seq.{length-take-le, take-suc-set, drop-set-lt}
use Rattle.model.specs.Run.{field_length}
use Rattle.model.proofs.Cutting.{header_kept}
use Rattle.model.proofs.Rewritten.{may_be_empty, may_kept}
use Rattle.rewriting.specs.declared.Held.{Held}
use Rattle.rewriting.specs.Given.{held_bytes, with_byte, with_bytes, undecided, still_open, Handed, no_byte, then, one_byte, many_bytes}
use Rattle.rewriting.specs.Reached.{Reached}
use Rattle.rewriting.proofs.Tests.{open_header}
use Rattle.rewriting.proofs.OneByte.{open_cut, held_below, held_more, next_room, one_joins}
use Rattle.rewriting.proofs.Joined.{joined_open}

-- ---- a field of which more can come without deciding it
module _ (f : List ℕ) where
  pub header_open : length f < 3 → still_open f ≡ 2 - length f
  unfolding still_open
  header_open h = ap (λ x. cond x 3 (field_length f) - length f - 1) (lt-ltb (length f) 3 h) ∙ omega arith

  pub body_open : 3 ≤ length f → still_open f ≡ field_length f - length f - 1
  unfolding still_open
  body_open h = ap (λ x. cond x 3 (field_length f) - length f - 1) (le-ltb (length f) 3 h)

  module _ (u : undecided f ≡ true) where
    -- with a whole header it may be an empty disturbance
    open_may : 3 ≤ length f → may_be_empty f ≡ true
    unfolding undecided
    open_may h = go (ltb (length f) 3) (may_be_empty f) (ltb (length f) (field_length f)) (le-ltb (length f) 3 h) u
      where
        go : (x y z : Bool) → x ≡ false → x || (y && z) ≡ true → y ≡ true
        go true y z p q = absurd (true≢false p)
        go false true z p q = refl
        go false false z p q = absurd (true≢false (sym q))

    pub open_on : (bs : List ℕ) → length bs ≤ still_open f → undecided (f ++ bs) ≡ true
    unfolding undecided
    open_on bs l = by_header (dec_lt (length f) 3)
      where
        by_header : Dec (length f < 3) → undecided (f ++ bs) ≡ true
        by_header (yes h) = sym (open_header (f ++ bs) (omega (arith, length-append f bs, header_open h, l)))
        by_header (no h) =
            let k : 3 ≤ length f = omega arith in
            let within : length (f ++ bs) < field_length (f ++ bs) =
            omega (arith, length-append f bs, header_kept f bs k, body_open k, open_cut f u, l) in
            ap₂ (λ x y. x || (y && ltb (length (f ++ bs)) (field_length (f ++ bs))))
            (le-ltb (length (f ++ bs)) 3 (omega (arith, length-append f bs))) (may_kept f bs k ∙ open_may k)
            ∙ lt-ltb (length (f ++ bs)) (field_length (f ++ bs)) within

-- ---- held with bytes more
pub with_count : (h : Held) (bs : List ℕ) → (with_bytes h bs).count ≡ h.count + length bs
unfolding with_bytes
with_count h [] = omega arith
with_count h (b ∷ bs) = with_count (with_byte h b) bs ∙ omega arith

pub with-left : (h : Held) (bs : List ℕ) → (with_bytes h bs).left ≡ h.left
unfolding with_bytes
with-left h [] = refl
with-left h (b ∷ bs) = with-left (with_byte h b) bs

-- they stand after those held
pub gathered_bytes : (h : Held) (bs : List ℕ) → h.count + length bs ≤ length h.bytes
    → record {
      bytes = take h.count h.bytes ++ (bs ++ drop (h.count + length bs) h.bytes);
      count = h.count + length bs;
      left = h.left;
    } ≡ with_bytes h bs
unfolding with_bytes
gathered_bytes h [] l =
    let e : h.count + 0 ≡ h.count = omega arith in
    ap (λ n. record { bytes = take h.count h.bytes ++ drop n h.bytes; count = n; left = h.left }) e
    ∙ ap (λ (x : List ℕ). record { bytes = x; count = h.count; left = h.left }) (take-append-drop h.count h.bytes)
gathered_bytes h (b ∷ bs) l =
    let g = with_byte h b in
    let n : h.count + suc (length bs) ≡ g.count + length bs = omega arith in
    let front : take g.count g.bytes ≡ take h.count h.bytes ++ (b ∷ []) =
    ap (λ k. take k g.bytes) (add-one h.count) ∙ take-suc-set h.bytes h.count b (omega arith) in
    let back : drop (g.count + length bs) g.bytes ≡ drop (g.count + length bs) h.bytes = drop-set-lt (g.count + length bs) h.bytes h.count b (omega arith) in
    ap₂ (λ (x : List ℕ) k. record { bytes = x; count = k; left = h.left })
    (sym (append_assoc (take h.count h.bytes) (b ∷ []) (bs ++ drop (h.count + suc (length bs)) h.bytes))
    ∙ ap₂ (λ (x y : List ℕ). x ++ (bs ++ y)) (sym front) (ap (λ k. drop k h.bytes) n ∙ sym back)) n
    ∙ gathered_bytes g bs (omega (arith, length-set h.bytes h.count b))

-- ---- what comes of bytes that can't decide their field
pub record Gathered (h : Held) (bs : List ℕ) : Type 0 where
  pub many : many_bytes h bs ≡ no_byte (with_bytes h bs)
  pub reached : Reached (with_bytes h bs)

-- where no byte of them decides it
gathered_so : (h : Held) (bs : List ℕ) → Reached h → h.left ≡ 0
    → ((n : ℕ) → n ≤ length bs → undecided (held_bytes h ++ take n bs) ≡ true) → Gathered h bs
unfolding many_bytes with_bytes
gathered_so h [] r z q = record { many = refl; reached = r }
gathered_so h (b ∷ bs) r z q =
    let g = with_byte h b in
    let more = held_more h r b in
    let u : undecided (held_bytes g) ≡ true = ap undecided more ∙ q 1 (omega arith) in
    let one : one_byte h b ≡ no_byte g = one_joins h b z ∙ joined_open h b u in
    let later = gathered_so g bs (record { room = next_room h r b; within = omega (arith, held_below h r); waiting = u }) z
    (λ n l. ap (λ f. undecided (f ++ take n bs)) more ∙ ap undecided (append_assoc (held_bytes h) (b ∷ []) (take n bs))
    ∙ q (suc n) (omega arith)) in
    record {
      many = ap (λ (s : Handed). then s (many_bytes s.held bs)) one ∙ ap (then (no_byte g)) later.many;
      reached = later.reached;
    }

pub gathered : (h : Held) (bs : List ℕ) → Reached h → h.left ≡ 0 → length bs ≤ still_open (held_bytes h) → Gathered h bs
gathered h bs r z l =
    gathered_so h bs r z (λ n k. open_on (held_bytes h) r.waiting (take n bs) (omega (arith, length-take-le n bs k)))
