-- Bytes one after the other.
use mathlib.Core.Path.{◌≡◌, refl, sym, ap, ◌∙◌}
use mathlib.Core.List.{List, [], ◌∷◌, ◌++◌, append_assoc}
use Prim.Native.Nat.{ℕ, ◌+◌, ◌-◌, ◌≤◌}
use native.Mathlib.Omega.{arith}
use lib.ListN.{length, length-append}
use Rattle.rewriting.specs.declared.Held.{Held}
use Rattle.rewriting.specs.Given.{Handed, then, byte_copied, one_byte, many_bytes}
use Rattle.rewriting.specs.Reached.{Reached, remaining}
use Rattle.rewriting.proofs.OneByte as OneByte
use Rattle.rewriting.proofs.OneByte.{one_copies, one_kept}

-- some, then others
pub many-then : (h : Held) (xs ys : List ℕ) → many_bytes h (xs ++ ys) ≡ then (many_bytes h xs) (many_bytes (many_bytes h xs).held ys)
unfolding many_bytes
many-then h [] ys = refl
many-then h (b ∷ xs) ys =
    let s = one_byte h b in
    let m = many_bytes s.held xs in
    ap (then s) (many-then s.held xs ys)
    ∙ ap (λ l. record { held = (many_bytes m.held ys).held; text = l })
    (sym (append_assoc s.text m.text (many_bytes m.held ys).text))

-- one
pub many-one : (h : Held) (b : ℕ) → many_bytes h (b ∷ []) ≡ then (one_byte h b) (record { held = (one_byte h b).held; text = [] })
unfolding many_bytes
many-one h b = refl

-- all of a field that stays
pub many_copied : (h : Held) (bs : List ℕ) → length bs ≤ h.left
    → many_bytes h bs ≡ record { held = record { bytes = h.bytes; count = h.count; left = h.left - length bs }; text = bs }
unfolding many_bytes
many_copied h [] l =
    let z : h.left ≡ h.left - 0 = omega arith in
    ap (λ n. record { held = record { bytes = h.bytes; count = h.count; left = n }; text = [] }) z
many_copied h (b ∷ bs) l =
    let z : h.left - 1 - length bs ≡ h.left - length (b ∷ bs) = omega arith in
    ap (λ (s : Handed). then s (many_bytes s.held bs)) (one_copies h b (omega arith))
    ∙ ap (then (byte_copied h b)) (many_copied (byte_copied h b).held bs (omega arith))
    ∙ ap (λ n. record { held = record { bytes = h.bytes; count = h.count; left = n }; text = b ∷ bs }) z

-- after them, what is known still holds; what was still to be written is their text and what now is; they give no more than came
pub record Kept (h : Held) (bs : List ℕ) (s : Handed) : Type 0 where
  pub reached : Reached s.held
  pub remains : (more : List ℕ) → remaining h (bs ++ more) ≡ s.text ++ remaining s.held more
  pub short : length s.text + s.held.count ≤ h.count + length bs

then-kept : {h : Held} {b : ℕ} {bs : List ℕ} {s t : Handed} → OneByte.Kept h b s → Kept s.held bs t → Kept h (b ∷ bs) (then s t)
then-kept {h} {b} {bs} {s} {t} k l = record {
  reached = l.reached;
  remains = λ more. k.remains (bs ++ more) ∙ ap (s.text ++◌) (l.remains more) ∙ sym (append_assoc s.text t.text _);
  short = omega (arith, k.short, l.short, length-append s.text t.text);
}

pub many-kept : (h : Held) (bs : List ℕ) → Reached h → Kept h bs (many_bytes h bs)
unfolding many_bytes
many-kept h [] r = record { reached = r; remains = λ more. refl; short = omega arith }
many-kept h (b ∷ bs) r = let k = one_kept h b r in then-kept k (many-kept (one_byte h b).held bs k.reached)
