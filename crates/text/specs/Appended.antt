-- A piece of text put into a buffer.
use Rattle.std.specs.Prelude.{◌≡◌, refl, List, [], ◌++◌, ℕ, ◌+◌, ◌-◌, ◌≤◌, length, take, drop}
use Rattle.std.proofs.Common.{sym, ap, ap₂, ◌∙◌, subst, append_assoc, append-nil, add_assoc, arith, length-append, take-append-drop, drop-drop}
use Rattle.std.proofs.lemmas.Slice.{take-put_mid, drop-put_mid}
use borrow.Rule.Slice.PartMut.{put_mid}

-- `piece`, of at most `most` bytes, stands in `after` from `at` up to `end`; all else is as it was in `before`
pub record Appended (most : ℕ) (before after : List ℕ) (at end : ℕ) (piece : List ℕ) : Type 0 where
  pub ends : end ≡ at + length piece
  pub short : length piece ≤ most
  pub text : take end after ≡ take at before ++ piece
  pub rest : drop end after ≡ drop end before

-- ---- what it says of the whole buffer
pub appended_is : {most : ℕ} {a b : List ℕ} {i j : ℕ} {p : List ℕ} → Appended most a b i j p → b ≡ take i a ++ p ++ drop j a
appended_is {b = b} {j = j} x = sym (take-append-drop j b) ∙ ap₂ ◌++◌ x.text x.rest

-- ---- two pieces, one after the other
drop-later : (a b : List ℕ) (j n : ℕ) → drop j b ≡ drop j a → drop (j + n) b ≡ drop (j + n) a
drop-later a b j n e = sym (drop-drop n j b) ∙ ap (drop n) e ∙ drop-drop n j a

pub both : {m n : ℕ} {a b c : List ℕ} {i j k : ℕ} {p q : List ℕ} → Appended m a b i j p → Appended n b c j k q
    → Appended (m + n) a c i k (p ++ q)
both {a = a} {b} {c} {i} {j} {k} {p} {q} x y = record {
  ends = y.ends ∙ ap (λ n. n + length q) x.ends ∙ add_assoc i (length p) (length q) ∙ ap (λ n. i + n) (sym (length-append p q));
  short = omega (arith, x.short, y.short, length-append p q);
  text = y.text ∙ ap (λ l. l ++ q) x.text ∙ append_assoc (take i a) p q;
  rest = y.rest ∙ subst (λ n. drop n b ≡ drop n a) (sym y.ends) (drop-later a b j (length q) x.rest);
}

-- nothing yet
pub none_put : (a : List ℕ) (i : ℕ) → Appended 0 a a i i []
none_put a i = record { ends = omega arith; short = omega arith; text = sym (append-nil (take i a)); rest = refl }

-- the same piece, by another name and with a larger bound
pub named : {m n : ℕ} {a b : List ℕ} {i j : ℕ} {p q : List ℕ} → m ≤ n → p ≡ q → Appended m a b i j p → Appended n a b i j q
named {m} {n} {a} {b} {i} {j} {p} l e x = subst (Appended n a b i j) e
    (record { ends = x.ends; short = omega (arith, x.short); text = x.text; rest = x.rest })

-- ---- a piece copied into a part of the buffer
pub copied : (d s t : List ℕ) (at : ℕ) → t ≡ s → at + length s ≤ length d
    → Appended (length s) d (put_mid at (at + length s - at) d t) at (at + length s) s
copied d s t at e room =
    let n : length t ≡ length s = ap length e in
    record {
      ends = refl;
      short = omega arith;
      text = take-put_mid at _ d t (at + length s) (omega arith) (omega arith) ∙ ap (take at d ++◌) e;
      rest = drop-put_mid at (at + length s - at) d t (at + length s) (omega arith) (omega arith) (omega arith);
    }
