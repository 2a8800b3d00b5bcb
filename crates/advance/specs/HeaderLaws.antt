-- A header and its causes, by the input's own bytes.
use Rattle.std.specs.Prelude.{◌≡◌, refl, List, [], ◌∷◌, Bool, true, false, cond, not, ◌||◌, ℕ, zero, suc, ◌+◌, ◌<◌, ◌≤◌, ltb, eqb, length}
use Rattle.std.proofs.Common.{sym, ap, ◌∙◌, true≢false, arith, lt-ltb, le-ltb, ltb-true, ltb-false, ne_eqb, eqb-true}
use mathlib.Core.Bool.{beq}
use Rattle.std.proofs.Math.Decide.{dec_lt}
use Rattle.std.proofs.Math.Bool.{or-true}
use Rattle.std.proofs.lemmas.Bool.{eqb-false}
use Rattle.std.proofs.Math.Option.{Option, none, some}
use Rattle.std.proofs.lemmas.Bool.{not-true}
use Rattle.model.specs.Limits.{last_field, last_tag}
use Rattle.model.specs.Bytes.{byte}
use Rattle.model.specs.Run.{first_of, first_field, field_length, body_length, misplaced, cut}
use Rattle.fields.specs.declared.Kind.{Kind}
use Rattle.fields.specs.Kinds.{tag_of, tagged}
use Rattle.states.specs.FirstField.{first-whole, first-last, first-cut, first-misplaced}
use Rattle.advance.specs.Header.{HeaderOf, of_header, misplaced_tag}

-- ---- the header
-- of a field that is cut off, and of one that is there
module _ (rest : List ℕ) where
  pub header_cut : length rest < field_length rest → length rest < 65538
      → HeaderOf rest (record { bytes = length rest; whole = false })
  header_cut h few = record {
    bytes = rw (first-last rest (omega arith));
    whole = rw (first-cut rest ∙ lt-ltb _ _ h);
    few = omega arith;
    left = λ e. few;
  }

  pub header_whole : {n : ℕ} → n ≡ body_length rest → 3 + n ≤ length rest → n < 65536
      → HeaderOf rest (record { bytes = 3 + n; whole = true })
  header_whole e h few = record {
    bytes = rw (first-whole rest (omega (arith, e))) (omega (arith, e));
    whole = rw (first-cut rest ∙ le-ltb (length rest) (field_length rest) (omega (arith, e)));
    few = omega arith;
    left = λ z. absurd (true≢false z);
  }

  -- what its test tells
  pub is_cut : {w : Bool} → w ≡ not (cut (first_field rest)) → w ≡ false → length rest < field_length rest
  is_cut e f = ltb-true _ _ (sym (first-cut rest) ∙ not-true-false (cut (first_field rest)) (sym e ∙ f))
    where
      not-true-false : (b : Bool) → not b ≡ false → b ≡ true
      not-true-false true q = refl
      not-true-false false q = absurd (true≢false q)

  pub is_there : {w : Bool} → w ≡ not (cut (first_field rest)) → w ≡ true → field_length rest ≤ length rest
  is_there e f = ltb-false _ _ (sym (first-cut rest) ∙ not-true (cut (first_field rest)) (sym e ∙ f))

-- ---- the tag is the input's first byte
pub no_tag : (count : ℕ) (rest : List ℕ) → length rest ≡ 0 → misplaced count rest ≡ false
unfolding misplaced
no_tag count [] e = refl
no_tag count (t ∷ rest) e = absurd (omega (arith, e))

pub with_tag : (count : ℕ) (rest : List ℕ) → 0 < length rest → misplaced count rest ≡ misplaced_tag count (byte rest 0)
unfolding misplaced
with_tag count [] h = absurd (omega arith)
with_tag zero (t ∷ rest) h = refl
with_tag (suc n) (t ∷ rest) h = refl

-- ---- a kind by its tag
-- a tag of no kind stands nowhere
pub no_kind : (count t : ℕ) → (1 ≤ t → last_tag < t) → misplaced_tag count t ≡ true
no_kind zero t h = rw (ne_eqb t 1 (λ e. let far = h (omega (arith, e)) in omega (arith, far, e))) refl
no_kind (suc n) t h = go (dec_lt t 2)
  where
    go : Dec (t < 2) → (ltb t 2 || ltb last_tag t) ≡ true
    go (yes l) = rw (lt-ltb t 2 l) refl
    go (no l) = let far = h (omega (arith, l)) in rw (lt-ltb last_tag t far) (or-true (ltb t 2))

not_zero : (n : ℕ) → eqb (suc n) 0 ≡ false
not_zero n = ne_eqb (suc n) 0 (λ e. omega (arith, e))

same : (x y : Bool) → not (beq x y) ≡ false → x ≡ y
same true true e = refl
same true false e = absurd (true≢false e)
same false true e = absurd (true≢false e)
same false false e = refl

-- the kind of a first field stands first, and no other kind does
module _ (k : Kind) (count : ℕ) {t : ℕ} (tagged_so : tag_of k ≡ t) {first : Bool} (told_first : first ≡ eqb (tag_of k) 1) where
  pub here : not (beq first (eqb count 0)) ≡ false → misplaced_tag count t ≡ false
  here e = ap (misplaced_tag count) (sym tagged_so) ∙ go count (sym told_first ∙ same first (eqb count 0) e)
    where
      go : (n : ℕ) → eqb (tag_of k) 1 ≡ eqb n 0 → misplaced_tag n (tag_of k) ≡ false
      go zero e = rw e refl
      go (suc n) e =
          let l = (tagged k).0 in
          let other = eqb-false (tag_of k) 1 (e ∙ not_zero n) in
          let low : 2 ≤ tag_of k = omega (arith, l, other) in
          rw (le-ltb (tag_of k) 2 low, le-ltb last_tag (tag_of k) (tagged k).1) refl

  pub elsewhere : not (beq first (eqb count 0)) ≡ true → misplaced_tag count t ≡ true
  elsewhere e =
      ap (misplaced_tag count) (sym tagged_so)
      ∙ go count (eqb (tag_of k) 1) refl (sym (ap (λ b. not (beq b (eqb count 0))) told_first) ∙ e)
    where
      go : (n : ℕ) (b : Bool) → eqb (tag_of k) 1 ≡ b → not (beq b (eqb n 0)) ≡ true → misplaced_tag n (tag_of k) ≡ true
      go zero true q e = absurd (true≢false (sym e))
      go zero false q e = rw q refl
      go (suc n) true q e = rw (eqb-true (tag_of k) 1 q) refl
      go (suc n) false q e = absurd (true≢false (sym e ∙ ap (λ b. not (beq false b)) (not_zero n)))

-- ---- what is answered
module _ (count : ℕ) (rest : List ℕ) where
  -- the number that refuses the header, where the three tests answer so
  abbrev refusal : Option ℕ
  refusal = first_of (of_header count (first_field rest))

  abbrev told : Bool → Bool → Bool → Option ℕ
  told late wrong short = cond late (some 12) (cond wrong (some 2) (cond short (some 1) none))

  by_tests : {late wrong short : Bool} → ltb last_field count ≡ late → misplaced count rest ≡ wrong
      → ltb (length rest) (field_length rest) ≡ short → refusal ≡ told late wrong short
  unfolding first_of
  by_tests e f g = rw (e, first-misplaced count rest ∙ f, first-cut rest ∙ g)

  pub too_late : last_field < count → refusal ≡ some 12
  unfolding first_of
  too_late h = rw (lt-ltb last_field count h)

  pub wrong_tag : count ≤ last_field → misplaced count rest ≡ true → refusal ≡ some 2
  unfolding first_of
  wrong_tag h e = rw (le-ltb last_field count h, first-misplaced count rest ∙ e)

  pub too_short : count ≤ last_field → misplaced count rest ≡ false → length rest < field_length rest → refusal ≡ some 1
  too_short h e l = by_tests (le-ltb last_field count h) e (lt-ltb _ _ l)

  pub nothing_wrong : count ≤ last_field → misplaced count rest ≡ false → field_length rest ≤ length rest → refusal ≡ none
  nothing_wrong h e l = by_tests (le-ltb last_field count h) e (le-ltb _ _ l)
