-- A rewritten file has the fields of the file but its empty disturbances, and no empty disturbance is left; what is left of an input, by
-- its first field.
use mathlib.Core.Path.{◌≡◌, refl, sym, ap, ap₂, ◌∙◌}
use mathlib.Core.Bool.{Bool, true, false, not, cond, ◌&&◌, ◌||◌, true≢false}
use mathlib.Core.List.{List, [], ◌∷◌, ◌++◌, append_assoc, append-nil}
use Prim.Native.Nat.{ℕ, zero, suc, ◌+◌, ◌*◌, ◌-◌, ◌≤◌, ◌<◌}
use native.Mathlib.Decide.{dec_lt}
use native.Mathlib.Omega.{arith}
use borrow.Author.Tests.{lt-ltb, le-ltb, le-leb, ltb-false, eqb-true, eq-eqb, not-true}
use lib.Dec.{ltb, leb, eqb}
use lib.ListN.{length, take, drop, get_or-append, length-append, length-drop, take-append-drop, drop_of_length-le}
use lib.Seq.{length-take-le, take_all, drop-length, drop-append_seam}
use Rattle.whole.specs.Tab.{any}
use Rattle.whole.specs.Tests.{or_right}
use Rattle.model.specs.Limits.{max_dimension}
use Rattle.model.specs.Body.{dimension, given_radii}
use Rattle.model.specs.Field.{bad_dimension, all_zero}
use Rattle.model.specs.Run.{tag, body_length, body, cut, field_length, first_field, fields, fields_within}
use Rattle.model.specs.Rewrite.{empty_disturbance, others, together, rewritten}
use Rattle.model.specs.OldRun.{NoneLeft, TwiceIsOnce}
use Rattle.model.proofs.Tests.{and_true, true_and}
use Rattle.model.proofs.Cutting.{header_kept, first-kept, fields_after, split}

-- the fields of what is left of an input: none where it has no bytes
abbrev pub fields_of : List ℕ → List (List ℕ)
fields_of rest = fields_within (length rest) rest

-- ---- empty disturbances
-- the tests as facts
pub record Emptied (f : List ℕ) : Type 0 where
  pub whole : cut f ≡ false
  pub tagged : tag f ≡ 3
  pub counted : bad_dimension (dimension (body f)) ≡ false
  pub exact : length (body f) ≡ 1 + 4 * dimension (body f)
  pub zero-radii : all_zero (given_radii (body f)) ≡ true

pub emptied : (f : List ℕ) → empty_disturbance f ≡ true → Emptied f
unfolding empty_disturbance
emptied f e =
    let b = body f in
    let filled = eqb (length b) (1 + 4 * dimension b) && all_zero (given_radii b) in
    let told = not (bad_dimension (dimension b)) && filled in
    let p = and_true (not (cut f)) (eqb (tag f) 3 && told) e in
    let q = and_true (eqb (tag f) 3) told p.1 in
    let r = and_true (not (bad_dimension (dimension b))) filled q.1 in
    let s = and_true (eqb (length b) (1 + 4 * dimension b)) (all_zero (given_radii b)) r.1 in
    record {
      whole = not-true (cut f) p.0;
      tagged = eqb-true (tag f) 3 q.0;
      counted = not-true (bad_dimension (dimension b)) r.0;
      exact = eqb-true (length b) (1 + 4 * dimension b) s.0;
      zero-radii = s.1;
    }

-- a field that is cut is none
pub cut_stays : (f : List ℕ) → length f < field_length f → empty_disturbance f ≡ false
unfolding empty_disturbance cut
cut_stays f h = go (ltb (length f) 3) (ltb (length f) (field_length f)) _ (lt-ltb (length f) (field_length f) h)
  where
    go : (x y z : Bool) → y ≡ true → not (x || y) && z ≡ false
    go true y z e = refl
    go false true z e = refl
    go false false z e = absurd (true≢false (sym e))

-- nor is a field with another tag or with more bytes than n = 6 and six radii take
abbrev pub may_be_empty : List ℕ → Bool
may_be_empty f = eqb (tag f) 3 && leb (body_length f) 25

-- which is known from the header
pub may_kept : (f more : List ℕ) → 3 ≤ length f → may_be_empty (f ++ more) ≡ may_be_empty f
may_kept f more h =
    let n : body_length (f ++ more) ≡ body_length f = omega (arith, header_kept f more h) in
    ap₂ (λ t n. eqb t 3 && leb n 25) (get_or-append f more 0 0 (omega arith)) n

longest_body : (f : List ℕ) → empty_disturbance f ≡ true → may_be_empty f ≡ true
unfolding cut
longest_body f e =
    let d = emptied f e in
    let b = body f in
    let w = ltb-false (length f) (field_length f) (or_right (ltb (length f) 3) _ d.whole) in
    let n = ltb-false max_dimension (dimension b) (or_right (eqb (dimension b) 0) _ d.counted) in
    let m = length-take-le (body_length f) (drop 3 f) (omega (arith, length-drop 3 f, w)) in
    true_and (eq-eqb (tag f) 3 d.tagged) (le-leb (body_length f) 25 (omega (arith, m, d.exact, n)))

pub other_stays : (f : List ℕ) → may_be_empty f ≡ false → empty_disturbance f ≡ false
other_stays f e = go (empty_disturbance f) refl
  where
    go : (x : Bool) → empty_disturbance f ≡ x → x ≡ false
    go true p = absurd (true≢false (sym (longest_body f p) ∙ e))
    go false p = refl

-- ---- what is left, field by field
-- an input without bytes has nothing to leave
pub rewritten_is : (input : List ℕ) → rewritten input ≡ together (others (fields_of input))
unfolding rewritten fields fields_within others together empty_disturbance cut
rewritten_is [] = refl
rewritten_is (t ∷ l) = refl

pub rewritten_none : rewritten [] ≡ []
unfolding rewritten fields others together empty_disturbance cut
rewritten_none = refl

no_fields : fields_of [] ≡ []
unfolding fields_within
no_fields = refl

first_then : (rest : List ℕ) → 0 < length rest → fields_of rest ≡ first_field rest ∷ fields_after rest
first_then [] h = absurd (omega arith)
first_then (t ∷ l) h = split (length (t ∷ l)) t l (omega arith)

-- one field, then others
kept_field : (f : List ℕ) (fs : List (List ℕ)) → empty_disturbance f ≡ false → others (f ∷ fs) ≡ f ∷ others fs
unfolding others
kept_field f fs e = rw e

dropped_field : (f : List ℕ) (fs : List (List ℕ)) → empty_disturbance f ≡ true → others (f ∷ fs) ≡ others fs
unfolding others
dropped_field f fs e = rw e

one_then : (f : List ℕ) (fs : List (List ℕ)) → together (f ∷ fs) ≡ f ++ together fs
unfolding together
one_then f fs = refl

alone : (f : List ℕ) → together (f ∷ []) ≡ f
unfolding together
alone f = append-nil f

one_left : (f : List ℕ) (fs : List (List ℕ)) → together (others (f ∷ fs)) ≡ cond (empty_disturbance f) [] f ++ together (others fs)
one_left f fs = go (empty_disturbance f) refl
  where
    go : (x : Bool) → empty_disturbance f ≡ x → together (others (f ∷ fs)) ≡ cond x [] f ++ together (others fs)
    go true e = ap together (dropped_field f fs e)
    go false e = ap together (kept_field f fs e) ∙ one_then f (others fs)

-- ---- a whole field, with what follows
module _ (f more : List ℕ) (e : length f ≡ field_length f) where
  not-cut : cut f ≡ false
  unfolding cut
  not-cut = ap₂ ◌||◌ (le-ltb (length f) 3 (omega arith)) (le-ltb (length f) (field_length f) (omega arith))

  first_is : first_field (f ++ more) ≡ f
  first_is = first-kept f more not-cut ∙ take_all (field_length f) f (omega arith)

  pub whole-first : fields_of (f ++ more) ≡ f ∷ fields_of more
  whole-first =
      first_then (f ++ more) (omega (arith, length-append f more))
      ∙ ap₂ ◌∷◌ first_is (ap fields_of (ap (λ (g : List ℕ). drop (length g) (f ++ more)) first_is ∙ drop-append_seam f more))

  -- it goes or stays, and what follows is rewritten
  pub rewritten-whole : rewritten (f ++ more) ≡ cond (empty_disturbance f) [] f ++ rewritten more
  rewritten-whole =
      rewritten_is (f ++ more) ∙ ap (λ fs. together (others fs)) whole-first ∙ one_left f (fields_of more)
      ∙ ap (cond (empty_disturbance f) [] f ++◌) (sym (rewritten_is more))

-- ---- an input that ends inside its first field stays
module _ (f : List ℕ) (h : length f < field_length f) where
  last_is : first_field f ≡ f
  last_is = take_all (field_length f) f (omega arith)

  last-only : 0 < length f → fields_of f ≡ f ∷ []
  last-only some =
      first_then f some
      ∙ ap₂ ◌∷◌ last_is (ap fields_of (ap (λ (g : List ℕ). drop (length g) f) last_is ∙ drop-length f) ∙ no_fields)

  last_stays : 0 < length f → others (fields_of f) ≡ fields_of f
  unfolding others
  last_stays some = ap others (last-only some) ∙ kept_field f [] (cut_stays f h) ∙ sym (last-only some)

  pub rewritten-cut : rewritten f ≡ f
  rewritten-cut = go (dec_lt 0 (length f))
    where
      none : (l : List ℕ) → length l ≡ 0 → rewritten l ≡ l
      none [] e = rewritten_none
      none (t ∷ l) e = absurd (omega arith)

      go : Dec (0 < length f) → rewritten f ≡ f
      go (yes some) = rewritten_is f ∙ ap together (last_stays some ∙ last-only some) ∙ alone f
      go (no n) = none f (omega arith)

-- ---- a field that stays, known from its header
-- h has its header and no byte past its end: what it still announces is copied, and what follows is rewritten
module _ (h more : List ℕ) (header : 3 ≤ length h) (within : length h ≤ field_length h) (other : may_be_empty h ≡ false) where
  abbrev announced : ℕ
  announced = field_length h - length h

  kept-length : (l : List ℕ) → field_length (h ++ l) ≡ field_length h
  kept-length l = header_kept h l header

  pub rewritten_stays : rewritten (h ++ more) ≡ h ++ (take announced more ++ rewritten (drop announced more))
  rewritten_stays = go (dec_lt (length more) announced)
    where
      go : Dec (length more < announced) → rewritten (h ++ more) ≡ h ++ (take announced more ++ rewritten (drop announced more))
      go (yes l) =
          rewritten-cut (h ++ more) (omega (arith, length-append h more, kept-length more))
          ∙ ap (h ++◌) (sym (ap₂ ◌++◌ (take_all announced more (omega arith))
          (ap rewritten (drop_of_length-le more {i = announced} (omega arith)) ∙ rewritten_none) ∙ append-nil more))
      go (no l) =
          let body = take announced more in
          let rest = drop announced more in
          let n = length-take-le announced more (omega arith) in
          ap (λ m. rewritten (h ++ m)) (sym (take-append-drop announced more))
          ∙ ap rewritten (sym (append_assoc h body rest))
          ∙ rewritten-whole (h ++ body) rest (omega (arith, length-append h body, n, kept-length body))
          ∙ ap (λ x. cond x [] (h ++ body) ++ rewritten rest) (other_stays (h ++ body) (may_kept h body header ∙ other))
          ∙ append_assoc h body (rewritten rest)

-- ---- the fields of a rewritten file
-- where the first field is whole, by what follows it
module _ (input : List ℕ) (c : field_length input ≤ length input) where
  abbrev first : List ℕ
  first = first_field input

  abbrev after : List ℕ
  after = drop (field_length input) input

  parts : first ++ after ≡ input
  parts = take-append-drop (field_length input) input

  -- its header is the input's
  first-whole : length first ≡ field_length first
  first-whole =
      let n = length-take-le (field_length input) input c in
      n ∙ ap field_length (sym parts) ∙ header_kept first after (omega arith)

  whole-kept : fields_of (rewritten after) ≡ others (fields_of after) → fields_of (rewritten input) ≡ others (fields_of input)
  whole-kept ih =
      ap (λ l. fields_of (rewritten l)) (sym parts) ∙ by_kind (empty_disturbance first) refl
      ∙ sym (ap others (whole-first first after first-whole)) ∙ ap (λ l. others (fields_of l)) parts
    where
      by_kind : (x : Bool) → empty_disturbance first ≡ x → fields_of (rewritten (first ++ after)) ≡ others (first ∷ fields_of after)
      by_kind true e =
          ap fields_of (rewritten-whole first after first-whole ∙ ap (λ b. cond b [] first ++ rewritten after) e)
          ∙ ih ∙ sym (dropped_field first (fields_of after) e)
      by_kind false e =
          ap fields_of (rewritten-whole first after first-whole ∙ ap (λ b. cond b [] first ++ rewritten after) e)
          ∙ whole-first first (rewritten after) first-whole ∙ ap (first ∷◌) ih ∙ sym (kept_field first (fields_of after) e)

fields-kept : (n : ℕ) (input : List ℕ) → length input ≤ n → fields_of (rewritten input) ≡ others (fields_of input)
unfolding others fields_within
fields-kept zero [] h = ap fields_of rewritten_none
fields-kept zero (t ∷ l) h = absurd (omega arith)
fields-kept (suc n) [] h = ap fields_of rewritten_none
fields-kept (suc n) (t ∷ l) h =
    let input = t ∷ l in
    let next = drop (field_length input) input in
    by_end (dec_lt (length input) (field_length input)) (fields-kept n next (omega (arith, length-drop (field_length input) input)))
  where
    by_end : (let input = t ∷ l in let next = drop (field_length input) input in
        Dec (length input < field_length input)
        → fields_of (rewritten next) ≡ others (fields_of next) → fields_of (rewritten input) ≡ others (fields_of input))
    by_end (yes c) ih = ap fields_of (rewritten-cut (t ∷ l) c) ∙ sym (last_stays (t ∷ l) c (omega arith))
    by_end (no c) ih = whole-kept (t ∷ l) (omega arith) ih

-- A rewritten file has the fields of the file but its empty disturbances.
pub fields-rewritten : (input : List ℕ) → fields_within (length (rewritten input)) (rewritten input)
    ≡ others (fields_within (length input) input)
fields-rewritten input = fields-kept (length input) input (omega arith)

-- none of them is empty
others-not : (fs : List (List ℕ)) → any empty_disturbance (others fs) ≡ false
unfolding others any
others-not [] = refl
others-not (f ∷ fs) = go (empty_disturbance f) refl (others-not fs)
  where
    go : (x : Bool) → empty_disturbance f ≡ x → any empty_disturbance (others fs) ≡ false
        → any empty_disturbance (cond x (others fs) (f ∷ others fs)) ≡ false
    go true e ih = ih
    go false e ih = ap₂ ◌||◌ e ih

any-fields : (input : List ℕ) → any empty_disturbance (fields input) ≡ any empty_disturbance (fields_of input)
unfolding fields fields_within any empty_disturbance cut
any-fields [] = refl
any-fields (t ∷ l) = refl

-- No empty disturbance is left.
pub none_left : NoneLeft
none_left input =
    any-fields (rewritten input) ∙ ap (any empty_disturbance) (fields-rewritten input) ∙ others-not (fields_of input)

-- the others of the others are the same
others-twice : (fs : List (List ℕ)) → others (others fs) ≡ others fs
unfolding others
others-twice [] = refl
others-twice (f ∷ fs) = go (empty_disturbance f) refl (others-twice fs)
  where
    go : (x : Bool) → empty_disturbance f ≡ x → others (others fs) ≡ others fs
        → others (cond x (others fs) (f ∷ others fs)) ≡ cond x (others fs) (f ∷ others fs)
    go true e ih = ih
    go false e ih = kept_field f (others fs) e ∙ ap (f ∷◌) ih

-- What is rewritten once more stays as it is.
pub twice_is_once : TwiceIsOnce
twice_is_once input =
    rewritten_is (rewritten input)
    ∙ ap (λ fs. together (others fs)) (fields-rewritten input)
    ∙ ap together (others-twice (fields_of input))
    ∙ sym (rewritten_is input)
