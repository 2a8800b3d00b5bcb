-- Steps whose remainders gain something: where nothing is gained they are the step, so that a ranged step with half-widths of 0 is, and in
-- a run a field of tag 9 with such half-widths is refused, leaves and answers as the field of tag 2 without them.
use mathlib.Core.Path.{◌≡◌, refl, sym, ◌∙◌, ap, ap₂, subst}
use mathlib.Core.List.{List, [], ◌∷◌, ◌++◌}
use mathlib.Core.Bool.{Bool, true, false, not, cond, ◌||◌}
use mathlib.Core.Option.{Option, none, some}
use Prim.Native.Nat.{ℕ, zero, suc, ◌+◌, ◌*◌, ◌<◌}
use native.Mathlib.Nat.{add-zero}
use native.Mathlib.Decide.{dec_lt}
use native.Mathlib.Omega.{arith}
use borrow.Author.Tests.{le-ltb, eqb-true, eqb-false, eq-eqb, ne_eqb, not-false}
use lib.Dec.{ltb, eqb}
use lib.ListN.{length, drop, get_or, length-append, get_or-eq_default}
use lib.IntN.{ℤ, pos, nat_abs}
use Rattle.whole.specs.Tab.{any, tab_cong, length-tab}
use Rattle.rational.specs.Sum as Sum
use Rattle.rational.specs.Sum.{All, more}
use Rattle.rational.proofs.Sum.{All-imp, All-map}
use Rattle.model.specs.Set.{Zonotope, at, span}
use Rattle.model.specs.Valid.{is_too_wide}
use Rattle.model.specs.Limits.{standard_weights, max_entry, max_constant, last_field}
use Rattle.model.specs.Step as Step
use Rattle.model.specs.Step.{Step, RawImage, remainder, raw, settled}
use Rattle.model.specs.Operations.{box}
use Rattle.model.specs.Ranged as Ranged
use Rattle.model.specs.Ranged.{Widths, gain, gaining_raw, gaining_step, ranged_raw}
use Rattle.model.specs.Bytes.{byte}
use Rattle.model.specs.Body.{step_rows, step_columns, step_length, given_step, ranged_length, linear_width_words, quadratic_width_words}
use Rattle.model.specs.Body.{given_widths}
use Rattle.model.specs.Field.{step, ranged_step, inside, refused, skipped, bad_dimension, beyond, negative, differs, bad_step_range}
use Rattle.model.specs.Field.{beyond_with, bad_width_range, negative_width, folds_of, Meaning, meaning}
use Rattle.model.specs.Run.{State, current, tag, body, kind_of, meant, Cause, ◌if◌, first_of, misplaced, of_body, causes, refusal}
use Rattle.model.specs.Run.{accepted_by, refused_at, after, outcome}
use Rattle.model.specs.Precision.{NoWidths, ZeroWidths, zero_widths, WithZeroWidths, ZeroWidthsField}
use Rattle.model.proofs.Close.{upto_zero}
use Rattle.model.proofs.Tests.{or_false, false_or, any_false, false-any, all-tab, no_cause}
use Rattle.model.proofs.ZerosAfter.{words_like, step_like, zeros-after, words_past}

-- the image with other remainders
abbrev with_remainders : Step → Zonotope → List ℕ → RawImage
with_remainders p s l = record {
  dimension = (raw p s).dimension;
  identifiers = (raw p s).identifiers;
  centre = (raw p s).centre;
  terms = (raw p s).terms;
  generators = (raw p s).generators;
  remainders = l;
}

-- only what the step's coordinates gain matters
pub gaining_cong : (weights : List ℕ) (p : Step) (s : Zonotope) {f g : ℕ → ℕ} → ((i : ℕ) → i < p.rows → f i ≡ g i)
    → gaining_step weights f p s ≡ gaining_step weights g p s
unfolding gaining_step
gaining_cong weights p s {f} {g} h = ap (λ (r : List ℕ). settled weights (with_remainders p s r))
    (tab_cong p.rows _ _ (λ i l. ap (remainder p s i +◌) (h i l)))

-- ---- nothing is gained
pub nothing-gained-raw : (p : Step) (s : Zonotope) {f : ℕ → ℕ} → ((i : ℕ) → i < p.rows → f i ≡ 0) → gaining_raw f p s ≡ raw p s
unfolding raw
nothing-gained-raw p s h = ap (with_remainders p s)
    (tab_cong p.rows _ (remainder p s) (λ i l. ap (remainder p s i +◌) (h i l) ∙ add-zero (remainder p s i)))

pub nothing-gained : (weights : List ℕ) (p : Step) (s : Zonotope) {f : ℕ → ℕ} → ((i : ℕ) → i < p.rows → f i ≡ 0)
    → gaining_step weights f p s ≡ Step.step weights p s
unfolding gaining_step Step.step
nothing-gained weights p s h = ap (settled weights) (nothing-gained-raw p s h)

-- ---- half-widths of 0
zero-at : {ws : List ℕ} → All (λ w. w ≡ 0) ws → (k : ℕ) → get_or ws k 0 ≡ 0
zero-at Sum.none k = refl
zero-at (more e h) zero = e
zero-at (more e h) (suc k) = zero-at h k

gain-zero : (n : ℕ) (d : Widths) (s : Zonotope) (i : ℕ) → NoWidths d → gain n d s i ≡ 0
unfolding gain
gain-zero n d s i h =
    ap₂ ◌+◌ (upto_zero _ n (λ j. linear (span s j) (zero-at h.linear (i * n + j))))
    (upto_zero _ n (λ j. upto_zero _ n (λ l. quadratic (span s j * span s l) (zero-at h.quadratic ((i * n + j) * n + l)))))
  where
    linear : {w : ℕ} (m : ℕ) → w ≡ 0 → 4096 * (w * m) ≡ 0
    linear m e = rw e (omega arith)

    quadratic : {w : ℕ} (m : ℕ) → w ≡ 0 → w * m ≡ 0
    quadratic m e = rw e (omega arith)

all-at : {A : Type 0} {P : A → Type 0} {l : List A} (d : A) → All P l → (i : ℕ) → i < length l → P (get_or l i d)
all-at d Sum.none i h = absurd (omega arith)
all-at d (more p ps) zero h = p
all-at d (more p ps) (suc i) h = all-at d ps i (omega arith)

-- an entry that is in range is so with its half-width
entries_stay : (entries : List ℤ) (widths : List ℕ) → All (λ w. w ≡ 0) widths → any (beyond max_entry) entries ≡ false
    → beyond_with entries widths ≡ false
unfolding beyond_with
entries_stay entries widths z e = false-any _ (all-tab (length entries) (λ k. k) (λ k l.
    ap (λ n. ltb max_entry n) (ap (nat_abs (at entries k) +◌) (zero-at z k) ∙ add-zero (nat_abs (at entries k)))
    ∙ all-at (pos 0) (any_false (beyond max_entry) entries e) k l))

module _ (p : Step) (d : Widths) (h : NoWidths d) where
  raw_stays : (s : Zonotope) → ranged_raw p d s ≡ raw p s
  raw_stays s = nothing-gained-raw p s (λ i _. gain-zero p.columns d s i h)

  range_stays : bad_step_range p || (false || bad_width_range p d) ≡ bad_step_range p
  range_stays = go (bad_step_range p) refl
    where
      go : (x : Bool) → bad_step_range p ≡ x → x || (false || bad_width_range p d) ≡ x
      go true e = refl
      go false e =
          let q = or_false (any (beyond max_constant) p.constant || any (beyond max_entry) p.linear) _ e in
          let l = or_false (any (beyond max_constant) p.constant) _ q.0 in
          false_or (entries_stay p.linear d.linear h.linear l.1)
          (entries_stay p.quadratic d.quadratic h.quadratic q.1)

-- A ranged step with half-widths of 0 is the step.
pub zero-widths : ZeroWidths
unfolding Ranged.ranged_step gaining_step Step.step
zero-widths weights p d s h = ap (settled weights) (raw_stays p d h s)

-- a meaning with other causes
abbrev with_causes : (ℕ → List Cause) → Meaning → Meaning
with_causes causes m = record { causes = causes; result = m.result; folds = m.folds; next = m.next; outcome = m.outcome }

-- ---- the body of a step, and half-widths of 0
abbrev ranged : List ℕ → List ℕ
ranged b = b ++ zero_widths b

abbrev width_bytes : List ℕ → ℕ
width_bytes b = 4 * (step_rows b * step_columns b) + 4 * (step_rows b * step_columns b * step_columns b)

module _ (b : List ℕ) where
  alike : (i : ℕ) → byte (ranged b) i ≡ byte b i
  alike = zeros-after b (width_bytes b)

  long : length (ranged b) ≡ length b + width_bytes b
  long = length-append b (zero_widths b) ∙ ap (length b +◌) (length-tab (width_bytes b) (λ i. 0))

  step-long : step_length (ranged b) ≡ step_length b
  step-long = ap₂ (λ m n. 2 + 4 * m + 4 * (m * n) + 4 * (m * n * n)) (alike 0) (alike 1)

  ranged-long : ranged_length (ranged b) ≡ step_length b + width_bytes b
  ranged-long =
      ap₂ (λ m n. 2 + 4 * m + 4 * (m * n) + 4 * (m * n * n) + 4 * (m * n) + 4 * (m * n * n)) (alike 0) (alike 1) ∙ omega arith

  -- no byte is added where the counts are not there
  count_bytes : ltb (length (ranged b)) 2 ≡ ltb (length b) 2
  count_bytes = go (dec_lt (length b) 2)
    where
      go : Dec (length b < 2) → ltb (length (ranged b)) 2 ≡ ltb (length b) 2
      go (yes l) =
          let n : step_columns b ≡ 0 = get_or-eq_default b 0 {n = 1} (omega arith) in
          let z : width_bytes b ≡ 0 = ap (λ n. 4 * (step_rows b * n) + 4 * (step_rows b * n * n)) n ∙ omega arith in
          let e : length (ranged b) ≡ length b = omega (arith, long, z) in
          ap (λ n. ltb n 2) e
      go (no l) = le-ltb (length (ranged b)) 2 (omega (arith, long)) ∙ sym (le-ltb (length b) 2 (omega arith))

  same-counts : bad_dimension (step_rows (ranged b)) || bad_dimension (step_columns (ranged b))
      ≡ bad_dimension (step_rows b) || bad_dimension (step_columns b)
  same-counts = ap₂ (λ m n. bad_dimension m || bad_dimension n) (alike 0) (alike 1)

  -- where the step's length is right, the meaning is the step's, and its causes hold where the step's do
  module _ (next : ℕ) (s : Zonotope) (e : length b ≡ step_length b) where
    linear-zero : All (λ z. z ≡ pos 0) (linear_width_words (ranged b))
    linear-zero = subst (All (λ z. z ≡ pos 0)) (sym (words_like (ranged b) b alike _ _)) (words_past b _ _ (omega (arith, step-long)))

    quadratic-zero : All (λ z. z ≡ pos 0) (quadratic_width_words (ranged b))
    quadratic-zero = subst (All (λ z. z ≡ pos 0)) (sym (words_like (ranged b) b alike _ _)) (words_past b _ _ (omega (arith, step-long)))

    no_widths : NoWidths (given_widths (ranged b))
    unfolding given_widths
    no_widths = record {
      linear = All-map nat_abs (All-imp (λ z e. ap nat_abs e) linear-zero);
      quadratic = All-map nat_abs (All-imp (λ z e. ap nat_abs e) quadratic-zero);
    }

    not_negative : negative_width (ranged b) ≡ false
    not_negative = false_or (false-any negative (All-imp (λ z e. ap negative e) linear-zero))
        (false-any negative (All-imp (λ z e. ap negative e) quadratic-zero))

    same_step : given_step (ranged b) ≡ given_step b
    same_step = step_like (ranged b) b alike

    same-raw : ranged_raw (given_step (ranged b)) (given_widths (ranged b)) s ≡ raw (given_step b) s
    same-raw = raw_stays (given_step (ranged b)) (given_widths (ranged b)) no_widths s ∙ ap (λ p. raw p s) same_step

    zero-widths-meaning : meaning ranged_step (ranged b) next s
        ≡ with_causes (meaning ranged_step (ranged b) next s).causes (meaning step b next s)
    unfolding meaning Ranged.ranged_step gaining_step Step.step
    zero-widths-meaning = λ i. record {
      causes = (meaning ranged_step (ranged b) next s).causes;
      result = settled standard_weights (same-raw i);
      folds = folds_of (Step.rounded (same-raw i));
      next = next;
      outcome = inside (box (settled standard_weights (same-raw i)));
    }

    same-causes : of_body (meaning ranged_step (ranged b) next s) (length (ranged b)) ≡ of_body (meaning step b next s) (length b)
    unfolding meaning Ranged.ranged_step gaining_step Step.step
    same-causes = λ i.
        (3 if count_bytes i)
        ∷ (4 if same-counts i)
        ∷ (3 if not (exact i))
        ∷ (5 if ap (λ n. differs n s.dimension) (alike 1) i)
        ∷ (6 if range i)
        ∷ (10 if is_too_wide (settled standard_weights (same-raw i)))
        ∷ []
      where
        exact : eqb (length (ranged b)) (ranged_length (ranged b)) ≡ eqb (length b) (step_length b)
        exact = eq-eqb (length (ranged b)) (ranged_length (ranged b)) (omega (arith, long, ranged-long)) ∙ sym (eq-eqb _ _ e)

        range : bad_step_range (given_step (ranged b)) || (negative_width (ranged b)
            || bad_width_range (given_step (ranged b)) (given_widths (ranged b))) ≡ bad_step_range (given_step b)
        range =
            ap (λ x. bad_step_range (given_step (ranged b)) || (x || bad_width_range (given_step (ranged b)) (given_widths (ranged b))))
            not_negative ∙ range_stays (given_step (ranged b)) (given_widths (ranged b)) no_widths ∙ ap bad_step_range same_step

-- the first cause of a body whose length is wrong
wrong_length : (short counts exact : Bool) (rest : List Cause) → exact ≡ false
    → first_of ((3 if short) ∷ (4 if counts) ∷ (3 if not exact) ∷ rest) ≡ cond short (some 3) (cond counts (some 4) (some 3))
unfolding first_of
wrong_length short counts exact rest e = rw e

-- both bodies are refused for the same cause, or neither is
same-cause : (b : List ℕ) (next : ℕ) (s : Zonotope)
    → first_of (of_body (meaning ranged_step (ranged b) next s) (length (ranged b))) ≡ first_of (of_body (meaning step b next s) (length b))
unfolding meaning
same-cause b next s = go (eqb (length b) (step_length b)) refl
  where
    go : (x : Bool) → eqb (length b) (step_length b) ≡ x
        → first_of (of_body (meaning ranged_step (ranged b) next s) (length (ranged b))) ≡ first_of (of_body (meaning step b next s) (length b))
    go true p = ap first_of (same-causes b next s (eqb-true (length b) (step_length b) p))
    go false p =
        let n = eqb-false (length b) (step_length b) p in
        wrong_length (ltb (length (ranged b)) 2) _ (eqb (length (ranged b)) (ranged_length (ranged b)))
        (drop 3 (of_body (meaning ranged_step (ranged b) next s) (length (ranged b))))
        (ne_eqb (length (ranged b)) (ranged_length (ranged b)) (λ q. n (omega (arith, long b, ranged-long b))))
        ∙ ap₂ (λ x w. cond x (some 3) (cond w (some 4) (some 3))) (count_bytes b) (same-counts b)
        ∙ sym (wrong_length (ltb (length b) 2) _ (eqb (length b) (step_length b)) (drop 3 (of_body (meaning step b next s) (length b))) p)

-- ---- the fields
-- both are out of place or neither is
same_place : (n : ℕ) (f g : List ℕ) → tag f ≡ 9 → tag g ≡ 2 → misplaced n f ≡ misplaced n g
unfolding misplaced
same_place n [] g p q = absurd (omega arith)
same_place n (t ∷ f) [] p q = absurd (omega arith)
same_place zero (t ∷ f) (u ∷ g) p q = ap (λ t. misplaced 0 (t ∷ [])) p ∙ sym (ap (λ t. misplaced 0 (t ∷ [])) q)
same_place (suc n) (t ∷ f) (u ∷ g) p q = ap (λ t. misplaced (suc n) (t ∷ [])) p ∙ sym (ap (λ t. misplaced (suc n) (t ∷ [])) q)

module _ (st : State) (f g : List ℕ) (h : WithZeroWidths f g) where
  f_means : meant st f ≡ meaning ranged_step (ranged (body g)) st.next (current st)
  unfolding kind_of
  f_means = ap₂ (λ k b. meaning k b st.next (current st)) (ap kind_of h.tags.0) h.bodies

  g_means : meant st g ≡ meaning step (body g) st.next (current st)
  unfolding kind_of
  g_means = ap (λ k. meaning k (body g) st.next (current st)) (ap kind_of h.tags.1)

  same_first : first_of (of_body (meant st f) (length (body f))) ≡ first_of (of_body (meant st g) (length (body g)))
  same_first =
      ap₂ (λ m b. first_of (of_body m (length b))) f_means h.bodies
      ∙ same-cause (body g) st.next (current st)
      ∙ sym (ap (λ m. first_of (of_body m (length (body g)))) g_means)

  same_refusals : refusal st f ≡ refusal st g
  unfolding causes first_of
  same_refusals = λ i. cond (ltb last_field st.count) (some 12) (cond (same_place st.count f g h.tags.0 h.tags.1 i) (some 2)
      (cond ((h.whole.0 ∙ sym h.whole.1) i) (some 1) (same_first i)))

  -- where neither is refused, the length is right, and what doesn't look at the causes is the same
  module _ {A : Type 0} (y : Meaning → A) (any-causes : (m : Meaning) (causes : ℕ → List Cause) → y (with_causes causes m) ≡ y m) where
    same-meant : refusal st g ≡ none → y (meant st f) ≡ y (meant st g)
    unfolding causes meaning
    same-meant e = by_kind (of-body (no_cause (causes st g) e))
      where
        Passes : Meaning → Type 0
        Passes m = All (λ c. c.holds ≡ false) (of_body m (length (body g)))

        of-body : All (λ c. c.holds ≡ false) (causes st g) → Passes (meaning step (body g) st.next (current st))
        of-body (more late (more place (more end rest))) = subst Passes g_means rest

        by_kind : Passes (meaning step (body g) st.next (current st)) → y (meant st f) ≡ y (meant st g)
        by_kind (more short (more counts (more exact rest))) =
            let l = eqb-true _ _ (not-false _ exact) in
            ap y f_means ∙ ap y (zero-widths-meaning (body g) st.next (current st) l) ∙ any-causes _ _ ∙ sym (ap y g_means)

    same_choice : (x : A) (z : ℕ → A) → cond st.over x (elim (refusal st f) [ none ↦ y (meant st f) | some n ↦ z n ])
        ≡ cond st.over x (elim (refusal st g) [ none ↦ y (meant st g) | some n ↦ z n ])
    same_choice x z =
        ap (λ o. cond st.over x (elim o [ none ↦ y (meant st f) | some n ↦ z n ])) same_refusals ∙ go (refusal st g) refl
      where
        go : (o : Option ℕ) → refusal st g ≡ o → cond st.over x (elim o [ none ↦ y (meant st f) | some n ↦ z n ])
            ≡ cond st.over x (elim o [ none ↦ y (meant st g) | some n ↦ z n ])
        go none e = ap (cond st.over x) (same-meant e)
        go (some n) e = refl

-- A field with half-widths of 0 is refused as the step without them, leaves the same and gets the same answer.
pub zero-widths-field : ZeroWidthsField
unfolding after outcome
zero-widths-field st f g h = record {
  same-refusal = same_refusals st f g h;
  same_state = same_choice st f g h (accepted_by st) (λ m causes. refl) st (λ n. refused_at st);
  same_outcome = λ place. same_choice st f g h (λ m. m.outcome) (λ m causes. refl) skipped (λ n. refused n place);
}
