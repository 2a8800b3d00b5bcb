-- A field by its tag, and the first field of what is left of the input.
use Rattle.std.specs.Prelude.{◌≡◌, List, Bool, cond, ◌&&◌, ℕ, zero, suc, ◌+◌, ◌-◌, ◌<◌, ◌≤◌, ltb, eqb, length, take, drop, Result, IfOk}
use Rattle.std.proofs.Math.Path.{refl, ap}
use Rattle.std.proofs.Common.{sym, ◌∙◌, subst, arith, ltb-false, eqb-true}
use Rattle.std.proofs.Math.Option.{Option, none, some}
use Rattle.std.proofs.Math.Bool.{true, false}
use Rattle.std.proofs.lemmas.Bool.{not-false, eqb-false}
use Rattle.model.specs.Limits.{last_field, last_tag}
use Rattle.model.specs.Bytes.{byte}
use Rattle.model.specs.Field.{refused, skipped, describe}
use Rattle.model.specs.Run.{tag, body, kind_of, refusal, meant, accepted_by, refused_at, after, outcome, causes, of_body, first_of}
use Rattle.model.specs.Run.{first_field, field_length, body_length, misplaced, cut}
use Rattle.zonotope.specs.declared.Cause.{Cause}
use Rattle.zonotope.specs.Answer.{cause_of, or_else, first_append}
use Rattle.model.proofs.ByKind.{starts}
use Rattle.zonotope.specs.declared.PolyZonotope.{PolyZonotope}
use Rattle.answers.specs.Accepted.{AcceptedRecord}
use Rattle.summing.specs.Summable.{Next}
use Rattle.stepping.specs.Work.{worked}
use Rattle.fields.specs.declared.Kind.{Kind}
use Rattle.fields.specs.Kinds.{meant as means, tag_of, kind_is}
use Rattle.fields.specs.declared.Effect.{Effect}
use Rattle.fields.specs.Effect.{effect, Used}
use Rattle.states.specs.declared.State.{State}
use Rattle.states.specs.State.{viewed, left}
use Rattle.states.specs.Answer.{answer_of}
use Rattle.states.specs.Taken.{taken}
use Rattle.states.specs.FirstField.{first-tag, first_body, first-whole, first-cut, first-misplaced}
use Rattle.advance.specs.declared.Advanced.{Advanced}
use Rattle.advance.specs.Header.{of_header, misplaced_tag, header_passed}
use Rattle.advance.specs.HeaderLaws.{with_tag}
use Rattle.advance.specs.Running.{Running, Ready}
use Rattle.advance.specs.Advanced.{field_works, advanced, kind_advanced}
use Rattle.advance.specs.Concluded.{skipped_as, refused_so, concluded, not_last, effect_leavable, effect-advanced, effect-worked, advanced_is}
use Rattle.advance.specs.Totals.{Leavable}

-- ---- by the kind
pub kind-effect : {k j : Kind} (b : List ℕ) (next : ℕ) (s : PolyZonotope) → k ≡ j → {r : Result Effect Cause}
    → r ≡ effect (means j) b next s → r ≡ effect (means k) b next s
kind-effect b next s e p = p ∙ ap (λ (k : Kind). effect (means k) b next s) (sym e)

-- a kind that is none of a first field
pub not_first : {k j : Kind} → k ≡ j → starts (means j) ≡ false → starts (means k) ≡ false
not_first e s = ap (λ (k : Kind). starts (means k)) e ∙ s

-- a work slice, where the same is said of it
pub used_as : {A : Type 0} {yes was : Bool} {d : A} {n : ℕ} {before after : List A} → yes ≡ was → Used was d n before after
    → Used yes d n before after
used_as e h = record { untouched = λ q. h.untouched (sym e ∙ q); kept = h.kept }

pub not-used : {A : Type 0} (was : Bool) (d : A) (n : ℕ) (xs : List A) → Used was d n xs xs
not-used was d n xs = record { untouched = λ q. refl; kept = record { place = λ x l. refl } }

pub used-by : {k j : Kind} (b : List ℕ) (st : State) → k ≡ j → {A : Type 0} {d : A} {n : ℕ} {before after : List A}
    → Used (field_works (means j) b st) d n before after → Used (field_works (means k) b st) d n before after
used-by b st e h = used_as (ap (λ (k : Kind). field_works (means k) b st) e) h

-- what a later field finds: a set, and a next identifier that leaves room for twelve
pub later : {st : State} {k : Kind} → Ready st k → starts (means k) ≡ false → AcceptedRecord st.set × Next st.next
later {st} r h = (r.running.set (r.there h), record { few = not_last st r.running })

-- of the tags that have a kind the hull's is the one that is no other
above : {t : ℕ} (n : ℕ) → n ≤ t → (t ≡ n → ⊥) → n + 1 ≤ t
above n h e = omega arith

pub last_is : (t : ℕ) → (1 ≤ t) × (t ≤ last_tag) → (t ≡ 1 → ⊥) → (t ≡ 2 → ⊥) → (t ≡ 3 → ⊥) → (t ≡ 4 → ⊥) → (t ≡ 5 → ⊥) → (t ≡ 6 → ⊥)
    → (t ≡ 7 → ⊥) → (t ≡ 9 → ⊥) → t ≡ 8
last_is t k one two three four five six seven nine =
    let low = above 7 (above 6 (above 5 (above 4 (above 3 (above 2 (above 1 k.0 one) two) three) four) five) six) seven in
    omega (arith, low, k.1, nine)

-- a tag that may stand here
tag_known : (count t : ℕ) → misplaced_tag count t ≡ false → (t ≡ 1 → ⊥) → 0 < count
tag_known zero t e h = absurd (h (eqb-true t 1 (not-false (eqb t 1) e)))
tag_known (suc n) t e h = omega arith

-- ---- the first field, where its header passed
module _ (st : State) (rest : List ℕ) (header : first_of (of_header st.count (first_field rest)) ≡ none) where
  abbrev heads : (st.count ≤ last_field) × (misplaced st.count (first_field rest) ≡ false) × (cut (first_field rest) ≡ false)
  heads = header_passed st.count (first_field rest) header

  -- it is there as a whole
  there : field_length rest ≤ length rest
  there = ltb-false (length rest) (field_length rest) (sym (first-cut rest) ∙ heads.2)

  pub first_there : {bytes : ℕ} → bytes ≡ length (first_field rest) → (3 ≤ bytes) × (bytes ≤ length rest)
  first_there e = let q = e ∙ first-whole rest there in (omega (arith, q), omega (arith, q, there))

  module _ (k : Kind) (tagged : tag_of k ≡ byte rest 0) where
    -- and may follow
    pub first-ready : Running st → Ready st k
    first-ready run =
        let long : 0 < length rest = omega (arith, there) in
        let placed = sym (with_tag st.count rest long) ∙ sym (first-misplaced st.count rest) ∙ heads.1 in record {
          running = run;
          few = heads.0;
          there = λ n. tag_known st.count (byte rest 0) placed (λ o. eqb-false (tag_of k) 1 n (tagged ∙ o));
        }

    -- what its kind does to the set, from the part of the input that its body fills
    module _ (run : Running st) {bytes : ℕ} (e : bytes ≡ length (first_field rest)) {r : Result Effect Cause}
        (p : r ≡ effect (means k) (take (bytes - 3) (drop 3 rest)) st.next st.set) where
      abbrev part : List ℕ
      part = take (bytes - 3) (drop 3 rest)

      -- one that is no start set finds a set
      finds : starts (means k) ≡ false → 0 < st.count
      finds = (first-ready run).there

      kind_so : means k ≡ kind_of (tag (first_field rest))
      kind_so = sym (kind_is k) ∙ ap kind_of (tagged ∙ sym (first-tag rest))

      pub first_leavable : IfOk r (λ f. Leavable st (describe (means k)).anew f.set)
      first_leavable = effect_leavable st run k part finds p

      pub first-advanced : st.over ≡ false → (place : ℕ) {a : Advanced} → a ≡ concluded st place bytes k r
          → a ≡ advanced place st (first_field rest)
      first-advanced on place q =
          let long = e ∙ first-whole rest there in
          let n : bytes - 3 ≡ body_length rest = omega (arith, long) in
          q
          ∙ effect-advanced st run k part finds place bytes p
          ∙ ap (λ j. kind_advanced place st j part bytes) kind_so
          ∙ ap (λ b. kind_advanced place st (kind_of (tag (first_field rest))) b bytes)
          (ap (λ m. take m (drop 3 rest)) n ∙ sym (first_body rest))
          ∙ ap (λ m. kind_advanced place st (kind_of (tag (first_field rest))) (body (first_field rest)) m) e
          ∙ sym (advanced_is st (first_field rest) on header place)

      pub first_worked : (place : ℕ) {a : Advanced} → a ≡ concluded st place bytes k r → a.worked ≡ field_works (means k) part st
      first_worked place q = ap (λ (a : Advanced). a.worked) q ∙ effect-worked st run k part finds place bytes p

-- ---- a run that is over
-- the state, known to be over
abbrev ended : State → State
ended st = record { set = st.set; next = st.next; count = st.count; over = true; folded = st.folded }

ended-advanced : (st : State) (place : ℕ) (f : List ℕ) → skipped_as (ended st) (length f) ≡ advanced place (ended st) f
unfolding advanced taken after outcome viewed left answer_of
ended-advanced st place f = refl

pub skipped_advanced : (st : State) (place : ℕ) (f : List ℕ) → st.over ≡ true → {bytes : ℕ} → bytes ≡ length f
    → {a : Advanced} → a ≡ skipped_as st bytes → a ≡ advanced place st f
skipped_advanced st place f e q p =
    p ∙ ap (skipped_as st) q ∙ subst (λ (x : State). skipped_as x (length f) ≡ advanced place x f) (sym known) (ended-advanced st place f)
  where
    known : st ≡ ended st
    known = ap (λ b. record { set = st.set; next = st.next; count = st.count; over = b; folded = st.folded }) e

-- ---- a header that is refused
-- none is refused as a result is
header_number : (count : ℕ) (f : List ℕ) {n : ℕ} → first_of (of_header count f) ≡ some n → worked (some n) ≡ false
unfolding first_of
header_number count f {n} e = sym (ap worked e) ∙ go (ltb last_field count) (misplaced count f) (cut f) e
  where
    go : (x y z : Bool) → cond x (some 12) (cond y (some 2) (cond z (some 1) none)) ≡ some n
        → worked (cond x (some 12) (cond y (some 2) (cond z (some 1) none))) ≡ false
    go true y z e = refl
    go false true z e = refl
    go false false true e = refl
    go false false false e = let z : ◌≡◌ {A = ℕ} 0 1 = cc e in absurd (omega arith)

module _ (st : State) (f : List ℕ) (on : st.over ≡ false) {n : ℕ} (header : first_of (of_header st.count f) ≡ some n) where
  refused_by : refusal (viewed st) f ≡ some n
  unfolding viewed causes
  refused_by =
      first_append (of_header st.count f) (of_body (meant (viewed st) f) (length (body f)))
      ∙ ap (λ o. or_else o (first_of (of_body (meant (viewed st) f) (length (body f))))) header

  header_refused : (place : ℕ) → advanced place st f ≡ refused_so st place (length f) (cause_of n) false
  unfolding advanced taken after outcome viewed left answer_of
  header_refused place = go st.over on (refusal (viewed st) f) refused_by ∙ last ((describe (kind_of (tag f))).works && worked (some n)) no
    where
      no : ((describe (kind_of (tag f))).works && worked (some n)) ≡ false
      no = both (describe (kind_of (tag f))).works (header_number st.count f header)
        where
          both : (x : Bool) {y : Bool} → y ≡ false → (x && y) ≡ false
          both true e = e
          both false e = refl

      last : (w : Bool) → w ≡ false → refused_so st place (length f) (cause_of n) w ≡ refused_so st place (length f) (cause_of n) false
      last w e = ap (refused_so st place (length f) (cause_of n)) e

      go : (over : Bool) → over ≡ false → (o : Option ℕ) → o ≡ some n → ◌≡◌ {A = Advanced} (record {
        answer = answer_of (record {
          field = st.count;
          outcome = cond over skipped (elim o [ none ↦ (meant (viewed st) f).outcome | some n ↦ refused n place ]);
        }) (length f);
        state = left st (cond over (viewed st) (elim o [
          | none ↦ accepted_by (viewed st) (meant (viewed st) f)
          | some n ↦ refused_at (viewed st)
        ]));
        worked = cond over false ((describe (kind_of (tag f))).works && worked o);
      }) (refused_so st place (length f) (cause_of n) ((describe (kind_of (tag f))).works && worked (some n)))
      go over e o q = rw (e, q)

  pub refused-advanced : (place : ℕ) {c : Cause} → c ≡ cause_of n → {bytes : ℕ} → bytes ≡ length f
      → {a : Advanced} → a ≡ refused_so st place bytes c false → a ≡ advanced place st f
  refused-advanced place {c} same q p =
      p ∙ ap (λ m. refused_so st place m c false) q ∙ ap (λ (x : Cause). refused_so st place (length f) x false) same
      ∙ sym (header_refused place)
