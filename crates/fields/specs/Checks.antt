-- A check: its causes are those of the region that its body gives.
use Rattle.std.specs.Prelude.{◌≡◌, refl, List, Bool, true, false, ◌||◌, ℕ, ◌*◌, ◌<◌, ◌≤◌, ltb, eqb, length, ℤ, pos, Result, Ok, Err}
use Rattle.std.proofs.Common.{sym, ap, ap₂, ◌∙◌, arith}
use Rattle.std.proofs.Math.Option.{Option, none, some}
use borrow.Author.Tests.{lt-ltb, le-ltb, eq-eqb, ne_eqb, ltb-false}
use Rattle.whole.specs.Tab.{length-tab}
use Rattle.whole.specs.Tests.{or_right}
use Rattle.model.specs.Set.{Zonotope}
use Rattle.model.specs.Valid.{is_too_wide}
use Rattle.model.specs.Operations.{safe}
use Rattle.model.specs.Body.{dimension, halfspace_count, given_halfspaces}
use Rattle.model.specs.Field.{check, verdict, meaning, bad_dimension}
use Rattle.model.specs.Run.{first_of}
use Rattle.model.specs.Library.{of_region}
use Rattle.bodies.specs.Fields.{region_counts_out, region_length, RegionBody, given_normals, given_bounds}
use Rattle.bodies.specs.Region.{given-region, given_range}
use Rattle.zonotope.specs.declared.Cause.{Cause}
use Rattle.zonotope.specs.Answer.{cause_of}
use Rattle.verdicts.specs.declared.Verdict.{Verdict}
use Rattle.verdicts.specs.Region.{halfspaces}
use Rattle.verdicts.specs.Judged.{judged, few}
use Rattle.zonotope.specs.declared.PolyZonotope.{PolyZonotope}
use Rattle.zonotope.specs.Record.{view, pack}
use Rattle.answers.specs.Accepted.{AcceptedRecord, own_record}
use Rattle.fields.specs.declared.Effect.{Effect}
use Rattle.fields.specs.Refusal.{body_refusal}
use Rattle.fields.specs.Effect.{found_of, effect_by, effect, judged_by}
use Rattle.fields.specs.Entries.{zeros, zeros-length}

-- a body with counts in limits and as long as they say
abbrev pub WholeRegion : List ℕ → Type 0
WholeRegion b = RegionBody b (halfspace_count b * dimension b) (halfspace_count b)

-- what a check of s answers
abbrev pub checked : List ℕ → Zonotope → Result Verdict Cause
checked b s = judged (body_refusal check b 0 s) (safe (given_halfspaces b) s)

module _ (b : List ℕ) (s : Zonotope) where
  -- ---- the answer of each test before the region is read
  pub too_short : length b < 2 → Err (cause_of 3) ≡ checked b s
  unfolding first_of meaning
  too_short h = rw (lt-ltb (length b) 2 h)

  module _ (h : 2 ≤ length b) where
    pub wrong_counts : region_counts_out b ≡ true → Err (cause_of 4) ≡ checked b s
    unfolding first_of meaning
    wrong_counts w = rw (le-ltb (length b) 2 h, w)

    pub wrong_length : region_counts_out b ≡ false → (length b ≡ region_length b → ⊥) → Err (cause_of 3) ≡ checked b s
    unfolding first_of meaning
    wrong_length w l = rw (le-ltb (length b) 2 h, w, ne_eqb (length b) (region_length b) l)

  -- ---- the region
  module _ {normals bounds : ℕ} (h : RegionBody b normals bounds) (narrow : is_too_wide s ≡ false) where
    -- the causes that are left are those of the region
    pub region-order : body_refusal check b 0 s ≡ first_of (of_region (dimension b) (halfspace_count b) (given_normals b) (given_bounds b) s)
    unfolding first_of meaning given_normals given_bounds
    region-order = let long = h.long in rw (
      le-ltb (length b) 2 (omega arith),
      h.counts,
      eq-eqb (length b) (region_length b) long,
      given_range b h.counts,
      narrow,
      eq-eqb (length (given_normals b)) (halfspace_count b * dimension b) (length-tab (halfspace_count b * dimension b) _),
      eq-eqb (length (given_bounds b)) (halfspace_count b) (length-tab (halfspace_count b) _),
    )

    -- so is the verdict, by normals and bounds that were read
    pub region_verdict : {n count : ℕ} {xs ys : List ℤ} {r : Result Verdict Cause}
        → n ≡ dimension b → count ≡ halfspace_count b → (xs ≡ given_normals b) × (ys ≡ given_bounds b)
        → r ≡ judged (first_of (of_region n count xs ys s)) (safe (halfspaces n count xs ys) s) → r ≡ checked b s
    region_verdict e₁ e₂ read told =
        let causes = first_of (of_region (dimension b) (halfspace_count b) (given_normals b) (given_bounds b) s) in
        (rw (e₁, e₂, read.0, read.1) at told)
        ∙ ap (λ hs. judged causes (safe hs s)) (given-region b)
        ∙ ap (λ o. judged o (safe (given_halfspaces b) s)) (sym region-order)

-- ---- arrays for the normals and bounds
module _ (b : List ℕ) (h : WholeRegion b) {n count : ℕ} (e₁ : n ≡ dimension b) (e₂ : count ≡ halfspace_count b) where
  -- how many there are
  pub region_few : (count * n ≤ 48) × (count ≤ 8)
  region_few =
      let k = halfspace_count b in
      let most = or_right (bad_dimension (dimension b) || eqb k 0) (ltb 8 k) h.counts in
      rw (e₁, e₂) (few (dimension b) k h.counts, ltb-false 8 k most)

  -- parts that have room for them
  pub region_room : RegionBody b (length (zeros (pos 0) (count * n) 48)) (length (zeros (pos 0) count 8))
  region_room = let small = region_few in record {
    counts = h.counts;
    long = h.long;
    normals_long = zeros-length (pos 0) (count * n) 48 small.0 ∙ rw (e₁, e₂);
    bounds_long = zeros-length (pos 0) count 8 small.1 ∙ e₂;
  }

-- ---- the field: the set stays, and its record is the record of what it means
pub check_effect : (b : List ℕ) (next : ℕ) (s : PolyZonotope) → AcceptedRecord s → {v : Result Verdict Cause} → v ≡ checked b (view s)
    → {f : Result Effect Cause} → f ≡ judged_by v s next → f ≡ effect check b next s
unfolding effect meaning
check_effect b next s a e p =
    p ∙ ap (λ (v : Result Verdict Cause). judged_by v s next) e ∙ go (body_refusal check b 0 (view s)) (safe (given_halfspaces b) (view s)) refl
  where
    stays : {y : Bool} → safe (given_halfspaces b) (view s) ≡ y
        → ◌≡◌ {A = Result Effect Cause} (Ok (record { found = found_of (verdict y); set = s; next = next }))
        (Ok (record { found = found_of (verdict (safe (given_halfspaces b) (view s))); set = pack (view s); next = next }))
    stays e = ap₂ (λ (x : PolyZonotope) (y : Bool). Ok (record { found = found_of (verdict y); set = x; next = next })) (sym (own_record s a)) (sym e)

    go : (o : Option ℕ) (y : Bool) → safe (given_halfspaces b) (view s) ≡ y
        → judged_by (judged o y) s next ≡ effect_by o (meaning check b next (view s))
    go none true e = stays e
    go none false e = stays e
    go (some n) y e = refl
