-- The causes that refuse two sets and a next identifier before a result is looked at, and what is known where none does.
use Rattle.std.specs.Prelude.{◌≡◌, [], ◌∷◌, ◌++◌, Bool, true, false, not, ◌||◌, ℕ, ◌<◌, ◌≤◌, ltb}
use Rattle.std.proofs.Common.{ap, ◌∙◌}
use Rattle.std.proofs.Math.Option.{Option, none}
use borrow.Author.Tests.{eq-eqb, ne_eqb, ltb-true, ltb-false, not-false}
use Rattle.rational.specs.Sum.{All}
use Rattle.rational.proofs.Sum.{All-imp}
use Rattle.whole.specs.Tab.{any}
use Rattle.whole.specs.Tests.{or_left, or_right}
use Rattle.model.specs.Limits.{record_identifiers, first_fresh, last_fresh}
use Rattle.model.specs.Set.{Zonotope}
use Rattle.model.specs.Valid.{bad_counts, bad_range, bad_order, is_too_wide}
use Rattle.model.specs.Field.{differs}
use Rattle.model.specs.Run.{◌if◌, first_of}
use Rattle.model.specs.Library.{Given, of_first, of_second, bad_next, examine}
use Rattle.model.proofs.Tests.{any_false}
use Rattle.zonotope.specs.declared.PolyZonotope.{PolyZonotope}
use Rattle.zonotope.specs.Record.{view, given}
use Rattle.zonotope.specs.Shape.{Sized}
use Rattle.zonotope.specs.Valid.{Unrefused, valid, passed}
use Rattle.zonotope.specs.Answer.{Examined, Accepted, Refused, examined, or_else, first_append}
use Rattle.answers.specs.Order.{or_else_assoc, in_order, neither}
use Rattle.answers.specs.Accepted.{equal}
use Rattle.summing.specs.Summable.{Summable}

-- ---- two sets: 4, 6, 7, 8 of the first, 4, 5, 6, 7, 8 of the second
abbrev pub before_summing : Given → Given → Option ℕ
before_summing g h = or_else (examine g) (first_of (of_second g h))

-- the answer for a second set: 5 stands between its counts and the rest
module _ (g h : Given) where
  pub second-counts : bad_counts h.set ≡ true → Refused 4 ≡ examined (first_of (of_second g h))
  unfolding first_of
  second-counts e = rw e

  pub second-dimension : bad_counts h.set ≡ false → (h.set.dimension ≡ g.set.dimension → ⊥) → Refused 5 ≡
      examined (first_of (of_second g h))
  unfolding first_of
  second-dimension e d = rw (e, ne_eqb h.set.dimension g.set.dimension d)

  pub second-rest : bad_counts h.set ≡ false → h.set.dimension ≡ g.set.dimension → {r : Examined} → r ≡ examined (examine h)
      → r ≡ examined (first_of (of_second g h))
  unfolding first_of examine
  second-rest e d p = rw (e, eq-eqb h.set.dimension g.set.dimension d) (rw e at p)

-- what is known where nothing refuses
second_in : (g h : Given) → first_of (of_second g h) ≡ none → Unrefused h × (h.set.dimension ≡ g.set.dimension)
unfolding first_of
second_in g h e =
    let c = passed (bad_counts h.set) 4 e in
    let d = passed (differs h.set.dimension g.set.dimension) 5 c.1 in
    let r = passed (bad_range record_identifiers h.set) 6 d.1 in
    let o = passed (h.spare || bad_order h.set) 7 r.1 in
    let w = passed (is_too_wide h.set) 8 o.1 in (
      record {
        counts = c.0;
        range = r.0;
        full = or_left h.spare (bad_order h.set) o.0;
        order = or_right h.spare (bad_order h.set) o.0;
        narrow = w.0;
      },
      equal h.set.dimension g.set.dimension d.0,
    )

pub sets_in : (g h : Given) → before_summing g h ≡ none → Unrefused g × Unrefused h × (h.set.dimension ≡ g.set.dimension)
sets_in g h e =
    let first = neither (examine g) (first_of (of_second g h)) e in
    let second = second_in g h first.1 in
    (valid g first.0, second.0, second.1)

pub summable : (a b : PolyZonotope) → Sized a × Sized b → before_summing (given a) (given b) ≡ none → Summable a b
unfolding view
summable a b z e =
    let s = sets_in (given a) (given b) e in
    record { first = record { sized = z.0; passed = s.0 }; second = record { sized = z.1; passed = s.1 }; same = s.2 }

-- ---- 11: whether the next identifier is a bad one
abbrev pub of_next : Bool → Option ℕ
of_next bad = first_of ((11 if bad) ∷ [])

module _ (bad : Bool) where
  pub next-refused : bad ≡ true → Refused 11 ≡ examined (of_next bad)
  unfolding first_of
  next-refused e = rw e

  pub next-accepted : bad ≡ false → Accepted ≡ examined (of_next bad)
  unfolding first_of
  next-accepted e = rw e

  pub next_in : of_next bad ≡ none → bad ≡ false
  unfolding first_of
  next_in e = (passed bad 11 e).0

-- the order of a call that gives a fresh identifier: the sets, 11, then 9 and 10
pub fresh_order : (g h : Given) (bad many wide : Bool)
    → first_of (of_first g ++ of_second g h ++ ((11 if bad) ∷ (9 if many) ∷ (10 if wide) ∷ []))
    ≡ or_else (or_else (before_summing g h) (of_next bad)) (or_else (first_of ((9 if many) ∷ [])) (first_of ((10 if wide) ∷ [])))
fresh_order g h bad many wide =
    in_order g (of_second g h) _
    ∙ ap (or_else (before_summing g h)) (first_append ((11 if bad) ∷ []) _ ∙ ap (or_else (of_next bad)) (first_append ((9 if many) ∷ []) _))
    ∙ or_else_assoc (before_summing g h) (of_next bad) _

-- a next identifier that isn't bad is in its range and above the set's identifiers
pub next-above : (next : ℕ) (s : Zonotope) → bad_next next s ≡ false
    → (first_fresh ≤ next) × (next ≤ last_fresh) × All (◌< next) s.identifiers
next-above next s e =
    let out = ltb next first_fresh || ltb last_fresh next in
    let reaches = any (λ k. not (ltb k next)) s.identifiers in
    let l = or_left out reaches e in (
      ltb-false next first_fresh (or_left (ltb next first_fresh) (ltb last_fresh next) l),
      ltb-false last_fresh next (or_right (ltb next first_fresh) (ltb last_fresh next) l),
      All-imp (λ k h. ltb-true k next (not-false (ltb k next) h))
          (any_false (λ k. not (ltb k next)) s.identifiers (or_right out reaches e)),
    )
