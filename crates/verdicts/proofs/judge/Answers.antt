-- `judge` meets its contract: each answer follows from the causes that were asked.
use native.Mathlib.Omega.{arith}
use mathlib.Core.Path.{◌≡◌, sym, ap, ap₂, ◌∙◌}
use mathlib.Core.Option.{none}
use mathlib.Core.Bool.{Bool, not, ◌||◌}
use Prim.Native.Nat.{◌*◌}
use borrow.Author.Tests.{eq-eqb, ne_eqb}
use lib.ListN.{length}
use Rattle.zonotope.specs.Record.{view}
use Rattle.model.specs.Run.{first_of}
use Rattle.model.specs.Library.{of_region}
use Rattle.model.specs.Field.{beyond}
use Rattle.model.specs.Limits.{max_entry, max_bound}
use Rattle.model.specs.Operations.{safe}
use Rattle.whole.specs.Tab.{any}
use Rattle.whole.specs.Tests.{or_left}
use Rattle.verdicts.specs.Region.{halfspaces, entries-within}
use Rattle.verdicts.specs.Judged.{judged, few, same_lengths}
use Rattle.verdicts.proofs.judge.Goals as goal
use Rattle.verdicts.proofs.judge.Goals.{After-bounds_beyond, Else-normals-count, After-any_apart}

-- the entries' and bounds' ranges, where the test's answer is b
out_of_range : (s : After-bounds_beyond) {b : Bool} → (s.entries_beyond.result || s.bounds_beyond.result) ≡ b
    → (let a = s.args in
    (any (beyond max_entry) a.normals.now || any (beyond max_bound) a.bounds.now) ≡ b)
out_of_range s t = sym (ap₂ ◌||◌ s.entries_beyond.ensures s.bounds_beyond.ensures) ∙ t

-- both lengths, where they aren't refused
lengths : (s : Else-normals-count) → (let a = s.args in
    (length a.normals.now ≡ a.count * a.n) × (length a.bounds.now ≡ a.count))
lengths s = same_lengths _ _ _ _ s.if-normals-count.false

-- the verdict of a region that isn't refused, where the test's answer is b
verdict : (s : After-any_apart) {b : Bool} → s.any_apart.result ≡ b
    → (let a = s.args in
    judged none b ≡ judged (first_of (of_region a.n a.count a.normals.now a.bounds.now (view a.s)))
    (safe (halfspaces a.n a.count a.normals.now a.bounds.now) (view a.s)))
unfolding first_of view
verdict s t =
    let a = s.args in
    rw (
      s.if-n-count.false,
      s.if-normals-count.false,
      ap not (eq-eqb _ _ s.if-n-s.false),
      out_of_range (goal.at.After-any_apart s).After-bounds_beyond s.if-entries_beyond-bounds_beyond.false,
      ap (λ m. safe (halfspaces a.n m a.normals.now a.bounds.now) (view a.s)) (sym (lengths (goal.at.After-any_apart s).Else-normals-count).1)
          ∙ sym s.any_apart.ensures ∙ t,
    )

pub returns-then-n-count : goal.returns-then-n-count
unfolding first_of
returns-then-n-count c = rw c.if-n-count.true

pub overflow_mul-count : goal.overflow_mul-count
overflow_mul-count c = omega (arith, few c.args.n c.args.count c.if-n-count.false)

pub returns-then-normals-count : goal.returns-then-normals-count
unfolding first_of
returns-then-normals-count c = rw (c.if-n-count.false, c.if-normals-count.true)

pub returns-then-n-s : goal.returns-then-n-s
unfolding first_of view
returns-then-n-s c = rw (c.if-n-count.false, c.if-normals-count.false, ap not (ne_eqb _ _ c.if-n-s.true))

pub returns-then-entries_beyond-bounds_beyond : goal.returns-then-entries_beyond-bounds_beyond
unfolding first_of view
returns-then-entries_beyond-bounds_beyond c =
    rw (c.if-n-count.false, c.if-normals-count.false, ap not (eq-eqb _ _ c.if-n-s.false), out_of_range (goal.at.returns-then-entries_beyond-bounds_beyond c).After-bounds_beyond c.if-entries_beyond-bounds_beyond.true)

pub any_apart-requires : goal.any_apart-requires
any_apart-requires c =
    let l = lengths (goal.at.any_apart-requires c).Else-normals-count in (
      c.requires,
      sym c.if-n-s.false,
      entries-within _ (or_left _ _ (out_of_range (goal.at.any_apart-requires c).After-bounds_beyond c.if-entries_beyond-bounds_beyond.false)),
      l.0 ∙ ap (◌* c.args.n) (sym l.1),
    )

pub returns-then-any_apart : goal.returns-then-any_apart
returns-then-any_apart c = verdict (goal.at.returns-then-any_apart c).After-any_apart c.if-any_apart.true

pub returns : goal.returns
returns c = verdict (goal.at.returns c).After-any_apart c.if-any_apart.false
