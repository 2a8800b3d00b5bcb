-- `arguments::of_numbers` meets its contract.
use mathlib.Core.Path.{◌≡◌, sym, ap₂, ◌∙◌}
use mathlib.Core.Bool.{Bool, ◌||◌}
use borrow.Author.Tests.{eq-eqb, ne_eqb}
use Rattle.whole.specs.Tab.{any}
use Rattle.model.specs.Limits.{max_constant, max_entry}
use Rattle.model.specs.Field.{beyond}
use Rattle.model.specs.Run.{first_of}
use Rattle.stepping.proofs.arguments.of_numbers.Goals as goal
use Rattle.stepping.proofs.arguments.of_numbers.Goals.{After-entries_beyond-3}

-- what the tests say of the entries, where their answer is b
entries : (s : After-entries_beyond-3) {b : Bool}
    → (s.entries_beyond.result || s.entries_beyond-2.result || s.entries_beyond-3.result) ≡ b
    → let a = s.args in
    (any (beyond max_constant) a.c.now || any (beyond max_entry) a.a.now || any (beyond max_entry) a.q.now) ≡ b
entries s t =
    sym (ap₂ ◌||◌ (ap₂ ◌||◌ s.entries_beyond.ensures s.entries_beyond-2.ensures)
    s.entries_beyond-3.ensures)
    ∙ t

pub returns-then-n-dimension : goal.returns-then-n-dimension
unfolding first_of
returns-then-n-dimension c = rw (ne_eqb _ _ c.if-n-dimension.true)

pub returns-then-entries_beyond : goal.returns-then-entries_beyond
unfolding first_of
returns-then-entries_beyond c =
    let d = c in
    rw (eq-eqb _ _ d.if-n-dimension.false, entries c.before c.if-entries_beyond.true)

pub returns : goal.returns
unfolding first_of
returns c =
    let d = c in
    rw (eq-eqb _ _ d.if-n-dimension.false, entries c.before c.if-entries_beyond.false)
