-- A run from input that comes in pieces: one turn. As many as what was read so far allows are `fed feeder` (crates/streams).
use Rattle.std.specs.Prelude.{List, ◌++◌, Bool, true, false, not, cond, ◌&&◌, ℕ, ◌+◌, ◌-◌, eqb, length}
use Rattle.model.specs.Run.{tag, first_field}
use Rattle.model.specs.Text.{folded_line, end_line}
use Rattle.text.specs.Lines.{longest_line}
use Rattle.streams.specs.Machine.{Turns, Machine}
use Rattle.states.specs.State.{beginning}
use Rattle.states.specs.Taken.{taken}
use Rattle.printing.specs.Line.{answer_line}
use Rattle.feeding.specs.declared.Progress.{Progress}

-- before the first field
abbrev pub starting : Progress
starting = record { state = beginning; place = 0; done = false }

-- the input ended between fields: the totals and the `end` line are the last ones
abbrev pub closed : Progress → Turns Progress
closed p = record {
  progress = record { state = p.state; place = p.place; done = true };
  used = 0;
  text = folded_line p.state.folded ++ end_line (p.state.count - 1);
}

-- the field f is taken: its line, which is the last one where it is refused
abbrev pub field_taken : Progress → List ℕ → Turns Progress
field_taken p f = let r = taken p.place p.state f in record {
  progress = record { state = r.state; place = p.place + length f; done = r.state.over };
  used = length f;
  text = answer_line (tag f) r.answer;
}

-- nothing is left, and not because the input is empty
abbrev pub between : Progress → List ℕ → Bool
between p rest = eqb (length rest) 0 && not (eqb p.state.count 0)

-- what a turn comes to where this is left of what was read
unfoldable pub one_turn : Progress → List ℕ → Turns Progress
one_turn p rest = cond (between p rest) (closed p) (field_taken p (first_field rest))

-- the run as a machine
abbrev pub feeder : Machine Progress
feeder = record { starting = starting; done = λ p. p.done; one_turn = one_turn; longest = longest_line }
