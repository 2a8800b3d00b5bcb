-- What the program knows between turns: that of any program that takes field after field (crates/flows).
use Rattle.std.specs.Prelude.{List, false, ℕ}
use Rattle.model.specs.Text.{printed}
use Rattle.console.specs.Trace.{without_input, without_output}
use Rattle.flows.specs.Flow as Flowing
use Rattle.flows.specs.Flow.{Program}
use Rattle.feeding.specs.declared.Progress.{Progress}
use Rattle.feeding.specs.Fed as Feeding
use Rattle.feeding.specs.Fed.{feeder}
use Rattle.feeding.specs.Reached.{Reached, Placed, remaining, turns_left}
use Rattle.motion.specs.declared.Flow.{Flow}

abbrev pub program : Program Progress
program = record {
  machine = feeder;
  Reached = Reached;
  Placed = Placed;
  remaining = remaining;
  printed = printed;
  turns_left = turns_left;
  place = λ p. p.place;
}

abbrev pub flow : Flow → Flowing.Flow Progress
flow f = record {
  progress = f.progress;
  held = f.held;
  ended = f.ended;
  unread = f.unread;
  failed = f.failed;
  input = f.input;
  output = f.output;
}

-- before the first turn
abbrev pub starting_flow : Flow
starting_flow = record {
  progress = Feeding.starting;
  held = 0;
  ended = false;
  unread = false;
  failed = false;
  input = without_input;
  output = without_output;
}

-- after some turns
abbrev pub Along : Flow → List ℕ → Type 0
Along f buffer = Flowing.Along program (flow f) buffer

-- after reading on
abbrev pub Refilled : Flow → Flow → List ℕ → Type 0
Refilled f r after = Flowing.Refilled program (flow f) (flow r) after

-- how many turns can follow at most
abbrev pub calls_left : Flow → ℕ
calls_left f = Flowing.calls_left program (flow f)
