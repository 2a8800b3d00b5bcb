-- What the program knows between turns.
use Rattle.std.specs.Prelude.{◌≡◌, List, [], false, cond, ℕ, ◌+◌, ◌<◌, eqb, length}
use Rattle.model.specs.Rewrite.{rewritten}
use Rattle.console.specs.Trace.{without_input, without_output}
use Rattle.console.specs.History.{Read, Write, Told}
use Rattle.console.specs.Streams.{Follows}
use Rattle.rewriting.specs.declared.Held.{Held}
use Rattle.rewriting.specs.Given as Rewriting
use Rattle.rewriting.specs.Given.{held_bytes, Handed, many_bytes}
use Rattle.rewriting.specs.Reached.{Reached, remaining}
use Rattle.rewrite.specs.declared.Flow.{Flow}
use Rattle.rewrite.specs.Streamed.{most_reads}

-- before the first turn
abbrev pub starting_flow : Flow
starting_flow = record {
  held = Rewriting.starting;
  allowed = most_reads;
  ended = false;
  unread = false;
  failed = false;
  input = without_input;
  output = without_output;
}

-- what comes of a read: where it brought nothing, the input has ended, and what is held is written
unfoldable pub passed : Held → List ℕ → Handed
passed h came = cond (eqb (length came) 0) (record { held = h; text = held_bytes h }) (many_bytes h came)

-- what is still to be written where this much of the input is still to come; nothing is after the end
abbrev pub still_left : Flow → List ℕ → List ℕ
still_left f more = cond f.ended [] (remaining f.held more)

-- after some turns
pub record Along (f : Flow) : Type 0 where
  pub reached : Reached f.held
  pub reads : List Read
  pub writes : List Write
  pub made : length reads + f.allowed ≡ most_reads
  pub told : Told f.input f.output f.ended f.unread f.failed reads writes
  -- what was written, and what is still to be
  pub rewrites : Follows rewritten (still_left f) f.ended reads writes

-- after one turn more
pub record TurnMade (f r : Flow) : Type 0 where
  pub along : Along r
  pub fewer : r.allowed < f.allowed
