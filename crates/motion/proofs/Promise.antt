-- The program keeps its promise.
use mathlib.Core.Path.{sym, ap, ◌∙◌, subst}
use mathlib.Core.List.{◌++◌, append_assoc}
use Rattle.model.specs.Promised.{Promised}
use Rattle.model.proofs.Promise as Output
use Rattle.console.specs.History.{bytes_of}
use Rattle.motion.specs.declared.Flow.{Flow}
use Rattle.motion.specs.Streamed.{Streamed}
use Rattle.motion.specs.Promise.{Promise}

-- For a program that is over, what was written is true of every motion that what was read allows.
pub promise : {f : Flow} → Streamed f → Promise f
promise s = record {
  reads = s.reads;
  writes = s.writes;
  told = s.streams.told;
  kept = λ good went more last.
      let input = bytes_of s.reads ++ more in
      subst (Promised input) (sym (s.streams.all (good, went) more last)) (Output.promise input);
  unclosed = s.unclosed;
  so_far = λ more last through later e.
      let b = s.streams.begins more last in
      Output.begun (bytes_of s.reads ++ more) through (later ++ b.0) (b.1 ∙ ap (◌++ b.0) e ∙ append_assoc through later b.0);
}
