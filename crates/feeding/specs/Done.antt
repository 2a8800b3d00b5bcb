-- What a function that makes turns answers and leaves in the lent slice.
use Rattle.std.specs.Prelude.{List, ℕ}
use Rattle.streams.specs.Machine.{Turns}
use Rattle.streams.specs.Made.{Made}
use Rattle.feeding.specs.declared.machine.Fed.{Fed}

abbrev pub Done : {P : Type 0} → ℕ → Turns P → List ℕ → List ℕ → ℕ → Fed P → Type 0
Done most t before after at r = Made most t before after at r.progress r.used r.written
