-- `feeding::machine::can_turn` meets its contract.
use mathlib.Core.Bool.{not, ◌&&◌, ◌||◌, and_assoc}
use Rattle.std.proofs.Common.{ap, ◌∙◌}
use lib.Dec.{ltb}
use Rattle.model.specs.Run.{cut}
use Rattle.streams.specs.Machine.{ready}
use Rattle.feeding.proofs.machine.can_turn.Goals as goal

pub returns : goal.returns
unfolding ready
returns c =
    let s = c.args in
    ap (λ w. (not s.done && (s.ended || w)) && not (ltb s.room s.longest)) c.is_whole.ensures.0
    ∙ and_assoc (not s.done) (s.ended || not (cut s.rest.now)) (not (ltb s.room s.longest))
