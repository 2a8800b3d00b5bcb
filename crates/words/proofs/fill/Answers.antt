-- `words::fill` meets its contract: every place holds what was read for it.
use native.Mathlib.Omega.{arith}
use Rattle.words.specs.Filling.{filled}
use Rattle.words.proofs.fill.Goals as goal

pub returns : goal.returns
returns g c =
    λ f gives. filled c.loop-k.out _ f c.loop-k.auto.out (λ k d l. c.loop-k.invariant k d (omega arith)) gives
