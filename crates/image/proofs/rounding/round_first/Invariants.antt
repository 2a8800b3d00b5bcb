-- `image::rounding::round_first` meets its contract: each place is read, rounded and written in turn.
use Rattle.std.proofs.Common.{ℕ}
use Rattle.whole.specs.Round.{round}
use Rattle.model.specs.Set.{at}
use Rattle.forms.specs.Filling.{Writing}
use Rattle.image.proofs.rounding.round_first.Given as goal

abbrev pub invariant-loop-v : goal.invariant-loop-v
invariant-loop-v l = Writing l.initial.v-items 0 (λ (y : ℕ). round (at l.initial.v-items y)) l.n l.v-index l.v-items
