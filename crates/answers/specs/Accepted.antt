-- A record that no cause refuses, and the shape of its set.
use Rattle.std.specs.Prelude.{◌≡◌, false, ℕ, eqb}
use Rattle.std.proofs.Common.{eqb-true}
use Rattle.std.proofs.lemmas.Bool.{not-false}
use Rattle.model.specs.Field.{differs}
use Rattle.model.proofs.Shape.{in_order}
use Rattle.model.proofs.Finished.{Ready, ordered_ready}
use Rattle.zonotope.specs.declared.PolyZonotope.{PolyZonotope}
use Rattle.zonotope.specs.Record.{view, pack, given}
use Rattle.zonotope.specs.Shape.{Sized}
use Rattle.zonotope.specs.Valid.{Unrefused}
use Rattle.zonotope.proofs.PackView.{pack-view}
use Rattle.zonotope.proofs.ViewPack.{view_shaped}

-- a record that was examined and accepted
pub record AcceptedRecord (s : PolyZonotope) : Type 0 where
  pub sized : Sized s
  pub passed : Unrefused (given s)

-- two numbers that don't differ
pub equal : (m n : ℕ) → differs m n ≡ false → m ≡ n
equal m n e = eqb-true m n (not-false (eqb m n) e)

module _ (s : PolyZonotope) (a : AcceptedRecord s) where
  -- the record is the record of its set
  pub own_record : pack (view s) ≡ s
  own_record = pack-view s a.sized a.passed.full

  -- what an operation makes of its set can be finished
  pub ready : Ready (view s)
  ready = ordered_ready (view_shaped s) (in_order (view s) a.passed.order)
