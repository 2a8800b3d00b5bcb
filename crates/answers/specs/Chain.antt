-- Calls chain: the record of a valid set is accepted by the next call, and the places that its counts leave unused are 0.
use Rattle.std.specs.Prelude.{◌≡◌, refl, false, ℕ, suc}
use Rattle.std.proofs.Common.{sym, ap, ◌∙◌, arith}
use Rattle.std.proofs.Math.Option.{Option, none, some}
use Rattle.rational.proofs.Sum.{All-imp}
use Rattle.model.specs.Limits.{record_identifiers}
use Rattle.model.specs.Set.{Zonotope}
use Rattle.model.specs.Run.{first_of}
use Rattle.model.specs.Library.{examine}
use Rattle.model.proofs.Shape as Model
use Rattle.model.proofs.Shape.{ranged}
use Rattle.model.proofs.Held.{Held, held, held_valid}
use Rattle.zonotope.specs.declared.PolyZonotope.{PolyZonotope}
use Rattle.zonotope.specs.Record.{view, pack, spare, given}
use Rattle.zonotope.specs.Valid.{Unrefused}
use Rattle.zonotope.specs.Answer.{Accepted, refused}
use Rattle.zonotope.proofs.ViewPack.{view-pack, spare-pack}
use Rattle.answers.specs.declared.Changed.{Changed}
use Rattle.answers.specs.Answer.{answered}
use Rattle.zonotope.proofs.ViewPack.{view_shaped}

-- a record that a call accepts, with 0 in every place that its counts leave unused
pub record Usable (s : PolyZonotope) : Type 0 where
  pub accepted : examine (given s) ≡ none
  pub unused : spare s ≡ false

-- The record of a valid set is usable.
pub chained : (m : Zonotope) → Model.Valid record_identifiers m → Usable (pack m)
unfolding examine first_of
chained m v =
    let h = v.shaped in
    let e = view-pack m h v.counts in
    let full = spare-pack m h in
    record { accepted = rw (e, full, v.counts, v.ranges, v.ordered, v.narrow); unused = full }

-- So is the set of an answer that accepts, where the result is valid if nothing refuses.
pub answer_chained : (o : Option ℕ) (s : PolyZonotope) (m : Zonotope) → (o ≡ none → Model.Valid record_identifiers m)
    → {r : Changed} → r ≡ answered o s m → r.outcome ≡ Accepted → Usable r.set
answer_chained none s m v p e = rw p (chained m (v refl))
answer_chained (some n) s m v p e = refused n (ap (λ (x : Changed). x.outcome) (sym p) ∙ e)

-- ---- between what a call accepts and what a run holds
-- what an accepted record means is valid
pub accepted_valid : (s : PolyZonotope) → Unrefused (given s) → Model.Valid record_identifiers (view s)
accepted_valid s v =
    record { shaped = view_shaped s; counts = v.counts; ranges = v.range; ordered = v.order; narrow = v.narrow }

-- a valid set is held below the first identifier that no record has, and back
pub valid_held : {m : Zonotope} → Model.Valid record_identifiers m → Held (suc record_identifiers) m
valid_held {m} v =
    held (suc record_identifiers) v
    (All-imp (λ k h. omega (arith, h.1)) (ranged record_identifiers m v.ranges).identifiers_in)

pub held-again : {m : Zonotope} → Held (suc record_identifiers) m → Model.Valid record_identifiers m
held-again h = held_valid h (omega arith)
