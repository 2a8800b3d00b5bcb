-- `factors::squeeze_identifiers` meets its contract: each place is written once.
use Rattle.std.proofs.Common.{◌≡◌, ℕ, sym, ap, ◌∙◌, length, get_or, map, refl, arith}
use Rattle.std.specs.Prelude.{replicate}
use Rattle.whole.specs.Write.{write, write_none, write-next}
use Rattle.fold.specs.Marks.{same_at}
use Rattle.factors.specs.Squeeze.{padded-all, mapped_here, mapped_past}
use Rattle.factors.proofs.squeeze_identifiers.Goals as goal

pub loop-i-init : goal.loop-i-init
loop-i-init c = sym (write_none _ _ _)

pub loop-i-preserved : goal.loop-i-preserved
loop-i-preserved c = let l = c.loop-i in write-next (replicate 12 0) _ l.out l.i _ l.invariant refl

pub returns : goal.returns
returns c =
    let places = c.args.places.now in
    let f : ℕ → ℕ = λ j. get_or c.args.identifiers.now j 0 in
    let e : c.loop-i.i ≡ length places = omega arith in
    c.loop-i.invariant ∙ ap (write _ _ _) e
    ∙ padded-all (replicate 12 0) 12 _ (map f places) (length places) refl (same_at 0 12) c.requires.few (mapped_here f places) (mapped_past f places)
