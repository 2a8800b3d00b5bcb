-- `raw::parts::centre` meets its contract: each place is made in turn.
use Rattle.std.proofs.Common.{rules, pos}
use Rattle.rows.specs.Rows.{Small}
use Rattle.forms.specs.Made.{made, callable}
use Rattle.raw.specs.Limits.{centre_small}
use Rattle.raw.specs.Parts.{raw-centre}
use Rattle.raw.proofs.parts.centre.Goals as goal
use Rattle.raw.proofs.parts.centre.Goals.{Start}

small : (s : Start) → Small 1048576 s.args.s.centre
small s =
    centre_small s.args.s s.requires.3
    (record { centre = search rules; exponents = search rules; coefficients = search rules; vectors = search rules })

pub from_fn-requires : goal.from_fn-requires
from_fn-requires c =
    let k = small (goal.at.from_fn-requires c).Start in
    (search rules, callable 6 (λ i l. search rules) (λ i x q k. search rules))

pub returns : goal.returns
returns c =
    raw-centre c.args.c.now c.args.a.now c.args.lines.now c.args.s c.requires.3 c.requires.0 c.requires.1 c.requires.2
    (small (goal.at.returns c).Start) _ (made _ 6 (pos 0) (λ i x q l k. search rules) c.from_fn.ensures.items)
