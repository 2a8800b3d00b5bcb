-- `factors::drop_unused` meets its contract: what is marked occurs.
use Rattle.std.proofs.Common.{sym, length, take, length-take-le, arith}
use Rattle.rows.specs.Places.{places-take}
use Rattle.rows.specs.Terms.{terms_taken}
use Rattle.factors.specs.Squeeze.{chosen_places}
use Rattle.factors.specs.Unused.{without_unused}
use Rattle.factors.proofs.drop_unused.Goals as goal

pub squeeze_identifiers-kept-requires : goal.squeeze_identifiers-kept-requires
squeeze_identifiers-kept-requires c = rw c.list_used-count.ensures.1 (chosen_places _)

pub squeeze_exponents-exponents-requires : goal.squeeze_exponents-exponents-requires
squeeze_exponents-exponents-requires c =
    let g = c.args in
    rw c.list_used-count.ensures.1
    (omega (arith, length-take-le g.n g.heads.now c.requires.1), places-take g.e.now g.n g.heads.now c.requires.1 c.requires.2, chosen_places _)

pub returns : goal.returns
returns c =
    let g = c.args in
    let heads = take g.n g.heads.now in
    let places = c.list_used-count.ensures in
    λ s. rw (← terms_taken g.e.now g.heads.now s g.n c.requires.1)
    (without_unused g.e.now heads s (length heads) c.mark_used-used.result (c.mark_used-used.ensures s) g.identifiers
    (sym (length-take-le c.list_used-count.result c.list_used-count.new.places (omega (arith, places.0)))) places.1 c.squeeze_identifiers-kept.ensures c.squeeze_exponents-exponents.ensures)
