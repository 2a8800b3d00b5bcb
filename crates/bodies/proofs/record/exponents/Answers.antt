-- `bodies::record::exponents` meets its contract: the rows are written to zeros.
use mathlib.Core.Path.{refl, ◌∙◌}
use native.Mathlib.Omega.{arith}
use lib.ListN.{length}
use Rattle.std.proofs.Common.{rules, ◌+◌, ◌*◌, ◌≤◌}
use Rattle.model.specs.Bytes.{byte}
use Rattle.bodies.specs.Set.{terms_from, term_bytes}
use Rattle.bodies.specs.Rows.{zeros-at, padded-rows}
use Rattle.bodies.specs.Filled.{exponents-within}
use Rattle.bodies.proofs.record.exponents.Goals as goal

pub fill_rows-requires-clause-callable : goal.fill_rows-requires-clause-callable
fill_rows-requires-clause-callable c =
    λ t j l m.
    let row : c.terms_from-from.result + t * c.term_bytes-bytes.result + c.args.k.factors ≤ length c.args.b.now =
    rw (c.terms_from-from.ensures, c.term_bytes-bytes.ensures) (exponents-within c.args.k (length c.args.b.now) c.requires t l) in
    search rules

pub returns : goal.returns
returns c =
    let k = c.args.k in
    c.fill_rows.ensures (λ t j. byte c.args.b.now (terms_from k + t * term_bytes k + j)) (λ t j v l m p. search rules)
    ∙ padded-rows 0 480 _ refl (zeros-at 0 480) 12 _ _ _ (omega arith) c.requires.counts.factors (omega (arith, c.requires.counts.terms))
