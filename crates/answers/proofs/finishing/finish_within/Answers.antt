-- `finishing::finish_within` meets its contract: finishing is lent the places of as many rows as there are.
use Rattle.std.proofs.Common.{ap, ap₂, ◌∙◌, List, ℕ, length-take-le}
use Rattle.std.specs.Option.{ok_or}
use Rattle.model.specs.Finish.{finish}
use Rattle.zonotope.specs.Answer.{cause_of}
use Rattle.finish.specs.Held.{held}
use Rattle.answers.specs.Answer.{settled}
use Rattle.answers.specs.Finishing.{finish-asks, room}
use Rattle.answers.proofs.Settled.{settled_as}
use Rattle.answers.proofs.finishing.finish_within.Goals as goal

pub finish-finished-requires : goal.finish-finished-requires
finish-finished-requires g c =
    let a = c.args in
    let r = c.requires in
    finish-asks a.u a.e.now a.c.now a.rows a.g.now a.generators _ _ _ r.0 (room g.row.N g.row.M a.rows r.4 r.6) r.1 r.2 r.3

pub returns : goal.returns
returns g c =
    let a = c.args in
    let r = c.requires in
    c.ok_or.ensures.value
    ∙ ap (λ f. ok_or f (cause_of 10)) c.finish-finished.ensures.value
    ∙ settled_as _
    ∙ ap₂ (λ (w : List ℕ) (n : ℕ). settled (finish w a.limits.terms a.limits.generators
    (held a.u a.e.now a.c.now n a.g.now a.generators))) r.3
    (length-take-le a.rows _ (room g.row.N g.row.M a.rows r.4 r.6).places-long)
