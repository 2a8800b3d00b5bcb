-- `text::appending::append_ends` meets its contract: two ends a turn.
use Rattle.std.proofs.Common.{◌≡◌, ◌<◌, length, pos, sym, ap, ap₂, ◌∙◌, arith, rules}
use Rattle.std.proofs.lemmas.List.{length_push}
use Rattle.std.proofs.lemmas.Slice.Zip.{zip_turn, zip_end}
use Rattle.whole.specs.Fits.{read64}
use Rattle.model.specs.Set.{at}
use Rattle.model.specs.Text.{ends}
use Rattle.text.specs.Appended.{none_put, named}
use Rattle.text.specs.Pieces.{firsts, firsts-all, spaced, no-ends, ends_put}
use Rattle.text.proofs.appending.append_ends.Goals as goal
use Rattle.text.proofs.appending.append_ends.Goals.{In-Some}

-- the ends of this turn
turn : (c : In-Some) → (length c.loop-low.yielded < length c.args.lows.now)
    × (c.in-Some.low.now ≡ at c.args.lows.now (length c.loop-low.yielded))
    × (c.in-Some.high.now ≡ at c.args.highs.now (length c.loop-low.yielded))
turn c =
    let t = zip_turn c.args.lows.now c.args.highs.now c.loop-low.yielded c.into_iter-low-iterator.result c.loop-low.low-iterator
    c.next.new.self c.next.result (search rules) (search rules) c.loop-low.yielded_by (c.in-Some.low, c.in-Some.high) c.in-Some.is c.next.ensures.steps in
    (t.0, t.2 (pos 0), t.3 (pos 0))

pub loop-low-init : goal.loop-low-init
loop-low-init c = named (omega arith) (no-ends _ _) (none_put _ _)

pub append_item-next-requires : goal.append_item-next-requires
append_item-next-requires c = let t = turn (goal.at.append_item-next-requires c).In-Some in omega arith

pub append_item-next-requires-in-loop-low : goal.append_item-next-requires-in-loop-low
append_item-next-requires-in-loop-low c = let t = turn (goal.at.append_item-next-requires-in-loop-low c).In-Some in omega arith

pub loop-low-preserved : goal.loop-low-preserved
loop-low-preserved c =
    let t = turn (goal.at.loop-low-preserved c).In-Some in
    let more = length_push c.loop-low.yielded (c.in-Some.low, c.in-Some.high) in
    named (omega arith) (ap (λ i. spaced (ends (firsts i c.args.lows.now) (firsts i c.args.highs.now))) (sym more))
    (ends_put (at c.args.lows.now) (at c.args.highs.now) (length c.loop-low.yielded) _ _ c.loop-low.invariant
    c.append_item-next.ensures c.append_item-next-in-loop-low.ensures
    (read64 _ (search rules) ∙ t.1) (read64 _ (search rules) ∙ t.2))

pub returns : goal.returns
returns c =
    let lows = c.args.lows.now in
    let highs = c.args.highs.now in
    let t = zip_end lows highs c.loop-low.yielded c.into_iter-low-iterator.result c.loop-low.low-iterator c.next.new.self c.next.result
    (search rules) (search rules) c.loop-low.yielded_by c.in-None.is c.next.ensures.steps in
    let n = length c.loop-low.yielded in
    named (omega (arith, t))
    (ap₂ (λ u v. spaced (ends u v)) (firsts-all lows n (omega (arith, t))) (firsts-all highs n (omega (arith, t)))) c.loop-low.invariant
