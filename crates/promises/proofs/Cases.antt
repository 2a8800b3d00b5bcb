-- The computed cases, by name alone: their statements are dozens of lines of numbers, which would only be repeated. One that is gone is
-- missed here; one that is changed isn't.
pub use Rattle.model.proofs.Marked.{marked}
pub use Rattle.model.proofs.Listing.{listing}
pub use Rattle.model.proofs.Printed.{listing_printed}
pub use Rattle.model.proofs.TwoCoordinates.{two-coordinates}
pub use Rattle.model.proofs.Refusals.{count_limits, range_limits, other_causes}
pub use Rattle.model.proofs.Longest.{longest_run, longest_kept}
pub use Rattle.model.proofs.HullRun.{two_outcomes, number-taken, hull-causes}
pub use Rattle.model.proofs.RangedRun.{half-widths-add, zero-widths_anywhere, ranged-causes}
pub use Rattle.model.proofs.EmptyRun.{empty_causes, stored_file, stored-kept, damaged_file}
pub use Rattle.model.proofs.ThreeCoordinates.{to_three, ranged_to_three}
pub use Rattle.model.proofs.LastEntries.{last_of_steps, last_of_others}
pub use Rattle.model.proofs.HullFolds.{hull-folds}
pub use Rattle.model.proofs.LikeParts.{like_parts}
pub use Rattle.model.proofs.FoldedLine.{folds-printed}
pub use Rattle.model.proofs.CallCauses.{order_of_sums, order_of-others, order_of_steps}
pub use Rattle.model.proofs.CallLimits.{identifier_limits, next_limits, room_first, slices}
pub use Rattle.model.proofs.ListingRead.{listing_read, strange_read}
pub use Rattle.model.proofs.Refuted.{right, ends_exchanged, minus_lost, digit_lost, box_of_another_field, safe_for_unknown, line-left_out}
pub use Rattle.model.proofs.Refuted.{line-twice, numbered-from-one, another_tag, one_end, no-box, folded_left_out, no_end, another_end}
pub use Rattle.model.proofs.Refuted.{not-ended, refused-at_the_end, more-after_the_end}
pub use Rattle.model.proofs.RefutedRefusal.{right_refusal, another_cause, another_place, refusal-left_out, closed-all_the_same}
pub use Rattle.model.proofs.RefutedRefusal.{end_after_refusal}
pub use Rattle.readings.proofs.Cases.{float_values, on_an_end, far_and_near, entry_cases, standing_cases, asked_cases, log_cases}
pub use Rattle.readings.proofs.Cases.{refused_cases, numbered_cases}
pub use Rattle.readings.proofs.Refuted.{first_outside, second_outside}
