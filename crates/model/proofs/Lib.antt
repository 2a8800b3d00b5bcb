-- What is proved of the definitions.
--     Marked, Listing                      document 01's marked table, its listing and some refusals
--     Written .. EmptyRun                  computed from bytes: all kinds in two coordinates; limits and refusals; 4,096 fields; rewriting
--     HullFolds                            a hull that folds, by the weights and to the limit
--     ThreeCoordinates, LastEntries        each entry of a step and of its half-widths tells; the last entry of each list decides
--     LikeParts                            what each operation makes of the four parts of the radii, where none is 0
--     CallCauses, CallLimits               the causes of each call on records in their order, and its limits
--     Printed, FoldedLine                  the listing, and a line `folded` with numbers, byte for byte
--     Numerals, LastLine                   numbers as text; how an output ends
--     Cutting                              an input cut after its first field
--     Rewritten                            the fields of a rewritten file, and what is left of an input by its first field
--     PairTable                            each place of the pair table belongs to one pair, in row order
--     Order, Collect, Merge                the order of terms; collecting doesn't depend on the order in which terms come
--     FoldOrder, Select, Level, FirstBySize   folding the smallest one at a time is keeping the first by size, then by place
--     Radii, RawUnits                      the radius by its parts; an image before rounding as a set
--     Lists, Tests, Shape                  rising lists; the tests of validity as facts, and back
--     Selected .. Finished, FixedPoint     a finished set is valid but for its span; a valid set is a fixed point of finishing
--     StepShape .. HullShape, Held         every operation keeps what a run holds
--     Narrower                             finishing widens no span, so that no reduction is refused with 10
--     Accepted                             what an accepted field passed
--     Laws, Kind                           the laws that a kind of field answers to; each kind's, a file each (with Folding .. Coordinates)
--     Folds, ByKind, Sound, Answers        from those laws: what a field leaves; the invariant of a run; what a kind answers
--     Parts, Covers, Alike                 points by parts; when a set covers another, when both have the same points
--     CollectCovers .. FinishCovers        every stage of finishing keeps every point
--     Aligned, Values, SumPoints           sums and disturbances keep every point
--     FoldsNothing, Shares, Exact          where nothing is folded, sums have exactly the true points (demand 2)
--     Forms .. RangedPoint                 the step keeps every point, a ranged one under all coefficients within its half-widths
--     HullPoint                            the hull has every point between those of both sets
--     Close                                a step from a set without independent parts is close to the true image (demand 2)
--     ZerosAfter, Ranged                   a ranged step with half-widths of 0 is the step, also as a field
--     Ends, BoxPoint, SafePoint            the box holds every point; a region that the check calls safe holds none
--     Enclosed                             demand 3, entire
--     OldFault                             with a next identifier that doesn't rise, demand 3 is false
--     Reached                              a motion may take any part of its limits, and goes where exact arithmetic says
--     TextParts .. LineAnswered            a text in parts, numbers as words; each line that is printed, as it is read
--     Promise                              what is printed keeps the promise
--     SomeMotion, Extended, Places         every input allows a motion; limits at the accepted fields alone; a field stands at its place
--     ListingRead, Refuted, RefutedRefusal   the listing as it is read; bytes that are no line; texts with a fault break the promise
--     OldField, Kept                       the run before request A.5 by its fields; the run of a rewritten file gives what it gave
--     Clauses                              the definitions over the kinds by clauses, which give the same
pub mod Marked
pub mod Listing
pub mod Written
pub mod TwoCoordinates
pub mod Refusals
pub mod Longest
pub mod HullRun
pub mod HullFolds
pub mod RangedRun
pub mod ThreeCoordinates
pub mod LastEntries
pub mod LikeParts
pub mod CallCauses
pub mod CallLimits
pub mod EmptyRun
pub mod Printed
pub mod FoldedLine
pub mod Numerals
pub mod LastLine
pub mod Cutting
pub mod Rewritten
pub mod PairTable
pub mod Vectors
pub mod Radii
pub mod RawUnits
pub mod Order
pub mod Collect
pub mod Merge
pub mod FoldOrder
pub mod Select
pub mod Level
pub mod FirstBySize
pub mod Lists
pub mod Tests
pub mod Shape
pub mod Selected
pub mod Collected
pub mod Unused
pub mod Stages
pub mod Finished
pub mod Folding
pub mod FixedPoint
pub mod StepShape
pub mod Union
pub mod SumShape
pub mod HullShape
pub mod Held
pub mod Narrower
pub mod Accepted
pub mod Choice
pub mod Parts
pub mod Covers
pub mod Alike
pub mod CollectCovers
pub mod ZeroGenerators
pub mod FoldCovers
pub mod FoldStages
pub mod UnusedCovers
pub mod FinishCovers
pub mod Aligned
pub mod Values
pub mod SumPoints
pub mod FoldsNothing
pub mod Shares
pub mod Exact
pub mod Forms
pub mod WholeForms
pub mod PartMaps
pub mod Raw
pub mod Spans
pub mod Remainder
pub mod RawPoint
pub mod Rounded
pub mod StepPoint
pub mod RangedPoint
pub mod HullPoint
pub mod Close
pub mod ZerosAfter
pub mod Ranged
pub mod Ends
pub mod BoxPoint
pub mod SafePoint
pub mod RadiusRules
pub mod Coordinates
pub mod Laws
pub mod Kind
pub mod Folds
pub mod ByKind
pub mod Sound
pub mod Answers
pub mod Origin
pub mod Enclosed
pub mod OldFault
pub mod Reached
pub mod TextParts
pub mod TextNumbers
pub mod Spoken
pub mod LineAnswered
pub mod Promise
pub mod SomeMotion
pub mod Extended
pub mod Places
pub mod ListingRead
pub mod Refuted
pub mod RefutedRefusal
pub mod OldField
pub mod Kept
pub mod Clauses
