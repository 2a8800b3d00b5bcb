-- The hull of two accepted records.
--     WideTerms   half of a term with a power of the blending factor, in wide form
--     Blending    the rows that are written, from the rows of the sum
--     Sizes       of raw and rounded numbers
--     Blended     the blend of two sets before rounding, in rows
--     Radii       what is carried, from independent parts
--     BlendRadii  the radii of the rounded blend
--     WithNext    the identifiers of both sets and the next
--     HullRows    the rounded blend in rows; finished it is the hull
--     Hulled      the answer
pub mod WideTerms
pub mod Blending
pub mod Sizes
pub mod Blended
pub mod Radii
pub mod BlendRadii
pub mod WithNext
pub mod HullRows
pub mod Hulled
