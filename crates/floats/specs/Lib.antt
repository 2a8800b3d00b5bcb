-- Definitions, which a reader believes:
--     Bits       the number that 32 bits of a float stand for, and which readings are inside a box
-- The machine's floats:
--     Value      the exact value of a float of the machine; which are inside a box
--     Compare    `<=` on finite floats is ≤ of their exact values
--     Scaled     4096·r is exact, or an infinity
--     Rational   `inside` and `is_inside` say low ≤ 4096·r ≤ high in ℚ
pub mod Value
pub mod Bits
pub mod Compare
pub mod Scaled
pub mod Rational
