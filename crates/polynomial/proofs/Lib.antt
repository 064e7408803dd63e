-- Laws of polynomials and remainders, and what holds of the FEC and CRC-3 polynomials.
pub mod Polynomial
pub mod Remainder
pub mod Digits
pub mod Register
pub mod Quotient
pub mod Words
pub mod Crc3
pub mod Factor
pub mod Cycle
pub mod Fire
