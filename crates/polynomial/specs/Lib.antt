-- Arithmetic modulo a polynomial, and remainders.
pub mod Polynomial
pub mod Remainder
