-- The remainder of a run of bits, first bit the highest power, times x^w, modulo x^w + g, from a zero start:
-- clauses 7.4.2 and 7.5.2; document 01, "Parity". Assumes nothing.
use Rattle.std.specs.Prelude.{List, [], ◌∷◌, ℕ}
use Rattle.std.specs.Int.Bits.{bit_xor}
use Rattle.polynomial.specs.Polynomial.{scale, times_x}

-- one bit more: what was there times x, and the bit times x^w, which is g
unfoldable pub next : ℕ → ℕ → ℕ → ℕ → ℕ
next w g r b = bit_xor (scale b g) (times_x w g r)

unfoldable pub remainder_from : ℕ → ℕ → ℕ → List ℕ → ℕ
remainder_from w g r [] = r
remainder_from w g r (b ∷ bits) = remainder_from w g (next w g r b) bits

unfoldable pub remainder : ℕ → ℕ → List ℕ → ℕ
remainder w g bits = remainder_from w g 0 bits
