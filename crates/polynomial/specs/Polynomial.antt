-- Arithmetic modulo a polynomial over bits: clauses 7.4.2 and 7.5.2; document 01, "Parity".
-- A polynomial x^w + g is its width w and its lower part g as a number; a remainder is a number below 2^w.
-- Bit k of a number is the coefficient of x^k, and exclusive or adds. Assumes nothing.
use Rattle.std.specs.Prelude.{ℕ, zero, suc, ◌*◌, ◌/◌, ◌%◌, ◌^◌}
use Rattle.std.specs.Int.Bits.{bit_xor}

-- g once where c is odd, else not at all
unfoldable pub scale : ℕ → ℕ → ℕ
scale c g = c % 2 * g

-- x times r: each bit moves up a place, and x^w, where it falls out at the top, is g
unfoldable pub times_x : ℕ → ℕ → ℕ → ℕ
times_x w g r = bit_xor (scale (r * 2 / 2 ^ w) g) (r * 2 % 2 ^ w)

-- x^n times r
unfoldable pub times_power : ℕ → ℕ → ℕ → ℕ → ℕ
times_power w g zero r = r
times_power w g (suc n) r = times_x w g (times_power w g n r)

-- x^n
abbrev pub power : ℕ → ℕ → ℕ → ℕ
power w g n = times_power w g n 1

-- ---- two polynomials multiplied, with no remainder taken

-- a times the n lowest coefficients of b
unfoldable pub times_lowest : ℕ → ℕ → ℕ → ℕ
times_lowest a zero b = 0
times_lowest a (suc n) b = bit_xor (scale b a) (times_lowest a n (b / 2) * 2)

-- a times b: all of b, since b is below 2^b
abbrev pub product : ℕ → ℕ → ℕ
product a b = times_lowest a b b
