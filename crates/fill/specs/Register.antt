-- The register that fill bits are taken from: clause 7.2.5, which leaves polynomial, seed and shifts to the maker; request 2, which decides
-- them. The sequence is that of x^17 + x^14 + 1, complemented. A register is a number: bit 0 is the latest bit of the sequence. Only its 17 low
-- bits count. Assumes nothing.
use Rattle.std.specs.Prelude.{ℕ, zero, suc, ◌+◌, ◌-◌, ◌*◌, ◌/◌, ◌%◌, ◌^◌}
use Rattle.std.specs.Int.Bits.{bit_xor}

-- the bit that follows: 1, plus the bit 17 before, plus the bit 14 before
unfoldable pub next_bit : ℕ → ℕ
next_bit register = bit_xor 1 (bit_xor (register / 2 ^ 16 % 2) (register / 2 ^ 13 % 2))

-- all bits, as a number, once n more have followed a register
unfoldable pub all_bits : ℕ → ℕ → ℕ
all_bits register zero = register
all_bits register (suc n) = all_bits register n * 2 + next_bit (all_bits register n)

-- the register after n more bits: the 17 latest
unfoldable pub register_after : ℕ → ℕ → ℕ
register_after register n = all_bits register n % 2 ^ 17

-- a block takes the register as it stands, and moves it on by so many bits, so that none is used twice
abbrev pub shifts : ℕ
shifts = 17

-- the one register that stands still: all ones
abbrev pub still : ℕ
still = 2 ^ 17 - 1
