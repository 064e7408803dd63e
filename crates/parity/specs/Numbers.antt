-- What the numbers of the codes are, in the words of document 01, "Parity", and of request 5. Assumes nothing.
use Rattle.std.specs.Prelude.{◌≡◌, ℕ, ◌+◌, ◌*◌, ◌^◌}
use Rattle.polynomial.specs.Polynomial.{product}
use Rattle.parity.specs.Codeword.{Code, crc12, fec, crc3, data_bits}

-- parity bits, bits of a codeword, bits of the longest burst, groups, and the polynomial, whose coefficient of x^k is bit k
pub record Numbers (C : Code) (width positions limit groups polynomial : ℕ) : Type 0 where
  pub parity : C.width ≡ width
  pub codeword : C.positions ≡ positions
  pub bits : C.positions ≡ data_bits C + C.width  -- data, and then parity
  pub burst : C.limit ≡ limit
  pub number : C.groups ≡ groups
  pub all : C.groups * C.blocks ≡ 32  -- every block is in a group
  pub terms : 2 ^ C.width + C.lower ≡ polynomial

abbrev pub ParityNumbers : Type 0
ParityNumbers =
    Numbers crc12 12 2060 12 1 (2 ^ 12 + 2 ^ 9 + 2 ^ 8 + 2 ^ 3 + 2 ^ 2 + 2 + 1)
    × Numbers fec 26 2074 9 1 (2 ^ 26 + 2 ^ 21 + 2 ^ 17 + 2 ^ 9 + 2 ^ 4 + 1)
    × Numbers crc3 3 515 3 4 (2 ^ 3 + 2 + 1)

-- the FEC polynomial is (x^17 + 1)(x^9 + x^4 + 1)
abbrev pub FecFactors : Type 0
FecFactors = product (2 ^ 17 + 1) (2 ^ 9 + 2 ^ 4 + 1) ≡ 2 ^ fec.width + fec.lower
