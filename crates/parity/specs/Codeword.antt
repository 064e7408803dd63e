-- The codes, their groups of blocks and their codewords: clauses 7.4.2, 7.4.3 and 7.5.2; document 01, "Parity"; request 5. Assumes nothing.
use Rattle.std.specs.Prelude.{List, ℕ, zero, suc, ◌+◌, ◌-◌, ◌*◌, ◌/◌, ◌%◌, ◌^◌, ltb}
use Rattle.std.specs.Int.Bits.{bit_xor}
use Rattle.bits.specs.Choice.{pick}
use Rattle.bits.specs.Order.{bits_of, list_from}
use Rattle.polynomial.specs.Polynomial.{scale, power}
use Rattle.polynomial.specs.Remainder.{remainder}

-- a code: its polynomial, and the groups of a multiblock's blocks that have a codeword each
pub record Code : Type 0 where
  pub width : ℕ  -- parity bits of a group
  pub lower : ℕ  -- the polynomial is x^width + lower
  pub positions : ℕ  -- a codeword's: data, and then parity
  pub limit : ℕ  -- the bits of the longest burst that the code is used for
  pub groups : ℕ
  pub blocks : ℕ  -- of a group

-- x^12 + x^9 + x^8 + x^3 + x^2 + x + 1
abbrev pub crc12 : Code
crc12 = record { width = 12; lower = 0x30F; positions = 2060; limit = 12; groups = 1; blocks = 32 }

-- x^26 + x^21 + x^17 + x^9 + x^4 + 1
abbrev pub fec : Code
fec = record { width = 26; lower = 0x0220211; positions = 2074; limit = 9; groups = 1; blocks = 32 }

-- x^3 + x + 1
abbrev pub crc3 : Code
crc3 = record { width = 3; lower = 0x3; positions = 515; limit = 3; groups = 4; blocks = 8 }

-- no parity: of no group
abbrev pub no_code : Code
no_code = record { width = 0; lower = 0; positions = 0; limit = 0; groups = 0; blocks = 0 }

-- the parity of some octets
unfoldable pub parity_of : Code → List ℕ → ℕ
parity_of C octets = remainder C.width C.lower (bits_of octets)

-- ---- the parity of a multiblock: its groups' remainders

-- the data bits of a group
abbrev pub data_bits : Code → ℕ
data_bits C = 64 * C.blocks

-- the remainder of group g of a multiblock's data bits
unfoldable pub group_parity : Code → (ℕ → ℕ) → ℕ → ℕ
group_parity C «data» g = remainder C.width C.lower (list_from «data» (data_bits C * g) (data_bits C))

-- n numbers of w bits as one number, the first the highest
unfoldable pub joined : ℕ → (ℕ → ℕ) → ℕ → ℕ
joined w f zero = 0
joined w f (suc n) = joined w f n * 2 ^ w + f n

-- all of them, as one number
unfoldable pub multiblock_parity : Code → (ℕ → ℕ) → ℕ
multiblock_parity C «data» = joined C.width (group_parity C «data») C.groups

-- ---- the codeword of a group

-- position p of a codeword weighs x to the number of positions after it
unfoldable pub weight : Code → ℕ → ℕ
weight C p = power C.width C.lower (C.positions - 1 - p)

-- the codeword of some data and a parity: data first, then the parity's bits, highest first
unfoldable pub codeword : Code → (ℕ → ℕ) → ℕ → ℕ → ℕ
codeword C «data» parity p = pick (ltb p (C.positions - C.width)) («data» p) (parity / 2 ^ (C.positions - 1 - p) % 2)

-- the sum of the weights of those of the n positions from p on that f sets
unfoldable pub weighed : Code → (ℕ → ℕ) → ℕ → ℕ → ℕ
weighed C f p zero = 0
weighed C f p (suc n) = bit_xor (scale (f p) (weight C p)) (weighed C f (suc p) n)

-- the remainder that a set of positions makes: the sum of all their weights
unfoldable pub remainder_of : Code → (ℕ → ℕ) → ℕ
remainder_of C f = weighed C f 0 C.positions
