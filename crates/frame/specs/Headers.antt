-- Headers: clause 7.3.2; document 01, "From octets to lane bits"; request 1. Assumes nothing.
use Rattle.std.specs.Prelude.{Bool, true, false, [], ◌∷◌, ◌≡◌, ℕ, ◌+◌, ◌*◌, eqb, ltb}
use Rattle.std.specs.Int.Count.{ones}
use Rattle.bits.specs.Choice.{pick, bit_of}
use Rattle.bits.specs.Order.{list_from, number, digit}
use Rattle.frame.specs.declared.headers.Header.{Header}
use Rattle.frame.specs.declared.headers.Header.TheVariants.{One, Zero, Invalid}

-- ---- one header

-- a header's value: the bit sent first times 2, and the second
unfoldable pub value : ℕ → ℕ → ℕ
value a b = a * 2 + b

-- what a value reads as: 01 is one and 10 is zero; 00 and 11 are invalid, with the pair seen. A number above 3 is no header's: it is invalid
-- too, with that number
unfoldable pub header_read : ℕ → Header
header_read v = pick (eqb v 1) One (pick (eqb v 2) Zero (Invalid v))

-- the bit that a header carries: an invalid one is taken for 0
abbrev pub carries : Header → ℕ
carries One = 1
carries Zero = 0
carries (Invalid pair) = 0

abbrev pub invalid : Header → Bool
invalid One = false
invalid Zero = false
invalid (Invalid pair) = true

-- of 00, 01, 10 and 11, what is carried and what is invalid: as document 01 says it
abbrev pub HeaderValues : Type 0
HeaderValues =
    (list_from (λ v. carries (header_read v)) 0 4 ≡ 0 ∷ 1 ∷ 0 ∷ 0 ∷ [])
    × (list_from (λ v. bit_of (invalid (header_read v))) 0 4 ≡ 1 ∷ 0 ∷ 0 ∷ 1 ∷ [])

-- the value of the header that carries a bit
unfoldable pub header_of : ℕ → ℕ
header_of b = pick (eqb b 1) 1 2

-- ---- the 32 headers of a multiblock

-- the header of block t, of their first bits and their second bits as two numbers of 32 bits, with block 0's the highest; from block 32 on
-- nothing was seen, and it is read as 00, as what stands past the end of a lane is
unfoldable pub header_in : ℕ → ℕ → ℕ → Header
header_in first second t = header_read (pick (ltb t 32) (value (digit 32 first t) (digit 32 second t)) 0)

-- how many of 32 headers are invalid: the ones among 32 bits, a 1 for each
unfoldable pub invalid_among : (ℕ → Header) → ℕ
invalid_among headers = ones (number (λ t. bit_of (invalid (headers t))) 0 32)
