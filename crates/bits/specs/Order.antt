-- The order of bits: octet by octet, most significant bit first. Clause 7.2.2; document 01, "From octets to lane bits".
-- A bit is a number, 0 or 1; a stream of bits is a function from places to bits. Assumes nothing.
use Rattle.std.specs.Prelude.{List, [], ◌∷◌, ◌++◌, ℕ, zero, suc, ◌+◌, ◌-◌, ◌*◌, ◌/◌, ◌%◌, ◌^◌, leb, get_or, length, take, drop}
use Rattle.bits.specs.Choice.{pick}

-- bit k of some octets; 0 past their end
unfoldable pub bit_at : List ℕ → ℕ → ℕ
bit_at octets k = get_or octets (k / 8) 0 / 2 ^ (7 - k % 8) % 2

-- the n bits of a stream from place k on, as a list
unfoldable pub list_from : (ℕ → ℕ) → ℕ → ℕ → List ℕ
list_from f k zero = []
list_from f k (suc n) = f k ∷ list_from f (suc k) n

-- all bits of some octets
unfoldable pub bits_of : List ℕ → List ℕ
bits_of octets = list_from (bit_at octets) 0 (8 * length octets)

-- the n bits of a stream from place k on, as a number: the first is the highest
unfoldable pub number : (ℕ → ℕ) → ℕ → ℕ → ℕ
number f k zero = 0
number f k (suc n) = number f k n * 2 + f (k + n)

-- the n low bits of a number, highest first: as a stream, and as a list
unfoldable pub digit : ℕ → ℕ → ℕ → ℕ
digit n v j = v / 2 ^ (n - 1 - j) % 2

unfoldable pub digits : ℕ → ℕ → List ℕ
digits zero v = []
digits (suc n) v = v / 2 ^ n % 2 ∷ digits n v

-- n octets made of a stream's bits
unfoldable pub octets_of : (ℕ → ℕ) → ℕ → List ℕ
octets_of f n = list_from (λ j. number f (8 * j) 8) 0 n

-- bit k of some words of 64 bits, the highest first; 0 past their end
unfoldable pub word_bit : List ℕ → ℕ → ℕ
word_bit words k = digit 64 (get_or words (k / 64) 0) (k % 64)

-- n words of 64 bits made of a stream's bits
unfoldable pub words_of : (ℕ → ℕ) → ℕ → List ℕ
words_of f n = list_from (λ i. number f (64 * i) 64) 0 n

-- the octets that some words of 64 bits hold
unfoldable pub octets_in : List ℕ → List ℕ
octets_in words = octets_of (word_bit words) (8 * length words)

-- a list laid over the start of another, which keeps the rest
unfoldable pub laid : List ℕ → List ℕ → List ℕ
laid new old = new ++ drop (length new) old

-- a list laid over another from a place on; where it does not fit, the other stays as it is
unfoldable pub laid_at : List ℕ → ℕ → List ℕ → List ℕ
laid_at new at old = pick (leb (at + length new) (length old)) (take at old ++ new ++ drop (at + length new) old) old
