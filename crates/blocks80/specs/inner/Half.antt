-- Half an 80-bit block: four times a pair of bits and an octet, 40 bits. Clause 7.1.2; request 2. Assumes nothing.
use Rattle.std.specs.Prelude.{ℕ, ◌+◌, ◌-◌, ◌*◌, ◌/◌, ◌%◌, ◌^◌}

-- four numbers, ten bits apart
abbrev pub four_tens : ℕ → ℕ → ℕ → ℕ → ℕ
four_tens a b c d = ((a * 1024 + b) * 1024 + c) * 1024 + d

-- pair k of some pairs, the first the lowest; octet k of four, the first the highest
abbrev pub pair_at : ℕ → ℕ → ℕ
pair_at pairs k = pairs / 2 ^ (2 * k) % 4

abbrev pub octet_at : ℕ → ℕ → ℕ
octet_at octets k = octets / 2 ^ (24 - 8 * k) % 256

unfoldable pub pairs_apart : ℕ → ℕ
pairs_apart pairs = four_tens (pair_at pairs 0) (pair_at pairs 1) (pair_at pairs 2) (pair_at pairs 3)

unfoldable pub octets_apart : ℕ → ℕ
octets_apart octets = four_tens (octet_at octets 0) (octet_at octets 1) (octet_at octets 2) (octet_at octets 3)

-- four pairs with an octet behind each
unfoldable pub half : ℕ → ℕ → ℕ
half pairs octets = pairs_apart pairs * 256 + octets_apart octets

-- the four octets of half a block
abbrev pub four_octets : ℕ → ℕ → ℕ → ℕ → ℕ
four_octets a b c d = ((a * 256 + b) * 256 + c) * 256 + d

unfoldable pub gathered : ℕ → ℕ
gathered half = four_octets (half / 2 ^ 30 % 256) (half / 2 ^ 20 % 256) (half / 2 ^ 10 % 256) (half % 256)
