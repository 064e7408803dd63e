-- Blocks and multiblocks on a lane: clauses 7.1.2, 7.1.3, 7.2.2 and 7.2.5; document 01, "From octets to lane bits"; request 2.
-- A lane is a stream of bits, `bit_at octets`; its first multiblock is multiblock 0. A block's shape is the gap between its data octets:
-- 0 bits, or 2 fill bits in blocks of 80 bits. Assumes nothing.
use Rattle.std.specs.Prelude.{Bool, ◌&&◌, List, [], ℕ, zero, suc, ◌+◌, ◌-◌, ◌*◌, ◌/◌, ◌%◌, ltb, leb, eqb, length}
use Rattle.bits.specs.Choice.{pick}
use Rattle.bits.specs.Order.{bit_at, digit, octets_of}
use Rattle.fill.specs.Register.{register_after, shifts, still}
use Rattle.fill.specs.Table38.{fill_bit}
use Rattle.frame.specs.declared.headers.Header.{Header}
use Rattle.frame.specs.Headers.{value, header_read, carries, invalid_among, header_of}

-- ---- where things stand

-- bits of a block: a header of 2, and eight octets with seven gaps
unfoldable pub block_width : ℕ → ℕ
block_width gap = 66 + 7 * gap

-- octets of a multiblock: 32 blocks
unfoldable pub lane_octets : ℕ → ℕ
lane_octets gap = 4 * block_width gap

-- the first bit of the header of block t of multiblock m
unfoldable pub header_place : ℕ → ℕ → ℕ → ℕ
header_place gap m t = block_width gap * (32 * m + t)

-- data bit q, of 2,048, of multiblock m
unfoldable pub data_place : ℕ → ℕ → ℕ → ℕ
data_place gap m q = header_place gap m (q / 64) + 2 + q % 64 + gap * (q % 64 / 8)

-- fill bit j of block t of multiblock m, where there are gaps: gap k is behind octet k
unfoldable pub fill_place : ℕ → ℕ → ℕ → ℕ → ℕ
fill_place gap m t j = header_place gap m t + 10 + (8 + gap) * (j / gap) + j % gap

-- whether bit x of a lane stands in a gap of its block: behind the header, past the eight bits of an octet
unfoldable pub in_gap : ℕ → ℕ → Bool
in_gap gap x =
    let o = x % block_width gap in
    leb 2 o && leb 8 ((o - 2) % (8 + gap))

-- ---- what is read of a lane

unfoldable pub data_bit : ℕ → (ℕ → ℕ) → ℕ → ℕ → ℕ
data_bit gap lane m q = lane (data_place gap m q)

-- the header of block t of multiblock m: its two bits, its value, and what it reads as
unfoldable pub first_bit : ℕ → (ℕ → ℕ) → ℕ → ℕ → ℕ
first_bit gap lane m t = lane (header_place gap m t)

unfoldable pub second_bit : ℕ → (ℕ → ℕ) → ℕ → ℕ → ℕ
second_bit gap lane m t = lane (header_place gap m t + 1)

unfoldable pub value_at : ℕ → (ℕ → ℕ) → ℕ → ℕ → ℕ
value_at gap lane m t = value (first_bit gap lane m t) (second_bit gap lane m t)

unfoldable pub header_at : ℕ → (ℕ → ℕ) → ℕ → ℕ → Header
header_at gap lane m t = header_read (value_at gap lane m t)

-- bit t of the sync word of multiblock m
unfoldable pub sync_bit : ℕ → (ℕ → ℕ) → ℕ → ℕ → ℕ
sync_bit gap lane m t = carries (header_at gap lane m t)

-- how many of the 32 headers of multiblock m are invalid (request 1)
unfoldable pub invalid_headers : ℕ → (ℕ → ℕ) → ℕ → ℕ
invalid_headers gap lane m = invalid_among (header_at gap lane m)

-- the 256 data octets of multiblock m, as they stand on the lane
unfoldable pub data_octets : ℕ → (ℕ → ℕ) → ℕ → List ℕ
data_octets gap lane m = octets_of (data_bit gap lane m) 256

-- the lane that a multiblock is read from: of one that is too short for it nothing is read, and all bits are 0
unfoldable pub lane_read : ℕ → List ℕ → ℕ → ℕ
lane_read gap lane = bit_at (pick (leb (lane_octets gap) (length lane)) lane [])

-- ---- what is written to a lane

-- bit o of a block: the header that carries a sync bit, then the data octets, with fill bits in the gaps between them
unfoldable pub block_bit : ℕ → ℕ → (ℕ → ℕ) → (ℕ → ℕ) → ℕ → ℕ
block_bit gap sync fill block zero = header_of sync / 2
block_bit gap sync fill block (suc zero) = header_of sync % 2
block_bit gap sync fill block (suc (suc o)) =
    let k = o / (8 + gap) in
    let j = o % (8 + gap) in
    pick (ltb j 8) (block (8 * k + j)) (fill (gap * k + (j - 8)))

-- bit x of the multiblock that carries a sync word of 32 bits and the data bits of some octets, and whose first block takes a fill register
unfoldable pub multiblock_bit : ℕ → ℕ → ℕ → List ℕ → ℕ → ℕ
multiblock_bit gap register sync octets x =
    let t = x / block_width gap in
    block_bit gap (digit 32 sync t) (fill_bit (register_after register (shifts * t))) (λ q. bit_at octets (64 * t + q)) (x % block_width gap)

unfoldable pub multiblock : ℕ → ℕ → ℕ → List ℕ → List ℕ
multiblock gap register sync octets = octets_of (multiblock_bit gap register sync octets) (lane_octets gap)

-- the register after a multiblock: it moves on with every block that has gaps to fill
unfoldable pub fill_after : ℕ → ℕ → ℕ
fill_after gap register = pick (eqb gap 0) register (register_after register (shifts * 32))

-- registers that a sender may have are below this: where there are gaps the one that stands still is none, and elsewhere 0 is the only one
abbrev pub fill_bound : ℕ → ℕ
fill_bound gap = pick (eqb gap 0) 1 still
