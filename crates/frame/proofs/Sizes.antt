-- How many octets a multiblock makes: document 01, "From octets to lane bits". Assumes nothing.
use mathlib.Core.Path.{◌≡◌, refl}
use mathlib.Core.List.{List}
use Prim.Native.Nat.{ℕ, ◌*◌, ◌<◌}
use native.Mathlib.Omega.{arith}
use lib.ListN.{length}
use Rattle.bits.specs.Order.{octets_of}
use Rattle.bits.proofs.Octets.{length-octets_of}
use Rattle.frame.specs.Lane.{block_width, lane_octets, multiblock, multiblock_bit}

-- there are some
pub octets-some : (gap : ℕ) → 0 < lane_octets gap
unfolding lane_octets block_width
octets-some gap = omega arith

-- blocks of 66 bits, and of 80
pub width-66 : block_width 0 ≡ 66
unfolding block_width
width-66 = refl

pub width-80 : block_width 2 ≡ 80
unfolding block_width
width-80 = refl

pub octets-66 : lane_octets 0 ≡ 264
unfolding lane_octets block_width
octets-66 = refl

pub octets-80 : lane_octets 2 ≡ 320
unfolding lane_octets block_width
octets-80 = refl

-- bits of a block
pub width_some : (gap : ℕ) → 0 < block_width gap
unfolding block_width
width_some gap = omega arith

-- 32 blocks
pub octets-blocks : (gap : ℕ) → 8 * lane_octets gap ≡ block_width gap * 32
unfolding lane_octets
octets-blocks gap = omega arith

pub multiblock-octets : (gap register sync : ℕ) (octets : List ℕ) → octets_of (multiblock_bit gap register sync octets) (lane_octets gap) ≡ multiblock gap register sync octets
unfolding multiblock
multiblock-octets gap register sync octets = refl

pub length-multiblock : (gap register sync : ℕ) (octets : List ℕ) → length (multiblock gap register sync octets) ≡ lane_octets gap
unfolding multiblock
length-multiblock gap register sync octets = length-octets_of (multiblock_bit gap register sync octets) (lane_octets gap)
