use Prim.Native.Nat.{◌-◌, ◌*◌, ◌≤◌}
use mathlib.Core.Path.{◌≡◌}
use lib.ListN.{length}
use Rattle.bits.specs.Order.{bit_at, number, octets_of, laid}
use Rattle.frame.specs.Lane.{first_bit, second_bit, data_bit}
use Rattle.blocks66.proofs.gather.Given as goal

abbrev pub invariant-loop-block : goal.invariant-loop-block
invariant-loop-block l =
    (l.block ≤ 32)
    × (length l.octets ≡ 256)
    × (l.first ≡ number (first_bit 0 (bit_at l.lane) 0) 0 l.block)
    × (l.second ≡ number (second_bit 0 (bit_at l.lane) 0) 0 l.block)
    × (l.word ≡ number (bit_at l.lane) (64 * l.block) 64)
    × (l.octets ≡ laid (octets_of (data_bit 0 (bit_at l.lane) 0) (8 * l.block)) l.initial.octets)

abbrev pub decreases-loop-block : goal.decreases-loop-block
decreases-loop-block l = 32 - l.block
