use Prim.Native.Nat.{◌-◌, ◌*◌, ◌%◌, ◌^◌, ◌≤◌, ◌<◌}
use mathlib.Core.Path.{◌≡◌}
use Rattle.bits.specs.Order.{number, octets_of, word_bit, laid}
use Rattle.frame.specs.Lane.{multiblock_bit}
use Rattle.blocks66.proofs.write.Given as goal

-- the lane up to word `block`, and what the block before leaves for that word
abbrev pub invariant-loop-block : goal.invariant-loop-block
invariant-loop-block l =
    (l.block ≤ 32)
    × (l.before < 2 ^ 64)
    × (l.before % 2 ^ (2 * l.block) ≡ number (multiblock_bit 0 0 l.sync (octets_of (word_bit l.blocks) 256)) (64 * l.block) (2 * l.block))
    × (l.lane ≡ laid (octets_of (multiblock_bit 0 0 l.sync (octets_of (word_bit l.blocks) 256)) (8 * l.block)) l.initial.lane)

abbrev pub decreases-loop-block : goal.decreases-loop-block
decreases-loop-block l = 32 - l.block
