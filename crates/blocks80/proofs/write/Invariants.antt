use Prim.Native.Nat.{◌-◌, ◌*◌, ◌≤◌}
use mathlib.Core.Path.{◌≡◌}
use Rattle.bits.specs.Order.{octets_of, word_bit, laid}
use Rattle.fill.specs.Register.{register_after, shifts}
use Rattle.frame.specs.Lane.{multiblock_bit}
use Rattle.blocks80.proofs.write.Given as goal

-- the lane up to a block, and the register that the block takes
abbrev pub invariant-loop-block : goal.invariant-loop-block
invariant-loop-block l =
    (l.block ≤ 32)
    × (l.fill ≡ register_after l.register (shifts * l.block))
    × (l.lane ≡ laid (octets_of (multiblock_bit 2 l.register l.sync (octets_of (word_bit l.blocks) 256)) (10 * l.block)) l.initial.lane)

abbrev pub decreases-loop-block : goal.decreases-loop-block
decreases-loop-block l = 32 - l.block
