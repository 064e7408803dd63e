use Rattle.std.proofs.Common.{◌≡◌, ◌*◌, ◌≤◌, length, map}
use Rattle.bits.specs.Order.{list_from, word_bit}
use Rattle.polynomial.specs.Remainder.{remainder_from}
use Rattle.rows.proofs.of_blocks.Given as goal

abbrev pub invariant-loop-block : goal.invariant-loop-block
invariant-loop-block g l =
    (l.block-index ≤ length l.blocks) × (l.s ≡ remainder_from 12 0x30F 0 (list_from (word_bit (map g.B.Block.word l.blocks)) 0 (64 * l.block-index)))
