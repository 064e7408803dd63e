use Prim.Native.Nat.{◌≤◌}
use mathlib.Core.Path.{◌≡◌}
use lib.Bits.{bit_xor}
use Rattle.rows.proofs.Blocks.{rest_from}
use Rattle.rows.proofs.next_block.Given as goal

abbrev pub invariant-loop-k : goal.invariant-loop-k
invariant-loop-k g l =
    let block = bit_xor (g.B.Block.word l.block) l.over in
    (l.k ≤ 8) × (bit_xor l.s (rest_from 12 0x30F block l.k) ≡ rest_from 12 0x30F block 0)
