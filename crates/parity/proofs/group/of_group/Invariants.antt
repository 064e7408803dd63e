use Prim.Native.Nat.{◌*◌, ◌≤◌}
use mathlib.Core.Path.{◌≡◌}
use Rattle.bits.specs.Order.{list_from}
use Rattle.polynomial.specs.Remainder.{remainder_from}
use Rattle.polynomial.proofs.Crc3.{crc3_of}
use Rattle.parity.proofs.group.of_group.Given as goal

abbrev pub invariant-loop-k : goal.invariant-loop-k
invariant-loop-k g l = (l.k ≤ 8) × (crc3_of l.sum ≡ remainder_from 3 3 0 (list_from (g.B.Blocks.bit l.blocks) (512 * l.g) (64 * l.k)))
