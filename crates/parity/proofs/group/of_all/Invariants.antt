use Prim.Native.Nat.{◌≤◌}
use mathlib.Core.Path.{◌≡◌}
use Rattle.parity.specs.Codeword.{crc3, group_parity, joined}
use Rattle.parity.proofs.group.of_all.Given as goal

abbrev pub invariant-loop-g : goal.invariant-loop-g
invariant-loop-g g l = (l.g ≤ 4) × (l.whole ≡ joined 3 (group_parity crc3 (g.B.Blocks.bit l.blocks)) l.g)
