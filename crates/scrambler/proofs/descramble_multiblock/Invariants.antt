use Prim.Native.Nat.{◌*◌, ◌%◌, ◌^◌, ◌≤◌}
use mathlib.Core.Path.{◌≡◌}
use Rattle.bits.specs.Order.{bit_at, octets_of, laid}
use Rattle.scrambler.specs.Scrambling.{plain}
use Rattle.scrambler.proofs.Scrambling.{all_come}
use Rattle.scrambler.proofs.descramble_multiblock.Given as goal

abbrev pub invariant-loop-i : goal.invariant-loop-i
invariant-loop-i l =
    (l.i ≤ 32) × (l.past ≡ all_come l.history (bit_at l.octets) (64 * l.i) % 2 ^ 58) × (l.out ≡ laid (octets_of (plain l.history (bit_at l.octets)) (8 * l.i)) l.initial.out)
