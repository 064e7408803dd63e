use Prim.Native.Nat.{◌-◌, ◌*◌, ◌^◌, ◌≤◌}
use mathlib.Core.Path.{◌≡◌}
use lib.ListN.{length}
use Rattle.bits.specs.Order.{bit_at, number}
use Rattle.bits.proofs.last_word.Given as goal

abbrev pub invariant-loop-i : goal.invariant-loop-i
invariant-loop-i l =
    (l.i-end ≡ length l.octets) × (l.i - l.at ≤ length l.octets - l.at) × (l.word ≡ number (bit_at l.octets) (8 * l.at) (8 * (l.i - l.at)) * 2 ^ (64 - 8 * (l.i - l.at)))
