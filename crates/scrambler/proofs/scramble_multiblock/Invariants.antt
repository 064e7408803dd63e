use Prim.Native.Nat.{◌*◌, ◌≤◌}
use mathlib.Core.Path.{◌≡◌}
use Rattle.bits.specs.Order.{bit_at, words_of, laid}
use Rattle.scrambler.specs.Scrambling.{sent, history_after}
use Rattle.scrambler.proofs.scramble_multiblock.Given as goal

abbrev pub invariant-loop-i : goal.invariant-loop-i
invariant-loop-i l =
    (l.i ≤ 32) × (l.past ≡ history_after (bit_at l.user) l.history (64 * l.i)) × (l.block-items ≡ laid (words_of (sent (bit_at l.user) l.history) l.i) l.initial.block-items)
