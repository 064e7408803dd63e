use Prim.Native.Nat.{◌+◌, ◌-◌, ◌/◌, ◌^◌, ◌≤◌, ◌<◌}
use mathlib.Core.Path.{◌≡◌}
use lib.Bits.{bit_xor}
use Rattle.parity.specs.Codeword.{fec}
use Rattle.parity.proofs.Bursts.{pattern_sum}
use Rattle.parity.proofs.search.sum_of.Given as goal

abbrev pub invariant-loop-k : goal.invariant-loop-k
invariant-loop-k l =
    (l.k ≤ 9) × (l.pattern / 2 ^ l.k < 2 ^ (2074 - (l.place + l.k)))
    × (bit_xor l.sum (pattern_sum fec (9 - l.k) (l.place + l.k) (l.pattern / 2 ^ l.k)) ≡ pattern_sum fec 9 l.place l.pattern)
