use Prim.Native.Nat.{◌^◌, ◌≤◌, ◌<◌}
use mathlib.Core.Path.{◌≡◌}
use Rattle.bits.specs.Order.{digits}
use Rattle.polynomial.specs.Remainder.{remainder_from}
use Rattle.parity.proofs.bitwise.Polynomial.next_octet.Given as goal

abbrev pub invariant-loop-k : goal.invariant-loop-k
invariant-loop-k l = (l.k ≤ 8) × (l.s < 2 ^ l.self.width) × (remainder_from l.self.width l.self.lower l.s (digits l.k l.octet) ≡ remainder_from l.self.width l.self.lower l.r (digits 8 l.octet))
