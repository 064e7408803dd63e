use Prim.Native.Nat.{◌^◌, ◌≤◌, ◌<◌}
use mathlib.Core.Path.{◌≡◌}
use lib.ListN.{length}
use Rattle.bits.specs.Order.{bits_of}
use Rattle.bits.proofs.Lists.{bits_from}
use Rattle.polynomial.specs.Remainder.{remainder_from}
use Rattle.parity.proofs.bitwise.Polynomial.rest.Given as goal

abbrev pub invariant-loop-octet : goal.invariant-loop-octet
invariant-loop-octet l =
    (l.octet-index ≤ length l.octets) × (l.s < 2 ^ l.self.width) × (remainder_from l.self.width l.self.lower l.s (bits_from l.octets l.octet-index) ≡ remainder_from l.self.width l.self.lower l.r (bits_of l.octets))
