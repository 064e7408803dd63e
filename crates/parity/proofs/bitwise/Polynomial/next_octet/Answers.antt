use Rattle.std.proofs.Common.{rules}
use Prim.Native.Nat.{ℕ, ◌-◌, ◌/◌, ◌^◌}
use mathlib.Core.Path.{◌≡◌, sym, ap, ◌∙◌}
use native.Mathlib.Omega.{arith}
use lib.Bits.{bit_and}
use Rattle.bits.specs.Order.{digits}
use Rattle.polynomial.specs.Remainder.{next, remainder_from}
use Rattle.polynomial.proofs.Remainder.{next-lt}
use Rattle.polynomial.proofs.Register.{next-digit, no-digits}
use Rattle.parity.proofs.bitwise.Polynomial.next_octet.Goals as goal

pub loop-k-preserved : goal.loop-k-preserved
loop-k-preserved c =
    let l = c.loop-k in
    let a = c.args in
    let e : c.next_bit-s.result ≡ next a.self.width a.self.lower l.s (bit_and (a.octet / 2 ^ (l.k - 1)) 1) =
    c.next_bit-s.ensures ∙ ap (λ (bits : ℕ). next a.self.width a.self.lower l.s (bit_and (bits / 2 ^ (l.k - 1)) 1)) c.from-bits.ensures in (
      search rules,
      rw e (next-lt a.self.width a.self.lower a.self.reduced l.s _),
      ap (λ (s : ℕ). remainder_from a.self.width a.self.lower s (digits (l.k - 1) a.octet)) e
          ∙ next-digit a.self.width a.self.lower l.s l.k a.octet (omega arith) ∙ l.invariant.2,
    )

pub returns : goal.returns
returns c =
    let l = c.loop-k in
    let a = c.args in
    sym (no-digits a.self.width a.self.lower l.s l.k a.octet (omega arith)) ∙ l.invariant.2
