use Rattle.std.proofs.Common.{rules}
use Prim.Native.Nat.{ℕ, ◌+◌}
use mathlib.Core.Path.{sym, ap, ◌∙◌}
use native.Mathlib.Omega.{arith}
use Rattle.bits.proofs.Lists.{bits_from, from_start}
use Rattle.polynomial.specs.Remainder.{remainder_from}
use Rattle.polynomial.proofs.Remainder.{from-lt}
use Rattle.polynomial.proofs.Register.{next-octets, no-octets}
use Rattle.parity.proofs.bitwise.Polynomial.rest.Goals as goal

pub loop-octet-init : goal.loop-octet-init
loop-octet-init c = let a = c.args in (search rules, c.requires, ap (remainder_from a.self.width a.self.lower a.r) (from_start a.octets.now))

pub loop-octet-preserved : goal.loop-octet-preserved
loop-octet-preserved c =
    let l = c.loop-octet in
    let a = c.args in
    let e = c.next_octet-s.ensures in (
      search rules,
      rw e (from-lt a.self.width a.self.lower a.self.reduced l.s _ l.invariant.1),
      ap (λ (s : ℕ). remainder_from a.self.width a.self.lower s (bits_from a.octets.now (l.octet-index + 1))) e
          ∙ next-octets a.self.width a.self.lower l.s l.octet-index a.octets.now (omega arith) ∙ l.invariant.2,
    )

pub returns : goal.returns
returns c =
    let l = c.loop-octet in
    let a = c.args in
    sym (no-octets a.self.width a.self.lower l.s l.octet-index a.octets.now (omega arith)) ∙ l.invariant.2
