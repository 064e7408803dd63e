use mathlib.Core.Path.{◌≡◌, sym, ◌∙◌}
use Prim.Native.Nat.{◌-◌, ◌/◌, ◌^◌}
use native.Mathlib.Omega.{arith}
use lib.Bits.{bit_and, and_mask}
use Rattle.bits.specs.Order.{digit}
use Rattle.bits.proofs.Numbers.{digit_at, digit_lt}
use Rattle.fill.proofs.Table38.{packed_lt}
use Rattle.frame.proofs.Gathering.{header_of-bit}
use Rattle.blocks80.proofs.pairs_of.Goals as goal

pub returns : goal.returns
returns c =
    let a = c.args in
    let bit : digit 32 a.sync a.block ≡ bit_and (a.sync / 2 ^ (31 - a.block)) 1 = digit_at 32 a.sync a.block ∙ sym (and_mask (a.sync / 2 ^ (31 - a.block)) 1) in
    omega (arith, c.from.ensures, c.from-2.ensures, bit, header_of-bit (digit 32 a.sync a.block) (digit_lt 32 a.sync a.block), c.pairs.ensures, packed_lt a.register)
