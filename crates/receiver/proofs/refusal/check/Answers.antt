-- `receiver::refusal::check` meets its contract: a multiblock has some octets, and a call takes no more of them than any mode.
use Prim.Native.Nat.{◌/◌}
use mathlib.Core.Path.{ap}
use native.Mathlib.Omega.{arith}
use Rattle.frame.specs.declared.modes.Numbers.{Numbers}
use Rattle.frame.specs.declared.modes.Row.{Row}
use Rattle.frame.proofs.Rows.{few}
use Rattle.frame.proofs.Sizes.{octets-some}
use Rattle.receiver.proofs.Refusals.{releases-le}
use Rattle.receiver.proofs.refusal.check.Goals as goal

pub nonzero_rem-lane : goal.nonzero_rem-lane
nonzero_rem-lane c = omega (arith, ap (λ (x : Numbers). x.octets) c.numbers_of-numbers.ensures, octets-some c.row_of-row.result.gap)

pub nonzero_div-n : goal.nonzero_div-n
nonzero_div-n c = omega (arith, ap (λ (x : Numbers). x.octets) c.numbers_of-numbers.ensures, octets-some c.row_of-row.result.gap)

pub hold-requires : goal.hold-requires
hold-requires c =
    let a = c.args in
    omega (arith, c.releases-k.ensures, releases-le a.state.waiting (a.lane / c.numbers_of-numbers.result.octets), c.if-n-row.false, ap (λ (x : Row). x.most) c.row_of-row.ensures, few a.mode)
