use mathlib.Core.Path.{ap}
use Rattle.frame.specs.declared.modes.Numbers.{Numbers}
use Rattle.multiblock.proofs.Shapes.{own-shape}
use Rattle.sender.proofs.Entry.{in-bounds}
use Rattle.sender.proofs.send.Goals as goal

pub invariant_of-layout-clause-shaped : goal.invariant_of-layout-clause-shaped
invariant_of-layout-clause-shaped c = rw c.row_of-row.ensures (own-shape c.args.mode)

pub send_all-after-requires : goal.send_all-after-requires
send_all-after-requires c =
    let a = c.args in
    in-bounds a.mode a.e a.state a.user.now a.commands.now a.lane.now c.in_ok-check.ensures _ c.row_of-row.ensures _ (ap (λ (x : Numbers). x.octets) c.numbers_of-size.ensures)
