use native.Mathlib.Omega.{arith}
use Prim.Native.Nat.{ℕ, ◌+◌, ◌-◌, ◌*◌}
use mathlib.Core.Path.{◌≡◌, ap}
use lib.ListN.{take, drop}
use Rattle.sender.proofs.Turns.{held_none, held_more}
use Rattle.sender.proofs.run.send_all.Goals as goal

pub loop-k-init : goal.loop-k-init
loop-k-init c = let a = c.args in held_none a.layout.row a.e a.start a.user.now a.commands.now a.lane.now c.requires.2

pub loop-k-preserved : goal.loop-k-preserved
loop-k-preserved c =
    let a = c.args in
    let l = c.loop-k in
    let one = c.send_one-state in
    let w : 256 * l.k + 256 - 256 * l.k ≡ 256 = omega arith in
    held_more a.layout a.e a.start a.user.now a.commands.now a.lane.now l.k l.state l.lane c.loop-k-test.true c.requires.1 l.invariant
    _ one.result _ (ap (λ (n : ℕ). take n (drop (256 * l.k) a.user.now)) w) one.auto.lane one.ensures.value one.ensures.lane_after
