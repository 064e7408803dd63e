use Prim.Native.Nat.{◌-◌, ◌≤◌}
use Rattle.bits.specs.Order.{bit_at}
use Rattle.receiver.proofs.Turns.{Held}
use Rattle.receiver.proofs.run.run.Given as goal

abbrev pub invariant-loop-k : goal.invariant-loop-k
invariant-loop-k l =
    (l.k ≤ l.n) × Held l.layout.row (bit_at l.lane) l.initial.state l.k l.state l.initial.octets l.initial.statuses l.initial.commands l.initial.places l.initial.patterns l.initial.invalid l.octets l.statuses l.commands l.places l.patterns l.invalid

abbrev pub decreases-loop-k : goal.decreases-loop-k
decreases-loop-k l = l.n - l.k
