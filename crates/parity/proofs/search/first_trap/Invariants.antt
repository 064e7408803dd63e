use Prim.Native.Nat.{◌-◌, ◌≤◌}
use Rattle.parity.proofs.Trap.{Gathered}
use Rattle.parity.proofs.search.first_trap.Given as goal

abbrev pub invariant-loop-k : goal.invariant-loop-k
invariant-loop-k l = (l.k ≤ 26) × Gathered l.remainder l.k l.trap l.power

abbrev pub decreases-loop-k : goal.decreases-loop-k
decreases-loop-k l = 26 - l.k
