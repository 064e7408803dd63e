use Rattle.sender.proofs.Turns.{Held}
use Rattle.sender.proofs.run.send_all.Given as goal

abbrev pub invariant-loop-k : goal.invariant-loop-k
invariant-loop-k l = Held l.layout.row l.e l.initial.state l.user l.commands l.initial.lane l.k l.state l.lane
