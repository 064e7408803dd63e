use Prim.Native.Nat.{◌-◌, ◌*◌}
use lib.ListN.{length}
use Rattle.text.proofs.Events.{Begun}
use Rattle.text.proofs.messages.Commands.put_events.Given as goal

abbrev pub invariant-loop-read : goal.invariant-loop-read
invariant-loop-read l = Begun l.n l.self.commands.now l.start l.initial.text l.read l.at l.text

abbrev pub decreases-loop-read : goal.decreases-loop-read
decreases-loop-read l = l.n * length l.self.commands.now - l.read.begin
