use mathlib.Core.Path.{◌≡◌}
use Rattle.bits.specs.Order.{list_from, laid}
use Rattle.commands.specs.Writing.{command_of}
use Rattle.commands.proofs.writing.Given.put.Given as goal

abbrev pub invariant-loop-k : goal.invariant-loop-k
invariant-loop-k l = l.commands ≡ laid (list_from (command_of l.self.each l.self.code l.self.payload.now) 0 l.k) l.initial.commands
