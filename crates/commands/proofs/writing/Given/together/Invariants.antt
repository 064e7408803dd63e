use mathlib.Core.Path.{◌≡◌}
use Rattle.commands.specs.Words.{together}
use Rattle.commands.specs.Writing.{message_word}
use Rattle.commands.proofs.writing.Given.together.Given as goal

abbrev pub invariant-loop-j : goal.invariant-loop-j
invariant-loop-j l = l.v ≡ together (message_word l.self.code l.self.payload.now) l.at l.j
