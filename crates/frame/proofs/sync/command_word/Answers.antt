-- `frame::sync::command_word` meets its contract: fields moved by shifts and masks are those of Table 47.
use native.Mathlib.Omega.{arith}
use Rattle.frame.proofs.Fields.{command-word}
use Rattle.frame.proofs.sync.command_word.Goals as goal

pub returns : goal.returns
returns c = let a = c.args in rw c.from-end.ensures (command-word a.parts a.command (omega arith) (omega arith) (omega arith) a.mark)
