-- `frame::sync::crc3_word` meets its contract: fields moved by shifts and masks are those of Table 43.
use native.Mathlib.Omega.{arith}
use Rattle.frame.proofs.Fields.{crc3-word}
use Rattle.frame.proofs.sync.crc3_word.Goals as goal

pub returns : goal.returns
returns c = let a = c.args in rw c.from-parity.ensures (rw c.from-end.ensures (crc3-word a.parts a.command (omega arith) (omega arith) (omega arith) a.mark))
