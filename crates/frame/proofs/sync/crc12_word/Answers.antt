-- `frame::sync::crc12_word` meets its contract: fields moved by shifts and masks are those of Table 41.
use native.Mathlib.Omega.{arith}
use Rattle.frame.proofs.Fields.{crc12-word}
use Rattle.frame.proofs.sync.crc12_word.Goals as goal

pub returns : goal.returns
returns c = let a = c.args in rw c.from-end.ensures (crc12-word a.parts a.command (omega arith) (omega arith) (omega arith) a.mark)
