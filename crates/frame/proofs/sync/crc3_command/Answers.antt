-- `frame::sync::crc3_command` meets its contract: fields taken by shifts and masks are those of Table 43.
use native.Mathlib.Omega.{arith}
use Rattle.frame.proofs.Fields.{crc3-command-down}
use Rattle.frame.proofs.sync.crc3_command.Goals as goal

pub returns : goal.returns
returns c = crc3-command-down c.args.bits (omega arith)
