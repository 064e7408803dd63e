-- `frame::sync::crc12_command` meets its contract: fields taken by shifts and masks are those of Table 41.
use native.Mathlib.Omega.{arith}
use Rattle.frame.proofs.Fields.{command-down}
use Rattle.frame.proofs.sync.crc12_command.Goals as goal

pub returns : goal.returns
returns c = command-down c.args.bits (omega arith)
