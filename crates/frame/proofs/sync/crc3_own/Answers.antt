-- `frame::sync::crc3_own` meets its contract: fields taken by shifts and masks are those of Table 43.
use native.Mathlib.Omega.{arith}
use Rattle.frame.proofs.Fields.{own-down}
use Rattle.frame.proofs.sync.crc3_own.Goals as goal

pub returns : goal.returns
returns c = own-down c.args.bits (omega arith)
