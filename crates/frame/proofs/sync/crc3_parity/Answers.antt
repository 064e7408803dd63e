-- `frame::sync::crc3_parity` meets its contract: fields taken by shifts and masks are those of Table 43.
use native.Mathlib.Omega.{arith}
use Rattle.frame.proofs.Fields.{last-down}
use Rattle.frame.proofs.sync.crc3_parity.Goals as goal

pub returns : goal.returns
returns c = last-down c.args.bits (omega arith)
