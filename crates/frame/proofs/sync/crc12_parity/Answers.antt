-- `frame::sync::crc12_parity` meets its contract: fields taken by shifts and masks are those of Table 41.
use native.Mathlib.Omega.{arith}
use Rattle.frame.proofs.Fields.{crc12-down}
use Rattle.frame.proofs.sync.crc12_parity.Goals as goal

pub returns : goal.returns
returns c = crc12-down c.args.bits (omega arith)
