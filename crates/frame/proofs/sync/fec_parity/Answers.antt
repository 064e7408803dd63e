-- `frame::sync::fec_parity` meets its contract: fields taken by shifts and masks are those of Table 45.
use native.Mathlib.Omega.{arith}
use Rattle.frame.proofs.Fields.{fec-down}
use Rattle.frame.proofs.sync.fec_parity.Goals as goal

pub returns : goal.returns
returns c = fec-down c.args.bits (omega arith)
