-- `frame::sync::command_alone` meets its contract: fields taken by shifts and masks are those of Table 47.
use native.Mathlib.Omega.{arith}
use Rattle.frame.proofs.Fields.{alone-down}
use Rattle.frame.proofs.sync.command_alone.Goals as goal

pub returns : goal.returns
returns c = alone-down c.args.bits (omega arith)
