use native.Mathlib.Omega.{arith}
use Rattle.polynomial.proofs.Crc3.{sum_left}
use Rattle.parity.proofs.group.left.Goals as goal

pub returns : goal.returns
returns c = sum_left c.args.sum (omega arith)
