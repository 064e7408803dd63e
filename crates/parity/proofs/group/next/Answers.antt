use native.Mathlib.Omega.{arith}
use Rattle.polynomial.proofs.Crc3.{sum-next}
use Rattle.parity.proofs.group.next.Goals as goal

pub returns : goal.returns
returns c = sum-next c.args.sum c.args.block (omega arith)
