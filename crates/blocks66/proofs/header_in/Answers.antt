use Prim.Native.Nat.{◌*◌}
use native.Mathlib.Omega.{arith}
use Rattle.blocks66.proofs.Packing.{two-bits}
use Rattle.blocks66.proofs.header_in.Goals as goal

pub returns : goal.returns
returns c = two-bits c.args.word (2 * c.args.block) (omega arith)
