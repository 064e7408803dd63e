use Prim.Native.Nat.{◌*◌}
use native.Mathlib.Omega.{arith}
use Rattle.blocks66.proofs.Packing.{two-words}
use Rattle.blocks66.proofs.data_in.Goals as goal

pub returns : goal.returns
returns c = two-words c.args.word c.args.next (2 * c.args.block) c.ranges.next.fits (omega arith)
