use Prim.Native.Nat.{◌*◌, ◌%◌, ◌^◌}
use native.Mathlib.Omega.{arith}
use native.Mathlib.Nat.{mod-eq_of_lt}
use Rattle.polynomial.proofs.Register.{times-x}
use Rattle.parity.proofs.search.times_x.Goals as goal

pub returns : goal.returns
returns c = times-x 26 0x0220211 c.args.r (c.args.r * 2 % 2 ^ 32) c.requires (mod-eq_of_lt (omega arith))
