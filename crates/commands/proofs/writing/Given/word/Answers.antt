use Prim.Native.Nat.{◌-◌}
use native.Mathlib.Omega.{arith}
use lib.Dec.{lit<}
use Rattle.bits.proofs.Bounds.{one_below}
use Rattle.commands.proofs.writing.Given.word.Goals as goal

pub overflow_add-result : goal.overflow_add-result
overflow_add-result c =
    let a = c.args in
    omega (arith, one_below 32 a.self.now.payload.now (lit< tt) a.self.now.fits (a.i - 1))
