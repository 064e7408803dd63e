use native.Mathlib.Nat.{div-le_self}
use native.Mathlib.Omega.{arith}
use Rattle.frame.proofs.Rows.{most-is}
use Rattle.text.proofs.messages.multiblock_of.Goals as goal

pub overflow_cast-result : goal.overflow_cast-result
overflow_cast-result c = omega (arith, div-le_self c.args.word c.args.n, c.requires.1, most-is)
