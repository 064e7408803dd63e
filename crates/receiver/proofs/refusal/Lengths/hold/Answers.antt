use native.Mathlib.Omega.{arith}
use Rattle.frame.proofs.Rows.{most-is}
use Rattle.receiver.proofs.refusal.Lengths.hold.Goals as goal

pub overflow_mul-k : goal.overflow_mul-k
overflow_mul-k c = omega (arith, most-is, c.requires)
