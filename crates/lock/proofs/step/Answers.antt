use mathlib.Core.Path.{sym}
use native.Mathlib.Omega.{arith}
use Rattle.frame.proofs.Rows.{extent-within}
use Rattle.lock.proofs.Accepted.{taken}
use Rattle.lock.proofs.step.Goals as goal

pub overflow_mul-e : goal.overflow_mul-e
overflow_mul-e c = let a = c.args in omega (arith, (extent-within a.e (taken a.mode a.e a.lock a.header (sym c.in_ok-check.ensures)).extent).1)

pub lock_next-requires : goal.lock_next-requires
lock_next-requires c = let a = c.args in rw c.width_of-width.ensures (taken a.mode a.e a.lock a.header (sym c.in_ok-check.ensures)).state
