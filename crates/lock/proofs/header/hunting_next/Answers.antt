use native.Mathlib.Omega.{arith}
use Rattle.lock.proofs.HeaderRange.{header-in}
use Rattle.lock.proofs.header.hunting_next.Goals as goal

pub overflow_add-run : goal.overflow_add-run
overflow_add-run c = omega (arith, (header-in _ _ c.requires).run)

pub overflow_add-lock : goal.overflow_add-lock
overflow_add-lock c = omega (arith, (header-in _ _ c.requires).offset)

pub nonzero_rem-lock : goal.nonzero_rem-lock
nonzero_rem-lock c = omega (arith, (header-in _ _ c.requires).offset)
