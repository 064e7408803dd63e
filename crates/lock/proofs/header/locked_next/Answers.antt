use native.Mathlib.Omega.{arith}
use Rattle.lock.proofs.HeaderRange.{header-in}
use Rattle.lock.proofs.header.locked_next.Goals as goal

pub overflow_add-run : goal.overflow_add-run
overflow_add-run c = omega (arith, (header-in _ _ c.requires).run)

pub overflow_add-bad : goal.overflow_add-bad
overflow_add-bad c = omega (arith, (header-in _ _ c.requires).bad)
