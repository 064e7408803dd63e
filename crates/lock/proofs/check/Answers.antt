-- `lock::check` meets its contract: line by line of the table.
use mathlib.Core.Path.{sym, ◌∙◌}
use native.Mathlib.Omega.{arith}
use Rattle.frame.proofs.Rows.{extent-within}
use Rattle.lock.proofs.check.Goals as goal

pub overflow_mul-e : goal.overflow_mul-e
overflow_mul-e c = omega (arith, (extent-within _ (sym c.extent_fits.ensures ∙ c.if-not-extent_fits.false)).1)
