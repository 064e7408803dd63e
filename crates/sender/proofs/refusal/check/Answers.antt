use Prim.Native.Nat.{◌/◌}
use native.Mathlib.Omega.{arith}
use lib.ListN.{length}
use Rattle.frame.proofs.Rows.{lane-fits, longest-is}
use Rattle.sender.proofs.refusal.check.Goals as goal

pub overflow_mul-numbers : goal.overflow_mul-numbers
overflow_mul-numbers c =
    let a = c.args in
    let fits = lane-fits a.mode (length a.user.now / 256) (rw (← c.row_of-row.ensures) c.if-count-row.false) in
    rw (c.numbers_of-numbers.ensures, c.row_of-row.ensures) (omega (arith, fits, longest-is))
