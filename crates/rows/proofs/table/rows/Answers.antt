-- `rows::table::rows` meets its contract: one test for each row, which the checker computes.
use Rattle.bits.specs.Order.{digits}
use Rattle.bits.proofs.Tests.{same}
use Rattle.polynomial.specs.Polynomial.{scale, times_x, times_power}
use Rattle.polynomial.specs.Remainder.{next, remainder_from}
use Rattle.rows.proofs.Summed.{summed}
use Rattle.rows.proofs.Rows.{moved, by_bits, table}
use Rattle.rows.proofs.table.rows.Goals as goal

pub returns : goal.returns
unfolding by_bits same summed moved times_power times_x scale remainder_from next digits
returns c = table 12 0x30F 0 _ tt
