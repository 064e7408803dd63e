-- `parity::Fec::burst` meets its contract: the table's powers are the weights, and a remainder wider than the parity is made by no burst.
use native.Mathlib.Omega.{arith}
use Rattle.std.specs.Prelude.{None}
use Rattle.parity.specs.Codeword.{fec, weight}
use Rattle.parity.proofs.Bursts.{fec-proper}
use Rattle.parity.proofs.Answer.{explained-lt, answer-is}
use Rattle.parity.proofs.Fec.burst.Goals as goal

pub search-requires-clause-weights_value : goal.search-requires-clause-weights_value
unfolding weight
search-requires-clause-weights_value c = c.table-table.ensures

pub returns-else-remainder : goal.returns-else-remainder
returns-else-remainder c = answer-is c.args.remainder None (λ place pattern e. omega (arith, explained-lt fec fec-proper e))
