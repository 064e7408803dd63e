-- `weights::table` meets its contract: one test over the whole table, which the checker computes.
use mathlib.Core.Path.{refl}
use Rattle.polynomial.specs.Polynomial.{scale, times_x}
use Rattle.weights.proofs.Powers.{table}
use Rattle.weights.proofs.table.Goals as goal

pub returns : goal.returns
unfolding scale times_x
returns c = table 26 0x0220211 2073 _ tt refl
