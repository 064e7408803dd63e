use mathlib.Core.Path.{sym}
use native.Mathlib.Omega.{arith}
use Rattle.blocks66.proofs.Packing.{header-of-one, header-of-zero}
use Rattle.blocks66.proofs.header_of.Goals as goal

pub returns-then-sync-block-eq1 : goal.returns-then-sync-block-eq1
returns-then-sync-block-eq1 c = sym (header-of-one c.args.sync c.args.block (omega arith))

pub returns-else-sync-block-eq1 : goal.returns-else-sync-block-eq1
returns-else-sync-block-eq1 c = sym (header-of-zero c.args.sync c.args.block (λ e. omega arith))
