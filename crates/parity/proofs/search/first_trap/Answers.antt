use Rattle.std.proofs.Common.{rules}
use Rattle.parity.proofs.Trap.{gather_none, gather-more}
use Rattle.parity.proofs.search.first_trap.Goals as goal

pub loop-k-init : goal.loop-k-init
loop-k-init c = (search rules, gather_none c.args.remainder)

pub loop-k-preserved : goal.loop-k-preserved
loop-k-preserved c =
    let l = c.loop-k in (
      search rules,
      rw c.times_x-power.ensures (gather-more c.args.remainder l.k l.trap l.power (search rules) l.invariant.1),
    )
