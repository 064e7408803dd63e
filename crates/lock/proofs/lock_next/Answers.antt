use Rattle.lock.proofs.Accepted.{accepted-parts}
use Rattle.lock.proofs.lock_next.Goals as goal

pub next-after-requires : goal.next-after-requires
next-after-requires c = (accepted-parts c.args.width c.args.period c.args.lock c.requires).header

pub extended_after-extended-requires : goal.extended_after-extended-requires
extended_after-extended-requires c = (accepted-parts c.args.width c.args.period c.args.lock c.requires).extended
